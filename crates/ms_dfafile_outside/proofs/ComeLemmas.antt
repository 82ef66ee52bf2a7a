-- What comes to a reference, and what comes to those behind it.
use Rattle.std.proofs.Common.{◌≡◌, ◌≢◌, ◌↔◌, ℕ, zero, suc, ◌+◌, ◌<◌, ◌≤◌, inl, inr, ⊎_elim, Bool, true, false, IsTrue, eqb, List, [], ◌∷◌, length, slice_get, Some, refl, sym, ap, ◌∙◌, arith}
use Rattle.std.specs.Option.{option_map}
use Rattle.std.proofs.lemmas.Bool.{cases_lt, eq-eqb, ne_eqb}
use Rattle.std.proofs.lemmas.Option.{same_Some, slice_get-map, slice_get_within}
use Rattle.ms_arena.specs.declared.node.Node.{Node}
use Rattle.ms_arena.specs.declared.node.Ref.{Ref}
use Rattle.ms_arena.specs.declared.node.Ref.TheVariants.{Leaf, Inner}
use Rattle.ms_arena.specs.Bits.{below_from, with_bit}
use Rattle.ms_arena.specs.Diagram.{Bits, leaf_of, IsValid, TestsAbove}
use Rattle.ms_arena.specs.Halves.{TestsFrom}
use Rattle.ms_arena.specs.Reach.{TestsOnly}
use Rattle.ms_arena.proofs.BitsLemmas.{AgreeAbove-below_from, below_from-first, below_from-later, with_bit-other, with_bit-same}
use Rattle.ms_arena.proofs.Canonicity.{end_for, leaf_of-above, leaf_of-end_for, TestsAbove-end_for}
use Rattle.ms_arena.proofs.Paths.{leaf_of-leaf}
use Rattle.ms_arena.proofs.ReachLemmas.{IsTested-end, IsTested-own}
use Rattle.ms_dfa.proofs.GatheredLemmas.{length-gathered}
use Rattle.ms_dfa.proofs.NarrowLemmas.{leaf_of-gathered}
use Rattle.ms_dfa.specs.Files.{MarksOutside}
use Rattle.ms_dfa.specs.Narrow.{gathered}
use Rattle.ms_dfa.specs.declared.plain.FileSign.{FileSign}
use Rattle.ms_dfa.specs.declared.plain.FileSign.TheVariants as signs
use Rattle.ms_list.specs.declared.word.Word.{Word}
use Rattle.ms_logic.specs.declared.mode.Order.{Order}
use Rattle.ms_logic.specs.declared.mode.Order.TheVariants.{Zero, One, Two}
use Rattle.ms_logic.specs.Assignment.{Variable}
use Rattle.ms_logic.specs.Lists.{AreRising}
use Rattle.ms_logic_words.specs.Content.{Content, HasValueAt, IsContent, IsWordOver, NamesPart, StateOf, is_in_letters, is_truth_value, last_state, next_from, next_state, sign_of}
use Rattle.ms_dfafile_outside.specs.declared.label.Label.{Label}
use Rattle.ms_dfafile_outside.specs.declared.label.Label.TheVariants.{Lost, Seen}
use Rattle.ms_dfafile_outside.specs.inner.Numbers.{IsNumberAt, full_set, one_if, one_more, rank, set_of}
use Rattle.ms_dfafile_outside.specs.inner.Labels.{HasCome, HasNoGap, IsLabel, IsLed, Stands, first_of, first_tested, level_behind, level_by, ones_at, orders_in}
use Rattle.ms_dfafile_outside.proofs.ClashLemmas.{clash, encodes, labels-agree}
use Rattle.ms_dfafile_outside.proofs.LabelLemmas.{full-from, full-to, label-same, one_more-cases, one_more-here}
use Rattle.ms_dfafile_outside.proofs.NumbersLemmas.{rank-none, zero-one}
use Rattle.ms_dfafile_outside.proofs.ContentLemmas.{valid-part}
use Rattle.ms_dfafile_outside.proofs.WordsLemmas.{last-with, number-within, ones-with, over-with, word_with}

-- nothing is in no set
set_of-none : (orders : List Order) → set_of orders (λ place. 0) ≡ 0
set_of-none [] = refl
set_of-none (Zero ∷ orders) = set_of-none orders
set_of-none (One ∷ orders) = let rest = set_of-none orders in omega (arith, rest)
set_of-none (Two ∷ orders) = set_of-none orders

pub start-label : (orders : List Order) → IsLabel orders (λ place. 0) (Seen 0)
start-label orders = record { once = λ place number. omega arith; is_set = sym (set_of-none orders) }

-- more numbers before one place than before another: one of them stands between
number-between : (orders : List Order) (level next : ℕ) → rank orders level < rank orders next → (place : ℕ) × IsNumberAt orders place × (level ≤ place) × (place < next)
number-between [] level next more = absurd (omega (arith, more))
number-between (order ∷ orders) level zero more = absurd (omega (arith, more))
number-between (Zero ∷ orders) zero (suc next) more =
    let found = number-between orders zero next (let none = rank-none orders in omega (arith, more, none)) in (suc found.0, found.1, omega arith, omega (arith, found.3))
number-between (One ∷ orders) zero (suc next) more = (0, refl, omega arith, omega arith)
number-between (Two ∷ orders) zero (suc next) more =
    let found = number-between orders zero next (let none = rank-none orders in omega (arith, more, none)) in (suc found.0, found.1, omega arith, omega (arith, found.3))
number-between (Zero ∷ orders) (suc level) (suc next) more = let found = number-between orders level next more in (suc found.0, found.1, omega (arith, found.2), omega (arith, found.3))
number-between (One ∷ orders) (suc level) (suc next) more = let found = number-between orders level next (omega (arith, more)) in (suc found.0, found.1, omega (arith, found.2), omega (arith, found.3))
number-between (Two ∷ orders) (suc level) (suc next) more = let found = number-between orders level next more in (suc found.0, found.1, omega (arith, found.2), omega (arith, found.3))

-- counts with a bit more
abbrev pub count_with : Bool → (ℕ → ℕ) → ℕ → ℕ → ℕ
count_with true count place = one_more count place
count_with false count place = count

pub count_with-here : (bit : Bool) (count : ℕ → ℕ) (place : ℕ) → count_with bit count place place ≡ count place + one_if bit
count_with-here true count place = one_more-here count place
count_with-here false count place = omega arith

pub count_with-other : (bit : Bool) (count : ℕ → ℕ) (place other : ℕ) → (other ≡ place → ⊥) → count_with bit count place other ≡ count other
count_with-other true count place other differ = ⊎_elim (λ here. absurd (differ here.0)) (λ apart. apart.1) (one_more-cases count place other)
count_with-other false count place other differ = refl

-- what is no number is another place than each number
pub value-order : (content : Content FileSign) (has_value : Order → Bool) (place : ℕ) → HasValueAt content.variables has_value place
    → (order : Order) × (slice_get (orders_in content) place ≡ Some order) × IsTrue (has_value order)
value-order content has_value place has =
    (has.0.order, slice_get-map (λ (v : Variable). v.order) content.variables place ∙ ap (option_map (λ (v : Variable). v.order)) has.1, has.2)

-- the level behind a variable with a bit in letters, and behind a truth value
level-letters : (all var : ℕ) (order : Order) → IsTrue (is_in_letters order) → level_by all var (Some order) ≡ var + 1
level-letters all var Zero is = let never : ⊥ = cc in absurd never
level-letters all var One is = refl
level-letters all var Two is = refl

level-truth : (all var : ℕ) (order : Order) → IsTrue (is_truth_value order) → level_by all var (Some order) ≡ all
level-truth all var Zero is = refl
level-truth all var One is = let never : ⊥ = cc in absurd never
level-truth all var Two is = let never : ⊥ = cc in absurd never

truth-number : (order : Order) → IsTrue (is_truth_value order) → Some order ≡ Some One → ⊥
truth-number Zero is same = zero-one same
truth-number One is same = let never : ⊥ = cc in absurd never
truth-number Two is same = let never : ⊥ = cc in absurd never

module _ (content : Content FileSign) where
  pub level-in_letters : (var : ℕ) → HasValueAt content.variables is_in_letters var → level_behind content var ≡ var + 1
  level-in_letters var has =
      let o = value-order content is_in_letters var has in ap (level_by (length content.variables) var) o.1 ∙ level-letters (length content.variables) var o.0 o.2

  pub level-of_truth : (var : ℕ) → HasValueAt content.variables is_truth_value var → level_behind content var ≡ length content.variables
  level-of_truth var has =
      let o = value-order content is_truth_value var has in ap (level_by (length content.variables) var) o.1 ∙ level-truth (length content.variables) var o.0 o.2

  pub truth-apart : (var place : ℕ) → HasValueAt content.variables is_truth_value var → IsNumberAt (orders_in content) place → place ≡ var → ⊥
  truth-apart var place has number same =
      let o = value-order content is_truth_value var has in
      truth-number o.0 o.2 (sym o.1 ∙ ap (slice_get (orders_in content)) (sym same) ∙ number)

  tests-end : (P : ℕ → Type 0) (place : ℕ) (node : Node) (bit : Bool) → slice_get content.nodes place ≡ Some node → TestsOnly content.nodes P (Inner place) → TestsOnly content.nodes P (end_for node bit)
  tests-end P place node bit held only var tested = only var (IsTested-end content.nodes place node bit var held tested)

  pub tests-own : (P : ℕ → Type 0) (place : ℕ) (node : Node) → slice_get content.nodes place ≡ Some node → TestsOnly content.nodes P (Inner place) → P node.var
  tests-own P place node held only = only node.var (IsTested-own content.nodes place node held)

  from-above : (var level : ℕ) (reference : Ref) → level ≡ var + 1 → TestsAbove content.nodes var reference → TestsFrom content.nodes level reference
  from-above var level (Leaf state) is above = tt
  from-above var level (Inner place) is above = λ node held. let more : var < node.var = above node held in omega (arith, more, is)

  pub from-start : (level : ℕ) (reference : Ref) → level ≡ 0 → TestsFrom content.nodes level reference
  from-start level (Leaf state) is = tt
  from-start level (Inner place) is = λ node held. omega (arith, is)

  module _ (rules : IsContent content) where
    -- to the start
    pub come-start : HasCome content content.start (Seen 0) (length content.variables)
    come-start = record {
      count = λ place. 0;
      is_label = start-label (orders_in content);
      leads = λ bits. record {
        word = record { truth = gathered is_truth_value 0 content.variables bits; letters = [] };
        over = record { truth = length-gathered is_truth_value content.variables bits 0; letters = tt };
        last = leaf_of-gathered content.nodes is_truth_value content.variables content.start bits rules.ordered (valid-part content content.start rules.start_named) rules.start_tests;
        before = λ place number below. refl;
        later = λ place number from. absurd (omega (arith, from, number-within content place number));
      };
      stands = inr (refl, rules.start_tests);
      within = omega arith;
    }

    -- what is read behind an end of a node
    pub stands-end : (place : ℕ) (node : Node) (bit : Bool) (level : ℕ) → slice_get content.nodes place ≡ Some node → Stands content (Inner place) level → Stands content (end_for node bit) (level_behind content node.var)
    stands-end place node bit level held stands = ⊎_elim
        (λ letters. inl (
          from-above node.var (level_behind content node.var) (end_for node bit) (level-in_letters node.var (tests-own (HasValueAt content.variables is_in_letters) place node held letters.1))
              (TestsAbove-end_for content.nodes rules.ordered place node bit held),
          tests-end (HasValueAt content.variables is_in_letters) place node bit held letters.1,
        ))
        (λ truth. inr (
          level-of_truth node.var (tests-own (HasValueAt content.variables is_truth_value) place node held truth.1),
          tests-end (HasValueAt content.variables is_truth_value) place node bit held truth.1,
        ))
        stands

    -- the bits behind a node's variable, and what they lead to
    module _ (place : ℕ) (node : Node) (held : slice_get content.nodes place ≡ Some node) (bit : Bool) (valid : IsValid content.nodes (end_for node bit)) where
      abbrev bits_behind : Bits → Bits
      bits_behind bits = below_from node.var (λ p. false) bits

      abbrev chosen_bits : Bits → Bits
      chosen_bits bits = with_bit (bits_behind bits) node.var bit

      chosen-leaf : (bits : Bits) → leaf_of content.nodes (Inner place) (chosen_bits bits) ≡ leaf_of content.nodes (end_for node bit) bits
      chosen-leaf bits =
          leaf_of-end_for content.nodes rules.ordered place node bit (bits_behind bits) held valid
          ∙ leaf_of-above content.nodes rules.ordered node.var (end_for node bit) (bits_behind bits) bits valid
          (TestsAbove-end_for content.nodes rules.ordered place node bit held) (AgreeAbove-below_from node.var node.var (λ p. false) bits (omega arith))

      chosen-before : (bits : Bits) (p : ℕ) → p < node.var → chosen_bits bits p ≡ false
      chosen-before bits p below =
          with_bit-other (bits_behind bits) node.var bit p (λ same. absurd (omega (arith, below, same))) ∙ below_from-first node.var (λ q. false) bits p below

      chosen-later : (bits : Bits) (p : ℕ) → node.var < p → chosen_bits bits p ≡ bits p
      chosen-later bits p above =
          with_bit-other (bits_behind bits) node.var bit p (λ same. absurd (omega (arith, above, same))) ∙ below_from-later node.var (λ q. false) bits p (omega (arith, above))

      -- to the end of a node
      come-letters : (label more : Label) (level : ℕ) (come : HasCome content (Inner place) label level) → level ≤ node.var → HasValueAt content.variables is_in_letters node.var
          → (bits : Bits) → IsLed content (end_for node bit) (count_with bit come.count node.var) (level_behind content node.var) bits
      come-letters label more level come from has bits =
          let led = come.leads (chosen_bits bits) in
          let behind = level-in_letters node.var has in
          record {
            word = led.word;
            over = led.over;
            last = led.last ∙ chosen-leaf bits;
            before = λ p number below. ⊎_elim
                (λ low. ⊎_elim
                (λ under. led.before p number under ∙ sym (count_with-other bit come.count node.var p (λ same. omega (arith, low, same))))
                (λ over. led.later p number over ∙ ap (λ b. come.count p + one_if b) (chosen-before bits p low)
                ∙ (let none : come.count p + 0 ≡ come.count p = omega arith in none) ∙ sym (count_with-other bit come.count node.var p (λ same. omega (arith, low, same))))
                (cases_lt p level))
                (λ high.
                let here : p ≡ node.var = omega (arith, high, below, behind) in
                led.later p number (omega (arith, high, from)) ∙ ap (λ b. come.count p + one_if b) (ap (chosen_bits bits) here ∙ with_bit-same (bits_behind bits) node.var bit)
                ∙ ap (λ q. come.count q + one_if bit) here ∙ sym (count_with-here bit come.count node.var) ∙ ap (count_with bit come.count node.var) (sym here))
                (cases_lt p node.var);
            later = λ p number above.
                let over : node.var < p = omega (arith, above, behind) in
                led.later p number (omega (arith, over, from)) ∙ ap (λ b. come.count p + one_if b) (chosen-later bits p over)
                ∙ ap (λ n. n + one_if (bits p)) (sym (count_with-other bit come.count node.var p (λ same. omega (arith, over, same))));
          }

      come-truth : (label more : Label) (level : ℕ) (come : HasCome content (Inner place) label level) → level ≡ length content.variables → HasValueAt content.variables is_truth_value node.var
          → (bits : Bits) → IsLed content (end_for node bit) (count_with bit come.count node.var) (level_behind content node.var) bits
      come-truth label more level come last_level has bits =
          let led = come.leads (with_bit bits node.var bit) in
          let behind = level-of_truth node.var has in
          record {
            word = led.word;
            over = led.over;
            last = led.last ∙ leaf_of-end_for content.nodes rules.ordered place node bit bits held valid;
            before = λ p number below. led.before p number (omega (arith, below, behind, last_level)) ∙ sym (count_with-other bit come.count node.var p (truth-apart node.var p has number));
            later = λ p number above. absurd (omega (arith, above, behind, number-within content p number));
          }

      pub come-end : (label more : Label) (level : ℕ) (come : HasCome content (Inner place) label level) → IsLabel (orders_in content) (count_with bit come.count node.var) more
          → HasCome content (end_for node bit) more (level_behind content node.var)
      come-end label more level come is = record {
        count = count_with bit come.count node.var;
        is_label = is;
        leads = ⊎_elim
            (λ letters. come-letters label more level come (letters.0 node held) (tests-own (HasValueAt content.variables is_in_letters) place node held letters.1))
            (λ truth. come-truth label more level come truth.0 (tests-own (HasValueAt content.variables is_truth_value) place node held truth.1))
            come.stands;
        stands = stands-end place node bit level held come.stands;
        within = ⊎_elim
            (λ letters.
            let has = tests-own (HasValueAt content.variables is_in_letters) place node held letters.1 in
            omega (arith, level-in_letters node.var has, slice_get_within content.variables node.var has.0 has.1))
            (λ truth. omega (arith, level-of_truth node.var (tests-own (HasValueAt content.variables is_truth_value) place node held truth.1)))
            come.stands;
      }

    -- a word that has come
    pub record IsWordThere (reference : Ref) (label : Label) : Type 0 where
      pub word : Word
      pub over : IsWordOver content.variables word
      pub last : last_state content word ≡ leaf_of content.nodes reference (λ place. false)
      pub is_label : IsLabel (orders_in content) (ones_at content.variables word.letters) label

    pub come-word : (reference : Ref) (label : Label) (level : ℕ) → HasCome content reference label level → IsWordThere reference label
    come-word reference label level come =
        let led = come.leads (λ place. false) in
        record {
          word = led.word;
          over = led.over;
          last = led.last;
          is_label = label-same (orders_in content) come.count (ones_at content.variables led.word.letters) label
              (λ p number. ⊎_elim (λ below. sym (led.before p number below)) (λ above. let same = led.later p number above in omega (arith, same)) (cases_lt p level))
              come.is_label;
        }

    -- to the reference of a state
    pub come-next : (place : ℕ) (label : Label) (level : ℕ) (state : StateOf FileSign) → slice_get content.states place ≡ Some state → HasCome content (Leaf place) label level
        → HasCome content state.next label 0
    come-next place label level state held come =
        let there = come-word (Leaf place) label level come in
        let last : last_state content there.word ≡ place = there.last ∙ leaf_of-leaf content.nodes (λ p. false) place in
        record {
          count = ones_at content.variables there.word.letters;
          is_label = there.is_label;
          leads = λ bits. record {
            word = word_with content there.word bits;
            over = over-with content there.word bits there.over;
            last = last-with content there.word bits
                ∙ ap (λ s. next_state content s (gathered is_in_letters 0 content.variables bits)) last
                ∙ ap (λ found. next_from content found (gathered is_in_letters 0 content.variables bits)) held
                ∙ leaf_of-gathered content.nodes is_in_letters content.variables state.next bits rules.ordered (valid-part content state.next (rules.next_named place state held)) (rules.next_tests place state held);
            before = λ p number below. absurd (omega (arith, below));
            later = λ p number from. ones-with content there.word bits p number;
          };
          stands = inl (from-start 0 state.next refl, rules.next_tests place state held);
          within = omega arith;
        }

    module _ (rising : AreRising content.variables) (marks : MarksOutside content) where
      -- two labels of one reference are one, where the rule is met
      pub come-agree : (reference : Ref) (label other : Label) (level from : ℕ) → HasCome content reference label level → HasCome content reference other from → label ≡ other
      come-agree reference label other level from come also =
          let one = come-word reference label level come in
          let two = come-word reference other from also in
          labels-agree content rising marks one.word two.word label other one.over two.over (one.last ∙ sym two.last) one.is_label two.is_label

      -- a state has its sign
      pub come-sign : (place : ℕ) (label : Label) (level : ℕ) (state : StateOf FileSign) → slice_get content.states place ≡ Some state → HasCome content (Leaf place) label level
          → (state.sign ≡ signs.Outside) ↔ (label ≢ Seen (full_set (orders_in content)))
      come-sign place label level state held come =
          let there = come-word (Leaf place) label level come in
          let last : last_state content there.word ≡ place = there.last ∙ leaf_of-leaf content.nodes (λ p. false) place in
          let sign : sign_of content there.word ≡ Some state.sign = ap (λ s. option_map (λ (found : StateOf FileSign). found.sign) (slice_get content.states s)) last ∙ ap (option_map (λ (found : StateOf FileSign). found.sign)) held in
          let encoding = encodes content rising there.word there.over in (
            λ is full. (marks there.word there.over).0 (sign ∙ ap (λ (s : FileSign). Some s) is)
                (encoding.1 (full-to (orders_in content) (ones_at content.variables there.word.letters) label there.is_label full)),
            λ partial. same_Some state.sign signs.Outside (sym sign ∙ (marks there.word there.over).1
                (λ found. partial (full-from (orders_in content) (ones_at content.variables there.word.letters) label there.is_label (encoding.0 found)))),
          )

      -- no number that might still have its 1 is passed
      pub come-gap : (reference : Ref) (label : Label) (level : ℕ) → NamesPart content reference → HasCome content reference label level → HasNoGap content reference label level
      come-gap reference Lost level named come = inl refl
      come-gap reference (Seen set) level named come = ⊎_elim
          (λ gap.
          let found = number-between (orders_in content) level (first_tested content reference) gap in
          let y = found.0 in
          let zero_bits : Bits = λ p. false in
          let one_bits : Bits = λ p. eqb p y in
          let one = come.leads zero_bits in
          let two = come.leads one_bits in
          let above : TestsAbove content.nodes y reference = tests-first reference y named found.3 in
          let same : leaf_of content.nodes reference zero_bits ≡ leaf_of content.nodes reference one_bits
          = leaf_of-above content.nodes rules.ordered y reference zero_bits one_bits (valid-part content reference named) above (λ p over. sym (ne_eqb p y (λ here. absurd (omega (arith, over, here))))) in
          let once : (p : ℕ) → IsNumberAt (orders_in content) p → ones_at content.variables one.word.letters p ≤ 1
          = λ p number. ⊎_elim (λ below. omega (arith, one.before p number below, come.is_label.once p number)) (λ over. omega (arith, one.later p number over, come.is_label.once p number)) (cases_lt p level) in
          let agree = clash content rising marks one.word two.word one.over two.over (one.last ∙ same ∙ sym two.last) once y found.1 in
          let none = one.later y found.1 found.2 in
          let some : ones_at content.variables two.word.letters y ≡ come.count y + 1 = two.later y found.1 found.2 ∙ ap (λ b. come.count y + one_if b) (eq-eqb y y refl) in
          absurd (omega (arith, agree, none, some)))
          (λ least. inr least)
          (cases_lt (rank (orders_in content) level) (rank (orders_in content) (first_tested content reference)))
        where
          tests-first : (r : Ref) (y : ℕ) → NamesPart content r → y < first_tested content r → TestsAbove content.nodes y r
          tests-first (Leaf state) y named below = tt
          tests-first (Inner place) y named below = λ node held. let first : first_of (length content.variables) (slice_get content.nodes place) ≡ node.var = ap (first_of (length content.variables)) held in omega (arith, below, first)
