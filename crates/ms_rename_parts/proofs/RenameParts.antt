-- What a renaming needs has starts in the order of the map, and what differs has starts that leave different functions.
use Rattle.std.proofs.Common.{◌≡◌, ℕ, ◌+◌, ◌*◌, ◌^◌, ◌<◌, ◌≤◌, ⊎_elim, Bool, false, IsTrue, List, ◌++◌, length, slice_get, Some, None, refl, sym, ap, subst, ◌∙◌, arith}
use Rattle.std.proofs.Math.Nat.{mul-le-mul_right}
use Rattle.std.proofs.lemmas.Bool.{cases_lt}
use Rattle.std.proofs.lemmas.List.{length-map}
use Rattle.std.proofs.lemmas.Option.{slice_get_within}
use Rattle.ms_list.specs.declared.word.Word.{Word}
use Rattle.ms_arena.specs.declared.node.Node.{Node}
use Rattle.ms_arena.specs.declared.node.Ref.{Ref}
use Rattle.ms_arena.specs.declared.node.Ref.TheVariants.{Leaf, Inner}
use Rattle.ms_arena.specs.Bits.{below_from}
use Rattle.ms_arena.specs.Diagram.{Bits, leaf_of}
use Rattle.ms_arena.specs.Target.{IsNeeded}
use Rattle.ms_arena.proofs.Canonicity.{same_reference}
use Rattle.ms_arena.proofs.Lists.{slice_get-held}
use Rattle.ms_arena.proofs.Paths.{leaf_of-leaf, leaf_of-node}
use Rattle.ms_arena.proofs.ReachLemmas.{leaf_of-tested}
use Rattle.ms_dfa_explore.specs.Explored.{IsFound, Origin, target_of}
use Rattle.ms_diagram.specs.Bring.{read_through}
use Rattle.ms_logic.specs.declared.mode.Order.{Order}
use Rattle.ms_logic.specs.Assignment.{Variable}
use Rattle.ms_logic_measures.specs.CallMeasures.{LeadsToReferences, LeaveSame, in_order_of}
use Rattle.ms_logic_measures.specs.Starts.{IsStartOver, Start, left_by, narrowed, next_at, part_of_letter, some_truth_values, state_at, whole_word, with_free_bits}
use Rattle.ms_logic_starts.specs.AtLeast.{IsAtLeastNumber}
use Rattle.ms_logic_starts.specs.NeededApart.{AreLedTo, IsLedTo, LeadToOneFunction}
use Rattle.ms_logic_starts.proofs.AtLeastLemmas.{at_most_count}
use Rattle.ms_logic_starts.proofs.NeededApartLemmas.{needed_lead_apart}
use Rattle.ms_logic_words.specs.Content.{Content, IsWordOver, count_of, first_state, is_in_letters, is_truth_value, last_state, sign_at, state_after}
use Rattle.ms_logic_words.specs.declared.sign.Sign.{Sign}
use Rattle.ms_minim.proofs.LettersLemmas.{AreLetters-append, state_after-append}
use Rattle.ms_product.specs.Widened.{behind_through, widened_findings}
use Rattle.ms_rename.specs.Renamed.{NeedsAtLeast, renamed_places}
use Rattle.ms_build_parts.proofs.Budgets.{leave_same}
use Rattle.ms_build_parts.proofs.Matching.{comparable, over_same}
use Rattle.ms_build_parts.specs.SaySame.{AreComparable}
use Rattle.ms_build_parts.specs.inner.Matched.{IsMatch}
use Rattle.ms_build_parts.proofs.Matching.{AreRoots, match_held, nexts, one_match, starts}
use Rattle.ms_rename_parts.specs.Laws.{RenamingsAreWithinBudget, RenamingsNeedFewParts}
use Rattle.ms_rename_parts.proofs.Arranged.{IsArranged}
use Rattle.ms_rename_parts.proofs.Arrangement.{arranged}
use Rattle.ms_rename_parts.proofs.Firsts.{bits_are, none_free, values, word_back, word_over}

module _ (content measure : Content Sign) (is : AreComparable content measure) where
  abbrev vs : List Variable
  vs = content.variables

  abbrev ws : List Variable
  ws = measure.variables

  pub as_many : length ws ≡ length vs
  as_many =
      let mine = length-map vs (λ (v : Variable). v.order) in
      let its = length-map ws (λ (v : Variable). v.order) in
      let equal = ap length is.same.orders in
      omega (arith, mine, its, equal)

  -- the state to which a word leads matches that to which it leads the measure
  word_match : (p : ℕ) → p < length content.states → (word : Word) → IsWordOver vs word → last_state content word ≡ p → IsMatch content measure p (last_state measure word)
  word_match p within word over leads = record {
    within = within;
    signs = λ letters are.
        let longer : Word = record { truth = word.truth; letters = word.letters ++ letters } in
        let first : last_state content longer ≡ state_after content p letters =
        state_after-append content (first_state content word.truth) word.letters letters ∙ ap (λ state. state_after content state letters) leads in
        let second : last_state measure longer ≡ state_after measure (last_state measure word) letters = state_after-append measure (first_state measure word.truth) word.letters letters in
        ap (sign_at content) (sym first)
        ∙ sym (is.same.signs longer (record { truth = over.truth; letters = AreLetters-append vs word.letters letters over.letters are }))
        ∙ ap (sign_at measure) second;
  }

  module _ (order : List Variable) (places : List ℕ) (in_order : IsArranged ws order places) where
    -- a word in the order that leads to a state which matches
    pub record IsWordTo (p : ℕ) : Type 0 where
      pub word : Word
      pub over : IsWordOver order word
      pub matched : IsMatch content measure p (state_at measure order word)

    word_to : (p : ℕ) → p < length content.states → IsWordTo p
    word_to p within =
        let reached = is.reached p within in
        let over = over_same vs ws reached.0 is.same.orders reached.1 in
        let back = word_back ws order places is.distinct in_order reached.0 over in
        record {
          word = narrowed ws reached.0 order;
          over = word_over ws order places is.distinct in_order reached.0;
          matched = subst (λ (word : Word). IsMatch content measure p (last_state measure word)) (sym back) (word_match p within reached.0 reached.1 reached.2);
        }

    module _ (count : ℕ) (least : NeedsAtLeast count content places) where
      abbrev nodes : List Node
      nodes = least.nodes

      -- the start leaves states that match those to which the reference leads
      abbrev Leads : Start → Ref → Type 0
      Leads start reference = (bits : Bits) → IsMatch content measure (leaf_of nodes reference bits) (left_by measure order start (read_through places bits))

      one_function : LeadToOneFunction (LeaveSame measure order) Leads nodes
      one_function one other left right alike first second bits =
          one_match content measure is (leaf_of nodes left bits) (leaf_of nodes right bits) (left_by measure order other (read_through places bits))
          (subst (λ q. IsMatch content measure (leaf_of nodes left bits) q) (alike (read_through places bits)) (first bits)) (second bits)

      -- a node leads where a root leads behind first bits below its variable
      pub record IsBehind (has_bit : Order → Bool) (root canonical : Ref) (i var : ℕ) (first : Bits) : Type 0 where
        pub within : i < length nodes
        pub roots : AreRoots content measure is has_bit root canonical
        pub function : (bits : Bits) → leaf_of nodes (Inner i) bits ≡ leaf_of content.nodes root (read_through places (below_from var first bits))

      module _ (has_bit : Order → Bool) (root canonical : Ref) (i var : ℕ) (first : Bits) (behind : IsBehind has_bit root canonical i var first) where
        abbrev own_values : List Bool
        own_values = values ws order places is.distinct in_order has_bit var first

        abbrev at_bits : Bits → ℕ
        at_bits bits = leaf_of measure.nodes canonical (read_through places (below_from var first bits))

        agree : (one other : Bits) → ((place : ℕ) (v : Variable) → slice_get ws place ≡ Some v → IsTrue (has_bit v.order) → one place ≡ other place)
            → leaf_of measure.nodes canonical one ≡ leaf_of measure.nodes canonical other
        agree one other same =
            leaf_of-tested measure.nodes is.other_ordered canonical one other behind.roots.also.valid
            (λ place tested. let found = behind.roots.also.tests place tested in same place found.0 found.1 found.2)

        free_at : (bits : Bits) → leaf_of measure.nodes canonical (with_free_bits has_bit order own_values ws (read_through places bits)) ≡ at_bits bits
        free_at bits = agree (with_free_bits has_bit order own_values ws (read_through places bits)) (read_through places (below_from var first bits))
            (λ place v held holds. bits_are ws order places is.distinct in_order has_bit var first place v held holds bits)

        matched : (bits : Bits) → IsMatch content measure (leaf_of nodes (Inner i) bits) (at_bits bits)
        matched bits =
            subst (λ p. IsMatch content measure p (at_bits bits)) (sym (behind.function bits)) (behind.roots.matched (read_through places (below_from var first bits)))

        -- some variable with a bit is read at the node's variable or behind, since the node has no single leaf
        not_all : count_of has_bit order ≤ length own_values → ⊥
        not_all full =
            let none : Bits = λ place. false in
            let only = leaf_of nodes (Inner i) none in
            let one_leaf : (bits : Bits) → leaf_of nodes (Inner i) bits ≡ leaf_of nodes (Leaf only) bits = λ bits.
            one_match content measure is (leaf_of nodes (Inner i) bits) only (at_bits none)
            (subst (λ q. IsMatch content measure (leaf_of nodes (Inner i) bits) q)
            (agree (read_through places (below_from var first bits)) (read_through places (below_from var first none))
            (λ place v held holds. none_free ws order places is.distinct in_order has_bit var first place v held holds full bits none))
            (matched bits))
            (matched none)
            ∙ sym (leaf_of-leaf nodes bits only)
            in
            let same : Inner i ≡ Leaf only = same_reference nodes least.ordered least.reduced (Inner i) (Leaf only) behind.within tt one_leaf in
            let never : ⊥ = cc in never

        -- so a start with these bits leads to it
        pub led_by : (start_of : List Bool → Start) → (length own_values < count_of has_bit order → IsStartOver order (start_of own_values))
            → ((rest : Bits) → left_by measure order (start_of own_values) rest ≡ leaf_of measure.nodes canonical (with_free_bits has_bit order own_values ws rest))
            → IsLedTo (IsStartOver order) Leads (Inner i)
        led_by start_of over leaves = ⊎_elim
            (λ few. (
              start_of own_values,
              over few,
              λ bits. subst (λ q. IsMatch content measure (leaf_of nodes (Inner i) bits) q) (sym (leaves (read_through places bits) ∙ free_at bits)) (matched bits),
            ))
            (λ full. absurd (not_all full))
            (cases_lt (length own_values) (count_of has_bit order))

      led_from_start : (i : ℕ) (node : Node) → slice_get nodes i ≡ Some node → IsNeeded nodes (target_of (widened_findings content places) None) node → IsLedTo (IsStartOver order) Leads (Inner i)
      led_from_start i node held needed =
          led_by is_truth_value content.start measure.start i node.var needed.0 (record {
            within = slice_get_within nodes i node held;
            roots = starts content measure is;
            function = λ bits. leaf_of-node nodes least.ordered bits i node held ∙ needed.1 bits;
          }) some_truth_values (λ few. few) (λ rest. refl)

      led_from_state : (p : ℕ) → p < length content.states → (i : ℕ) (node : Node) → slice_get nodes i ≡ Some node
          → IsNeeded nodes (target_of (widened_findings content places) (Some p)) node → IsLedTo (IsStartOver order) Leads (Inner i)
      led_from_state p within i node held needed =
          let state = slice_get-held content.states p within in
          let to = word_to p within in
          let there = match_held content measure is p (state_at measure order to.word) to.matched in
          led_by is_in_letters state.0.next there.0.next i node.var needed.0 (record {
            within = slice_get_within nodes i node held;
            roots = nexts content measure is p (state_at measure order to.word) state.0 there.0 to.matched state.1 there.1;
            function = λ bits.
                leaf_of-node nodes least.ordered bits i node held
                ∙ needed.1 bits
                ∙ ap (λ found. behind_through content places found (below_from node.var needed.0 bits)) state.1;
          }) (part_of_letter to.word) (λ few. (to.over, few))
          (λ rest. ap (λ found. next_at measure found (with_free_bits is_in_letters order (values ws order places is.distinct in_order is_in_letters node.var needed.0) ws rest)) there.1)

      led_node : (origin : Origin) → IsFound (widened_findings content places) origin → (i : ℕ) (node : Node) → slice_get nodes i ≡ Some node
          → IsNeeded nodes (target_of (widened_findings content places) origin) node → IsLedTo (IsStartOver order) Leads (Inner i)
      led_node None found i node held needed = led_from_start i node held needed
      led_node (Some p) found i node held needed = led_from_state p found i node held needed

      led_state : (p : ℕ) → p < length content.states → IsLedTo (IsStartOver order) Leads (Leaf p)
      led_state p within =
          let to = word_to p within in (
            whole_word to.word,
            to.over,
            λ bits. subst (λ state. IsMatch content measure state (state_at measure order to.word)) (sym (leaf_of-leaf nodes bits p)) to.matched,
          )

      all_led : AreLedTo (IsStartOver order) Leads nodes 0 (length nodes) (length content.states)
      all_led = record {
        within = omega arith;
        places = λ i from below.
            let held = slice_get-held nodes i (omega (arith, below)) in
            let needed = least.needed i held.0 held.1 in
            led_node needed.0 needed.1 i held.0 held.1 needed.2;
        numbers = led_state;
      }

      -- starts in the order lead the measure apart, as many as it needs
      pub apart : IsAtLeastNumber (LeaveSame measure order) (IsStartOver order) (length nodes + length content.states)
      apart = needed_lead_apart (IsStartOver order) (LeaveSame measure order) Leads nodes 0 (length nodes) (length content.states) all_led least.ordered least.reduced one_function

      pub few : (m : ℕ) → LeadsToReferences measure order m → count ≤ m
      few m counted =
          let less = at_most_count (LeaveSame measure order) (IsStartOver order) (leave_same measure order) (length nodes + length content.states) m apart counted in
          let many = least.many in
          omega (arith, less, many)

pub renamings_need_few_parts : RenamingsNeedFewParts
renamings_need_few_parts content measure numbers long is count least m counted =
    let both = comparable content measure is in
    few content measure both (in_order_of numbers measure.variables) (renamed_places numbers content.variables)
    (arranged numbers content.variables measure.variables long (as_many content measure both) is.distinct) count least m counted

-- a number is below the budget that its square makes
pub below_square : (limit n : ℕ) → limit < n → limit < n * n * 2 ^ 8
below_square limit n less =
    let some : 1 * n ≤ n * n = mul-le-mul_right n (omega (arith, less)) in
    omega (arith, some, less)

pub renamings_are_within_budget : RenamingsAreWithinBudget
renamings_are_within_budget content measure numbers long is limit lacks m r counted =
    let least = renamings_need_few_parts content measure numbers long is limit lacks m counted.made in
    below_square limit (m + r + 2) (omega (arith, least))
