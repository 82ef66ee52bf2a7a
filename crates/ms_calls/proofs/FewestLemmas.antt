-- What is needed for fewest states is led to by starts, and what has been made has no more parts than what was lent.
use Rattle.std.proofs.Common.{◌≡◌, ℕ, ◌+◌, ◌<◌, ◌≤◌, ⊎_elim, Bool, false, List, length, slice_get, slice_index_or, Option, Some, None, refl, sym, ap, subst, ◌∙◌, arith}
use Rattle.std.proofs.lemmas.Bool.{cases_lt}
use Rattle.std.proofs.lemmas.Option.{same_Some, slice_get_within}
use Rattle.ms_list.specs.declared.word.Word.{Word}
use Rattle.ms_arena.specs.declared.node.Node.{Node}
use Rattle.ms_arena.specs.declared.node.Ref.{Ref}
use Rattle.ms_arena.specs.declared.node.Ref.TheVariants.{Leaf, Inner}
use Rattle.ms_arena.specs.Bits.{below_from}
use Rattle.ms_arena.specs.Diagram.{Bits, end_at, leaf_of}
use Rattle.ms_arena.specs.Target.{IsNeeded}
use Rattle.ms_arena.proofs.Canonicity.{same_reference}
use Rattle.ms_arena.proofs.Lists.{slice_get-held}
use Rattle.ms_arena.proofs.Paths.{leaf_of-leaf, leaf_of-node}
use Rattle.ms_minim.specs.SignReading.{IsRead}
use Rattle.ms_dfa.proofs.OwnMeaningLemmas.{last_within}
use Rattle.ms_logic.specs.Assignment.{Variable}
use Rattle.ms_logic_measures.specs.CallMeasures.{HasReachedParts, LeaveSame}
use Rattle.ms_logic_measures.specs.Starts.{IsStartOver, Start, left_by, next_at, part_of_letter, some_truth_values, whole_word}
use Rattle.ms_logic_starts.specs.AtLeast.{IsAtLeastNumber}
use Rattle.ms_logic_starts.specs.NeededApart.{AreLedTo, IsLedTo, LeadToOneFunction}
use Rattle.ms_logic_starts.proofs.AtLeastLemmas.{at_most_count}
use Rattle.ms_logic_starts.proofs.NeededApartLemmas.{needed_lead_apart}
use Rattle.ms_logic_words.specs.Content.{AreLetters, Content, IsWordOver, StateOf, count_of, is_in_letters, is_truth_value, last_state, sign_at, state_after}
use Rattle.ms_logic_words.specs.declared.sign.Sign.{Sign}
use Rattle.ms_minim.specs.Needed.{NeedsAtLeast}
use Rattle.ms_logic_words.specs.Residual.{HaveDifferentResiduals, HaveEqualResiduals, HaveEqualSigns}
use Rattle.ms_minim.specs.inner.Partition.{behind, next_by}
use Rattle.ms_minim.specs.inner.Quotient.{IsNumberOf}
use Rattle.ms_minim.proofs.LettersLemmas.{over-with_letters, sign_of-with_letters, with_letters}
use Rattle.ms_calls.specs.Fewest.{FewestAreWithinMeasure, FewestHaveFewParts, FewestNeedFewParts}
use Rattle.ms_calls.specs.Products.{StandsAmong}
use Rattle.ms_calls.proofs.ConnectiveLemmas.{below_measure}
use Rattle.ms_calls.proofs.Given.{left_first, left_next, one_first, one_next, values}
use Rattle.ms_calls.proofs.Own.{as_read, distinct, left_is, state_own, word_of, word_of-over}
use Rattle.ms_calls.proofs.Parts.{leave_same}

module _ (content : Content Sign) (is : IsRead content) where
  abbrev vs : List Variable
  vs = content.variables

  own : StandsAmong content (λ place. place) content.variables
  own = record { ordered = is.ordered; closed = is.closed; distinct = distinct content is; leads = λ place v held. held }

  -- bits lead on from a state
  onward : (s : ℕ) (bits : Bits) → next_at content (slice_get content.states s) bits ≡ next_by content s bits
  onward s bits = by_found (slice_get content.states s)
    where
      by_found : (found : Option (StateOf Sign)) → next_at content found bits ≡ behind content found bits
      by_found None = refl
      by_found (Some state) = refl

  module _ (count : ℕ) (needs : NeedsAtLeast count content) where
    abbrev nodes : List Node
    nodes = needs.nodes

    abbrev HasNumber : ℕ → ℕ → Type 0
    HasNumber state number = IsNumberOf needs.classes needs.numbers state number

    -- a state has one number
    one_number : (state number other : ℕ) → HasNumber state number → HasNumber state other → number ≡ other
    one_number state number other first second =
        let class_is : first.class ≡ second.class = same_Some first.class second.class (sym first.class_is ∙ second.class_is) in
        needs.numbering.no_repeats number other (first.class, 0) first.number_is (second.number_is ∙ ap (λ (n : ℕ). Some (n, 0)) (sym class_is))

    -- the reference leads to the number of the state that the start leaves
    abbrev Leads : Start → Ref → Type 0
    Leads start reference = (bits : Bits) → HasNumber (left_by content vs start bits) (leaf_of nodes reference bits)

    one_function : LeadToOneFunction (LeaveSame content vs) Leads nodes
    one_function one other reference reference' alike first second bits =
        one_number (left_by content vs other bits) (leaf_of nodes reference bits) (leaf_of nodes reference' bits)
        (subst (λ s. HasNumber s (leaf_of nodes reference bits)) (alike bits) (first bits)) (second bits)

    -- a node at which first bits leave states is led to by a start with these bits, unless nothing is free
    module _ (i : ℕ) (within : i < length nodes) (state : Bits → ℕ) (function : (bits : Bits) → HasNumber (state bits) (leaf_of nodes (Inner i) bits)) where
      never_one : ((bits bits' : Bits) → state bits ≡ state bits') → ⊥
      never_one same =
          let none : Bits = λ place. false in
          let only = leaf_of nodes (Inner i) none in
          let one_leaf : (bits : Bits) → leaf_of nodes (Inner i) bits ≡ leaf_of nodes (Leaf only) bits = λ bits.
          one_number (state none) (leaf_of nodes (Inner i) bits) only (subst (λ s. HasNumber s (leaf_of nodes (Inner i) bits)) (same bits none) (function bits)) (function none)
          ∙ sym (leaf_of-leaf nodes bits only)
          in
          let equal : Inner i ≡ Leaf only = same_reference nodes needs.ordered needs.reduced (Inner i) (Leaf only) within tt one_leaf in
          let never : ⊥ = cc in never

      led_unless : (start : Start) (few all : ℕ) → (few < all → IsStartOver vs start) → ((bits : Bits) → left_by content vs start bits ≡ state bits)
          → (all ≤ few → (bits bits' : Bits) → state bits ≡ state bits') → IsLedTo (IsStartOver vs) Leads (Inner i)
      led_unless start few all over leaves same = ⊎_elim
          (λ less. (start, over less, λ bits. subst (λ s. HasNumber s (leaf_of nodes (Inner i) bits)) (sym (leaves bits)) (function bits)))
          (λ full. absurd (never_one (same full)))
          (cases_lt few all)

    led_first : (i : ℕ) (node : Node) → slice_get nodes i ≡ Some node
        → IsNeeded nodes (λ bits number. HasNumber (leaf_of content.nodes content.start bits) number) node
        → IsLedTo (IsStartOver vs) Leads (Inner i)
    led_first i node held needed =
        let first = needed.0 in
        let given = values is_truth_value vs (distinct content is) node.var first in
        led_unless i (slice_get_within nodes i node held) (λ bits. leaf_of content.nodes content.start (below_from node.var first bits))
        (λ bits. subst (HasNumber (leaf_of content.nodes content.start (below_from node.var first bits))) (sym (leaf_of-node nodes needs.ordered bits i node held)) (needed.1 bits))
        (some_truth_values given) (length given) (count_of is_truth_value vs) (λ less. less)
        (λ bits. left_first content (λ place. place) vs (distinct content is) own node.var first bits)
        (λ full bits bits'. one_first content (λ place. place) vs (distinct content is) own node.var first full bits bits')

    led_behind : (word : Word) → IsWordOver vs word → (i : ℕ) (node : Node) → slice_get nodes i ≡ Some node
        → IsNeeded nodes (λ bits number. HasNumber (next_by content (last_state content word) bits) number) node → IsLedTo (IsStartOver vs) Leads (Inner i)
    led_behind word over i node held needed =
        let first = needed.0 in
        let given = values is_in_letters vs (distinct content is) node.var first in
        let s = last_state content word in
        led_unless i (slice_get_within nodes i node held) (λ bits. next_at content (slice_get content.states s) (below_from node.var first bits))
        (λ bits.
        let at = below_from node.var first bits in
        subst (HasNumber (next_at content (slice_get content.states s) at)) (sym (leaf_of-node nodes needs.ordered bits i node held))
        (subst (λ state. HasNumber state (leaf_of nodes (end_at node bits) bits)) (sym (onward s at)) (needed.1 bits)))
        (part_of_letter word given) (length given) (count_of is_in_letters vs) (λ less. (over, less))
        (λ bits.
        left_next content (λ place. place) vs (distinct content is) own word node.var first bits
        ∙ ap (λ state. next_at content (slice_get content.states state) (below_from node.var first bits)) (state_own content is word over))
        (λ full bits bits'. one_next content (λ place. place) vs (distinct content is) own s node.var first full bits bits')

    all_led : AreLedTo (IsStartOver vs) Leads nodes 0 (length nodes) (length needs.numbers)
    all_led = record {
      within = omega arith;
      places = λ i from below.
          let held = slice_get-held nodes i (omega (arith, below)) in
          ⊎_elim (λ first. led_first i held.0 held.1 first) (λ later. led_behind later.0 later.1 i held.0 held.1 later.2) (needs.needed i held.0 held.1);
      numbers = λ number found.
          let to = needs.reached number found in (
            whole_word to.0,
            to.1,
            λ bits. subst (λ s. HasNumber s (leaf_of nodes (Leaf number) bits)) (sym (state_own content is to.0 to.1))
                (subst (HasNumber (last_state content to.0)) (sym (leaf_of-leaf nodes bits number)) to.2),
          );
    }

    -- so starts lead apart, as many as there are nodes and numbers
    pub few : (m : ℕ) → HasReachedParts content m → count ≤ m
    few m counted =
        let apart : IsAtLeastNumber (LeaveSame content vs) (IsStartOver vs) (length nodes + length needs.numbers)
        = needed_lead_apart (IsStartOver vs) (LeaveSame content vs) Leads nodes 0 (length nodes) (length needs.numbers) all_led needs.ordered needs.reduced one_function in
        let less = at_most_count (LeaveSame content vs) (IsStartOver vs) (leave_same content vs) (length nodes + length needs.numbers) m apart counted in
        let many = needs.many in
        omega (arith, less, many)

pub fewest_need_few_parts : FewestNeedFewParts
fewest_need_few_parts content is count needs m r measure = few content (as_read content is) count needs m measure.made

pub fewest_are_within_measure : FewestAreWithinMeasure
fewest_are_within_measure content is limit needs m r measure =
    let less = fewest_need_few_parts content is limit needs m r measure in below_measure limit m r (omega (arith, less))

-- automata of the same signs
abbrev HaveFewParts : Content Sign → Content Sign → Type 0
HaveFewParts content made =
    IsRead made → HaveEqualSigns content made → HaveDifferentResiduals made → (m n : ℕ) → HasReachedParts content m → HasReachedParts made n → n ≤ m

module _ (content other : Content Sign) (is : IsRead content) where
  -- the other over the same variables
  abbrev made : Content Sign
  made = record { mode = other.mode; variables = content.variables; start = other.start; states = other.states; nodes = other.nodes }

  module _ (is_made : IsRead made) (signs : HaveEqualSigns content made) (differ : HaveDifferentResiduals made) where
    behind_word : (word : Word) → IsWordOver content.variables word → (letters : List (List Bool)) → AreLetters content.variables letters
        → sign_at made (state_after made (last_state made word) letters) ≡ sign_at content (state_after content (last_state content word) letters)
    behind_word word over letters are =
        sym (sign_of-with_letters made word letters) ∙ signs (with_letters word letters) (over-with_letters content.variables word letters over are)
        ∙ sign_of-with_letters content word letters

    -- starts that leave the same of the first leave the same of this
    same_left : (one two : Start) → IsStartOver content.variables one → IsStartOver content.variables two → LeaveSame content content.variables one two
        → LeaveSame made content.variables one two
    same_left one two is_one is_two alike rest =
        let first = word_of content.variables one rest in
        let second = word_of content.variables two rest in
        let over_first = word_of-over content.variables one rest is_one in
        let over_second = word_of-over content.variables two rest is_two in
        let state : last_state content first ≡ last_state content second = sym (left_is content is one rest is_one) ∙ alike rest ∙ left_is content is two rest is_two in
        let residuals : HaveEqualResiduals made (last_state made first) (last_state made second) = λ letters are.
        behind_word first over_first letters are ∙ ap (λ s. sign_at content (state_after content s letters)) state
        ∙ sym (behind_word second over_second letters are) in
        left_is made is_made one rest is_one
        ∙ differ (last_state made first) (last_state made second) (last_within made is_made.closed first) (last_within made is_made.closed second) residuals
        ∙ sym (left_is made is_made two rest is_two)

    fewer : (m n : ℕ) → HasReachedParts content m → HasReachedParts made n → n ≤ m
    fewer m n counted mine =
        let apart : IsAtLeastNumber (LeaveSame content content.variables) (IsStartOver content.variables) n = record {
          chosen = mine.chosen;
          items = mine.items;
          different = λ i j default before within alike.
              mine.different i j default before within
              (same_left (slice_index_or mine.chosen i default) (slice_index_or mine.chosen j default) (mine.items i default (omega (arith, before, within))) (mine.items j default within) alike);
          count = (let all = mine.count in omega (arith, all));
        } in
        at_most_count (LeaveSame content content.variables) (IsStartOver content.variables) (leave_same content content.variables) n m apart counted

pub fewest_have_few_parts : FewestHaveFewParts
fewest_have_few_parts content other is is_made variables signs differ m n counted mine =
    let same : other ≡ made content other (as_read content is) = λ i. record { mode = other.mode; variables = variables i; start = other.start; states = other.states; nodes = other.nodes } in
    let few_parts : HaveFewParts content other = subst (HaveFewParts content) (sym same) (λ a s d k l. fewer content other (as_read content is) a s d k l) in
    few_parts (as_read other is_made) signs differ m n counted mine
