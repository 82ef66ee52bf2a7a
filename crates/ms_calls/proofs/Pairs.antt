-- To each pair that is reached, and to each node that is needed, some start over all variables leads; starts that leave the same of both
-- operands lead alike.
use Rattle.std.proofs.Common.{◌≡◌, ℕ, ◌+◌, ◌<◌, ◌≤◌, ⊎_elim, Bool, false, List, [], ◌∷◌, ◌++◌, length, slice_get, slice_index, Some, None, refl, sym, ap, subst, ◌∙◌, arith}
use Rattle.std.proofs.lemmas.Bool.{cases_lt}
use Rattle.std.proofs.lemmas.Option.{slice_get_within}
use Rattle.ms_list.specs.declared.word.Word.{Word}
use Rattle.ms_arena.specs.declared.node.Node.{Node}
use Rattle.ms_arena.specs.declared.node.Ref.{Ref}
use Rattle.ms_arena.specs.declared.node.Ref.TheVariants.{Leaf, Inner}
use Rattle.ms_arena.specs.Bits.{below_from}
use Rattle.ms_arena.specs.Diagram.{Bits, leaf_of}
use Rattle.ms_arena.specs.Target.{IsNeeded}
use Rattle.ms_arena.proofs.Canonicity.{same_reference}
use Rattle.ms_arena.proofs.Lists.{slice_get-held}
use Rattle.ms_arena.proofs.Paths.{leaf_of-leaf, leaf_of-node}
use Rattle.ms_dfa_explore.specs.Explored.{IsFound, Origin, target_of}
use Rattle.ms_logic.specs.Assignment.{Variable}
use Rattle.ms_logic_measures.specs.CallMeasures.{LeadToPairs, LeaveSameOfBoth}
use Rattle.ms_logic_measures.specs.Starts.{IsStartOver, Start, left_by, part_of_letter, some_truth_values, state_at, whole_word}
use Rattle.ms_logic_starts.specs.AtLeast.{IsAtLeastNumber, IsEquivalence}
use Rattle.ms_logic_starts.specs.ContentStarts.{HaveDistinctNumbers}
use Rattle.ms_logic_starts.specs.NeededApart.{AreLedTo, IsLedTo, LeadToOneFunction}
use Rattle.ms_logic_starts.proofs.AtLeastLemmas.{at_most_count}
use Rattle.ms_logic_starts.proofs.NeededApartLemmas.{needed_lead_apart}
use Rattle.ms_logic_words.specs.Content.{AreLetters, Content, IsWordOver, count_of, is_in_letters, is_truth_value}
use Rattle.ms_product.specs.Pairing.{Operands, IsReachedPair, ReachedAreAtLeast, behind_pair, first_pair, from_pair, from_starts, next_pair, product_findings}
use Rattle.ms_product.specs.declared.op.Op.{Op}
use Rattle.ms_calls.specs.Products.{ProductsNeedFewPairs, StandsAmong}
use Rattle.ms_calls.proofs.Given.{all_values, length-all_values}
use Rattle.ms_calls.proofs.Sides.{first_values, side_first, side_later, side_next, side_one_first, side_one_next, side_start}

-- to leave the same of two contents is an equivalence
pub leave_same_of_both : {Left Right : Type 0} (left : Content Left) (right : Content Right) (variables : List Variable)
    → IsEquivalence (LeaveSameOfBoth left right variables)
leave_same_of_both left right variables = record {
  symmetric = λ one other same. ((λ rest. sym (same.0 rest)), λ rest. sym (same.1 rest));
  transitive = λ one two three first second. ((λ rest. first.0 rest ∙ second.0 rest), λ rest. first.1 rest ∙ second.1 rest);
}

pub AreLetters-push : (variables : List Variable) (letters : List (List Bool)) (letter : List Bool) → AreLetters variables letters
    → length letter ≡ count_of is_in_letters variables
    → AreLetters variables (letters ++ letter ∷ [])
AreLetters-push variables [] letter are long = (long, tt)
AreLetters-push variables (first ∷ letters) letter are long = (are.0, AreLetters-push variables letters letter are.1 long)

-- operands whose variables stand in the order of starts, each at a place of the order that is tested at its place in the diagrams
module _ (operands : Operands) (order : List Variable) (distinct : HaveDistinctNumbers order) (read_at : ℕ → ℕ) (rises : (one two : ℕ) → one < two → two < length order → read_at one ≤ read_at two)
    (left_at right_at : ℕ → ℕ) (left : StandsAmong operands.left left_at order) (right : StandsAmong operands.right right_at order)
    (left_places : (place : ℕ) (v : Variable) → slice_get operands.left.variables place ≡ Some v → slice_index operands.left_map place ≡ read_at (left_at place))
    (right_places : (place : ℕ) (v : Variable) → slice_get operands.right.variables place ≡ Some v → slice_index operands.right_map place ≡ read_at (right_at place)) where
  -- the states to which a word leads both operands
  abbrev pair_at : Word → ℕ × ℕ
  pair_at word = (state_at operands.left order word, state_at operands.right order word)

  -- what a start leaves of both
  abbrev pair_left : Start → Bits → ℕ × ℕ
  pair_left start bits = (left_by operands.left order start (λ place. bits (read_at (left_at place))), left_by operands.right order start (λ place. bits (read_at (right_at place))))

  pub record IsWordTo (pair : ℕ × ℕ) : Type 0 where
    pub word : Word
    pub over : IsWordOver order word
    pub leads : pair_at word ≡ pair

  pub word_to : (pair : ℕ × ℕ) → IsReachedPair operands pair → IsWordTo pair
  word_to pair (from_starts bits leads) =
      let one = side_start order distinct read_at rises operands.left operands.left_map left_at left left_places bits in
      let other = side_start order distinct read_at rises operands.right operands.right_map right_at right right_places bits in
      record {
        word = record { truth = all_values is_truth_value order (λ place. bits (read_at place)); letters = [] };
        over = record { truth = length-all_values is_truth_value order (λ place. bits (read_at place)); letters = tt };
        leads = (λ i. (one i, other i)) ∙ leads;
      }
  word_to pair (from_pair before bits reached leads) =
      let to = word_to before reached in
      let letter = all_values is_in_letters order (λ place. bits (read_at place)) in
      let one = side_next order distinct read_at rises operands.left operands.left_map left_at left left_places to.word bits in
      let other = side_next order distinct read_at rises operands.right operands.right_map right_at right right_places to.word bits in
      record {
        word = record { truth = to.word.truth; letters = to.word.letters ++ letter ∷ [] };
        over = record { truth = to.over.truth; letters = AreLetters-push order to.word.letters letter to.over.letters (length-all_values is_in_letters order (λ place. bits (read_at place))) };
        leads = (λ i. (one i, other i)) ∙ ap (λ (p : ℕ × ℕ). next_pair operands p bits) to.leads ∙ leads;
      }

  module _ (op : Op) (count : ℕ) (needs : ReachedAreAtLeast count op operands) where
    abbrev nodes : List Node
    nodes = needs.least.nodes

    abbrev pairs : List (ℕ × ℕ)
    pairs = needs.least.pairs

    -- the reference leads to the number of the pair that the start leaves
    abbrev Leads : Start → Ref → Type 0
    Leads start reference = (bits : Bits) → slice_get pairs (leaf_of nodes reference bits) ≡ Some (pair_left start bits)

    one_function : LeadToOneFunction (LeaveSameOfBoth operands.left operands.right order) Leads nodes
    one_function one other reference reference' alike first second bits =
        let same_left = alike.0 (λ place. bits (read_at (left_at place))) in
        let same_right = alike.1 (λ place. bits (read_at (right_at place))) in
        needs.least.numbering.no_repeats (leaf_of nodes reference bits) (leaf_of nodes reference' bits) (pair_left one bits) (first bits)
        (second bits ∙ ap Some (λ i. (sym same_left i, sym same_right i)))

    -- a node at which first bits leave a pair of functions is led to by a start with these bits, unless nothing is free
    module _ (i : ℕ) (within : i < length nodes) (pair : Bits → ℕ × ℕ) (function : (bits : Bits) → slice_get pairs (leaf_of nodes (Inner i) bits) ≡ Some (pair bits)) where
      never_one : ((bits bits' : Bits) → pair bits ≡ pair bits') → ⊥
      never_one same =
          let none : Bits = λ place. false in
          let only = leaf_of nodes (Inner i) none in
          let one_leaf : (bits : Bits) → leaf_of nodes (Inner i) bits ≡ leaf_of nodes (Leaf only) bits = λ bits.
          needs.least.numbering.no_repeats (leaf_of nodes (Inner i) bits) only (pair bits) (function bits) (function none ∙ ap Some (same none bits))
          ∙ sym (leaf_of-leaf nodes bits only)
          in
          let equal : Inner i ≡ Leaf only = same_reference nodes needs.least.ordered needs.least.reduced (Inner i) (Leaf only) within tt one_leaf in
          let never : ⊥ = cc in never

      led_unless : (start : Start) (few all : ℕ) → (few < all → IsStartOver order start) → ((bits : Bits) → pair_left start bits ≡ pair bits)
          → (all ≤ few → (bits bits' : Bits) → pair bits ≡ pair bits') → IsLedTo (IsStartOver order) Leads (Inner i)
      led_unless start few all over leaves same = ⊎_elim
          (λ less. (start, over less, λ bits. function bits ∙ ap Some (sym (leaves bits))))
          (λ full. absurd (never_one (same full)))
          (cases_lt few all)

    led_from_starts : (i : ℕ) (node : Node) → slice_get nodes i ≡ Some node
        → IsNeeded nodes (λ bits number. slice_get pairs number ≡ Some (first_pair operands bits)) node
        → IsLedTo (IsStartOver order) Leads (Inner i)
    led_from_starts i node held needed =
        let first = needed.0 in
        let own = first_values order distinct read_at rises is_truth_value node.var first in
        led_unless i (slice_get_within nodes i node held) (λ bits. first_pair operands (below_from node.var first bits))
        (λ bits. ap (slice_get pairs) (leaf_of-node nodes needs.least.ordered bits i node held) ∙ needed.1 bits)
        (some_truth_values own) (length own) (count_of is_truth_value order) (λ less. less)
        (λ bits.
        let one = side_first order distinct read_at rises operands.left operands.left_map left_at left left_places node.var first bits in
        let other = side_first order distinct read_at rises operands.right operands.right_map right_at right right_places node.var first bits in
        λ k. (one k, other k))
        (λ full bits bits'.
        let one = side_one_first order distinct read_at rises operands.left operands.left_map left_at left left_places node.var first full bits bits' in
        let other = side_one_first order distinct read_at rises operands.right operands.right_map right_at right right_places node.var first full bits bits' in
        λ k. (one k, other k))

    led_from_number : (number : ℕ) → number < length pairs → (i : ℕ) (node : Node) → slice_get nodes i ≡ Some node
        → IsNeeded nodes (behind_pair operands pairs (slice_get pairs number)) node → IsLedTo (IsStartOver order) Leads (Inner i)
    led_from_number number found i node held needed =
        let there = slice_get-held pairs number found in
        let to = word_to there.0 (needs.reached number there.0 there.1) in
        let here = subst (λ at. IsNeeded nodes (behind_pair operands pairs at) node) there.1 needed in
        let first = here.0 in
        let own = first_values order distinct read_at rises is_in_letters node.var first in
        let at_left = state_at operands.left order to.word in
        let at_right = state_at operands.right order to.word in
        led_unless i (slice_get_within nodes i node held) (λ bits. next_pair operands (at_left, at_right) (below_from node.var first bits))
        (λ bits.
        ap (slice_get pairs) (leaf_of-node nodes needs.least.ordered bits i node held) ∙ here.1 bits
        ∙ ap (λ (p : ℕ × ℕ). Some (next_pair operands p (below_from node.var first bits))) (sym to.leads))
        (part_of_letter to.word own) (length own) (count_of is_in_letters order) (λ less. (to.over, less))
        (λ bits.
        let one = side_later order distinct read_at rises operands.left operands.left_map left_at left left_places to.word node.var first bits in
        let other = side_later order distinct read_at rises operands.right operands.right_map right_at right right_places to.word node.var first bits in
        λ k. (one k, other k))
        (λ full bits bits'.
        let one = side_one_next order distinct read_at rises operands.left operands.left_map left_at left left_places at_left node.var first full bits bits' in
        let other = side_one_next order distinct read_at rises operands.right operands.right_map right_at right right_places at_right node.var first full bits bits' in
        λ k. (one k, other k))

    led_node : (origin : Origin) → IsFound (product_findings op operands pairs) origin → (i : ℕ) (node : Node) → slice_get nodes i ≡ Some node
        → IsNeeded nodes (target_of (product_findings op operands pairs) origin) node → IsLedTo (IsStartOver order) Leads (Inner i)
    led_node None found i node held needed = led_from_starts i node held needed
    led_node (Some number) found i node held needed = led_from_number number found i node held needed

    led_pair : (number : ℕ) → number < length pairs → IsLedTo (IsStartOver order) Leads (Leaf number)
    led_pair number found =
        let there = slice_get-held pairs number found in
        let to = word_to there.0 (needs.reached number there.0 there.1) in
        (whole_word to.word, to.over, λ bits. ap (slice_get pairs) (leaf_of-leaf nodes bits number) ∙ there.1 ∙ ap Some (sym to.leads))

    all_led : AreLedTo (IsStartOver order) Leads nodes 0 (length nodes) (length pairs)
    all_led = record {
      within = omega arith;
      places = λ i from below.
          let held = slice_get-held nodes i (omega (arith, below)) in
          let needed = needs.least.needed i held.0 held.1 in
          led_node needed.0 needed.1 i held.0 held.1 needed.2;
      numbers = led_pair;
    }

    -- so starts lead the operands apart, as many as there are nodes and pairs
    pub apart : IsAtLeastNumber (LeaveSameOfBoth operands.left operands.right order) (IsStartOver order) (length nodes + length pairs)
    apart =
        needed_lead_apart (IsStartOver order) (LeaveSameOfBoth operands.left operands.right order) Leads nodes 0 (length nodes) (length pairs) all_led needs.least.ordered needs.least.reduced
        one_function

    pub few : (m : ℕ) → LeadToPairs operands.left operands.right order m → count ≤ m
    few m counted =
        let less = at_most_count (LeaveSameOfBoth operands.left operands.right order) (IsStartOver order) (leave_same_of_both operands.left operands.right order) (length nodes + length pairs) m apart
        counted in
        let many = needs.least.many in
        omega (arith, less, many)

-- in a product the order is that of all variables, and diagrams test them in it
pub products_need_few_pairs : ProductsNeedFewPairs
products_need_few_pairs op operands variables distinct left right count needs m counted =
    few operands variables distinct (λ place. place) (λ one two less within. omega (arith, less)) (slice_index operands.left_map) (slice_index operands.right_map) left right
    (λ place v held. refl) (λ place v held. refl) op count needs m counted
