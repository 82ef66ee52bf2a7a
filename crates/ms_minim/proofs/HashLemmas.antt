-- References that lead alike have equal hashes.
use Rattle.std.proofs.Common.{◌≡◌, ℕ, zero, suc, ◌+◌, ◌-◌, ◌<◌, ◌≤◌, ◌⊎◌, inl, inr, ⊎_elim, Bool, true, false, if◌then◌else◌, List, [], ◌∷◌, ◌++◌, length, length-append, slice_get, slice_index, get_or, Some, unwrap_or, refl, sym, ap, ◌∙◌, arith}
use Rattle.std.proofs.lemmas.Bool.{cases_lt, cases_order, eq-eqb}
use Rattle.std.proofs.lemmas.List.{get_or_append_left, get_or-append_right}
use Rattle.std.proofs.lemmas.Option.{same_Some, slice_get_within, unwrap_or-slice_get}
use Rattle.ms_arena.specs.declared.node.Ref.{Ref}
use Rattle.ms_arena.specs.declared.node.Ref.TheVariants.{Leaf, Inner}
use Rattle.ms_arena.specs.declared.node.Node.{Node}
use Rattle.ms_arena.specs.Bits.{with_bit}
use Rattle.ms_arena.specs.Diagram.{Bits, leaf_of, IsBefore, IsValid, TestsAbove, IsOrdered}
use Rattle.ms_arena.specs.Halves.{size_of}
use Rattle.ms_arena.proofs.BitsLemmas.{AgreeAbove-with_bit}
use Rattle.ms_arena.proofs.Canonicity.{end_for, leaf_of-above, leaf_of-end_for, IsBefore-end_for}
use Rattle.ms_arena.proofs.HalvesLemmas.{size-IsBefore}
use Rattle.ms_arena.proofs.Lists.{slice_get-held}
use Rattle.ms_arena.proofs.Paths.{IsBefore-later, leaf_of-leaf}
use Rattle.ms_logic_words.specs.declared.sign.Sign.{Sign}
use Rattle.ms_logic_words.specs.Content.{StateOf, Content}
use Rattle.ms_minim.specs.SignReading.{IsRead}
use Rattle.ms_minim.specs.inner.Hash.{joined, mixed, hash_of, HaveHashes, AreHashes, AreCoarseMarks}
use Rattle.ms_minim.specs.inner.Partition.{behind, next_by}
use Rattle.ms_minim.proofs.ResidualLemmas.{state_followed}

-- equal hashes of both ends are that of the node
joined-same : (var low high hash : ℕ) → low ≡ hash → high ≡ hash → joined var low high ≡ hash
joined-same var low high hash one two = ap (λ (same : Bool). if same then low else mixed var low high) (eq-eqb low high (one ∙ sym two)) ∙ one

module _ (nodes : List Node) (ordered : IsOrdered nodes) (classes hashes : List ℕ) (are : AreHashes nodes classes hashes) where
  abbrev class_at : Ref → Bits → ℕ
  class_at reference bits = slice_index classes (leaf_of nodes reference bits)

  abbrev hash : Ref → ℕ
  hash = hash_of classes hashes

  -- the same bits lead to the same classes
  abbrev LeadTo : Ref → Ref → Type 0
  LeadTo left right = (bits : Bits) → class_at left bits ≡ class_at right bits

  abbrev end_valid : (place : ℕ) (node : Node) (bit : Bool) → slice_get nodes place ≡ Some node → IsValid nodes (end_for node bit)
  end_valid place node bit held =
      let within = slice_get_within nodes place node held in
      IsBefore-later place (length nodes) (end_for node bit) (omega (arith, within)) (IsBefore-end_for nodes ordered place node bit held)

  -- where a node leads with its bit fixed, its end leads
  end_leads : (place : ℕ) (node : Node) (bit : Bool) (bits : Bits) → slice_get nodes place ≡ Some node
      → class_at (Inner place) (with_bit bits node.var bit) ≡ class_at (end_for node bit) bits
  end_leads place node bit bits held = ap (slice_index classes) (leaf_of-end_for nodes ordered place node bit bits held (end_valid place node bit held))

  hash_is : (place : ℕ) (node : Node) → slice_get nodes place ≡ Some node → hash (Inner place) ≡ joined node.var (hash node.low) (hash node.high)
  hash_is place node held = are.each place node held (let within = slice_get_within nodes place node held in let all = are.all in omega (arith, within, all))

  -- equal hashes where diagrams of so many places together lead alike
  abbrev Below : ℕ → Type 0
  Below count = (left right : Ref) → IsValid nodes left → IsValid nodes right → size_of left + size_of right ≤ count → LeadTo left right → hash left ≡ hash right

  module _ (count : ℕ) (below : Below count) where
    -- a node and what tests above it: both ends lead alike
    node_above : (place : ℕ) (node : Node) (other : Ref) → slice_get nodes place ≡ Some node → IsValid nodes other → TestsAbove nodes node.var other
        → suc place + size_of other ≤ suc count → LeadTo (Inner place) other → hash (Inner place) ≡ hash other
    node_above place node other held valid above small same =
        hash_is place node held ∙ joined-same node.var (hash node.low) (hash node.high) (hash other) (at_end false) (at_end true)
      where
        leads : (bit : Bool) → LeadTo (end_for node bit) other
        leads bit bits =
            sym (end_leads place node bit bits held) ∙ same (with_bit bits node.var bit)
            ∙ ap (slice_index classes) (leaf_of-above nodes ordered node.var other (with_bit bits node.var bit) bits valid above (AgreeAbove-with_bit node.var node.var bits bit (omega arith)))

        at_end : (bit : Bool) → hash (end_for node bit) ≡ hash other
        at_end bit =
            let smaller = size-IsBefore place (end_for node bit) (IsBefore-end_for nodes ordered place node bit held) in
            below (end_for node bit) other (end_valid place node bit held) valid (omega (arith, smaller, small)) (leads bit)

    -- two nodes that test one variable: their ends lead alike
    node_node : (one two : ℕ) (left right : Node) → slice_get nodes one ≡ Some left → slice_get nodes two ≡ Some right → left.var ≡ right.var
        → suc one + suc two ≤ suc count → LeadTo (Inner one) (Inner two) → hash (Inner one) ≡ hash (Inner two)
    node_node one two left right left_held right_held same_var small same =
        let low = at_end false in
        let high = at_end true in
        hash_is one left left_held ∙ (λ i. joined (same_var i) (low i) (high i)) ∙ sym (hash_is two right right_held)
      where
        leads : (bit : Bool) → LeadTo (end_for left bit) (end_for right bit)
        leads bit bits =
            sym (end_leads one left bit bits left_held) ∙ same (with_bit bits left.var bit)
            ∙ ap (λ var. class_at (Inner two) (with_bit bits var bit)) same_var
            ∙ end_leads two right bit bits right_held

        at_end : (bit : Bool) → hash (end_for left bit) ≡ hash (end_for right bit)
        at_end bit =
            let smaller_left = size-IsBefore one (end_for left bit) (IsBefore-end_for nodes ordered one left bit left_held) in
            let smaller_right = size-IsBefore two (end_for right bit) (IsBefore-end_for nodes ordered two right bit right_held) in
            below (end_for left bit) (end_for right bit) (end_valid one left bit left_held) (end_valid two right bit right_held) (omega (arith, smaller_left, smaller_right, small)) (leads bit)

    nodes_by : (one two : ℕ) (left right : Node) → slice_get nodes one ≡ Some left → slice_get nodes two ≡ Some right → suc one + suc two ≤ suc count → LeadTo (Inner one) (Inner two)
        → (left.var ≡ right.var) ⊎ ((left.var < right.var) ⊎ (right.var < left.var)) → hash (Inner one) ≡ hash (Inner two)
    nodes_by one two left right left_held right_held small same (inl equal) = node_node one two left right left_held right_held equal small same
    nodes_by one two left right left_held right_held small same (inr (inl less)) =
        node_above one left (Inner two) left_held (slice_get_within nodes two right right_held)
        (λ node held. let is : right ≡ node = same_Some right node (sym right_held ∙ held) in rw (← is) less) small same
    nodes_by one two left right left_held right_held small same (inr (inr more)) =
        sym (node_above two right (Inner one) right_held (slice_get_within nodes one left left_held)
        (λ node held. let is : left ≡ node = same_Some left node (sym left_held ∙ held) in rw (← is) more) (omega (arith, small)) (λ bits. sym (same bits)))

  alike_below : (count : ℕ) → Below count
  alike_below count (Leaf one) (Leaf two) left right small same =
      ap (slice_index classes) (sym (leaf_of-leaf nodes (λ _. false) one)) ∙ same (λ _. false) ∙ ap (slice_index classes) (leaf_of-leaf nodes (λ _. false) two)
  alike_below zero (Leaf one) (Inner two) left right small same = absurd (omega (arith, small))
  alike_below zero (Inner one) (Leaf two) left right small same = absurd (omega (arith, small))
  alike_below zero (Inner one) (Inner two) left right small same = absurd (omega (arith, small))
  alike_below (suc count) (Leaf one) (Inner two) left right small same =
      let held = slice_get-held nodes two right in
      sym (node_above count (alike_below count) two held.0 (Leaf one) held.1 tt tt (omega (arith, small)) (λ bits. sym (same bits)))
  alike_below (suc count) (Inner one) (Leaf two) left right small same =
      let held = slice_get-held nodes one left in
      node_above count (alike_below count) one held.0 (Leaf two) held.1 tt tt (omega (arith, small)) same
  alike_below (suc count) (Inner one) (Inner two) left right small same =
      let first = slice_get-held nodes one left in
      let second = slice_get-held nodes two right in
      nodes_by count (alike_below count) one two first.0 second.0 first.1 second.1 small same (cases_order first.0.var second.0.var)

  -- so it is for all references
  pub hash_alike : (left right : Ref) → IsValid nodes left → IsValid nodes right → LeadTo left right → hash left ≡ hash right
  hash_alike left right left_valid right_valid same = alike_below (size_of left + size_of right) left right left_valid right_valid (omega arith) same

-- one node more has its hash
module _ (nodes : List Node) (ordered : IsOrdered nodes) (classes made : List ℕ) where
  -- what is noted behind them changes no hash of earlier references
  hash_kept : (hash place : ℕ) (reference : Ref) → place ≤ length made → IsBefore place reference → hash_of classes (made ++ hash ∷ []) reference ≡ hash_of classes made reference
  hash_kept hash place (Leaf state) within before = refl
  hash_kept hash place (Inner other) within before = get_or_append_left made (hash ∷ []) 0 other (omega (arith, within, before))

  joined_kept : (hash place : ℕ) (node : Node) → slice_get nodes place ≡ Some node → place ≤ length made
      → joined node.var (hash_of classes made node.low) (hash_of classes made node.high)
      ≡ joined node.var (hash_of classes (made ++ hash ∷ []) node.low) (hash_of classes (made ++ hash ∷ []) node.high)
  joined_kept hash place node held within =
      let low = sym (hash_kept hash place node.low within (ordered.earlier_low place node held)) in
      let high = sym (hash_kept hash place node.high within (ordered.earlier_high place node held)) in
      λ i. joined node.var (low i) (high i)

  pub HaveHashes-more : (place : ℕ) (node : Node) → slice_get nodes place ≡ Some node → length made ≡ place → HaveHashes nodes classes made
      → HaveHashes nodes classes (made ++ joined node.var (hash_of classes made node.low) (hash_of classes made node.high) ∷ [])
  HaveHashes-more place node held count have other found there within = ⊎_elim
      (λ before. get_or_append_left made (hash ∷ []) 0 other before ∙ have other found there before ∙ joined_kept hash other found there (omega (arith, before)))
      (λ past.
      let last : other ≡ length made = omega (arith, past, within, length-append made (hash ∷ [])) in
      let same : node ≡ found = same_Some node found (sym held ∙ ap (slice_get nodes) (sym count ∙ sym last) ∙ there) in
      let first : other - length made ≡ 0 = omega (arith, last) in
      get_or-append_right made (hash ∷ []) (length made) other 0 refl (omega (arith, past)) ∙ ap (λ (at : ℕ). get_or (hash ∷ []) at 0) first
      ∙ ap (λ (n : Node). joined n.var (hash_of classes made n.low) (hash_of classes made n.high)) same
      ∙ joined_kept hash other found there (omega (arith, last)))
      (cases_lt other (length made))
    where
      hash : ℕ
      hash = joined node.var (hash_of classes made node.low) (hash_of classes made node.high)

-- marks that are the hashes of where states lead are coarse
pub coarse_by_hashes : (content : Content Sign) → IsRead content → (classes hashes : List ℕ) → AreHashes content.nodes classes hashes → (marks : List ℕ) → length marks ≡ length content.states
    → ((state mark : ℕ) (found : StateOf Sign) → slice_get marks state ≡ Some mark → slice_get content.states state ≡ Some found → mark ≡ hash_of classes hashes found.next)
    → AreCoarseMarks content classes marks
coarse_by_hashes content automaton classes hashes are marks all hashed = record {
  all = all;
  alike = λ one other in_one in_other alike.
      let first = slice_get-held content.states one in_one in
      let second = slice_get-held content.states other in_other in
      let mark = slice_get-held marks one (omega (arith, all, in_one)) in
      let other_mark = slice_get-held marks other (omega (arith, all, in_other)) in
      let first_valid = (state_followed content automaton.ordered automaton.closed one first.0 first.1).valid in
      let second_valid = (state_followed content automaton.ordered automaton.closed other second.0 second.1).valid in
      let same = hash_alike content.nodes automaton.ordered classes hashes are first.0.next second.0.next first_valid second_valid
      (λ bits. class_is (next_by content one bits) (leaf_of content.nodes first.0.next bits) (ap (λ found. behind content found bits) first.1)
      ∙ index_is (next_by content one bits) (next_by content other bits) (alike bits)
      ∙ sym (class_is (next_by content other bits) (leaf_of content.nodes second.0.next bits) (ap (λ found. behind content found bits) second.1))) in
      mark.1 ∙ ap Some (hashed one mark.0 first.0 mark.1 first.1 ∙ same ∙ sym (hashed other other_mark.0 second.0 other_mark.1 second.1)) ∙ sym other_mark.1;
}
  where
    class_is : (state leaf : ℕ) → state ≡ leaf → slice_index classes leaf ≡ slice_index classes state
    class_is state leaf is = ap (slice_index classes) (sym is)

    index_is : (one other : ℕ) → slice_get classes one ≡ slice_get classes other → slice_index classes one ≡ slice_index classes other
    index_is one other same = sym (unwrap_or-slice_get classes one 0) ∙ ap (λ found. unwrap_or found 0) same ∙ unwrap_or-slice_get classes other 0
