-- Nodes of two canonical contents with the same signs are equal where they have one number, and so are all references.
use Rattle.std.proofs.Common.{◌≡◌, ℕ, ◌<◌, List, [], length, take, slice_get, Some, sym, ap, subst, ◌∙◌, arith}
use Rattle.std.specs.List.{flat_map}
use Rattle.std.proofs.lemmas.List.{take_all}
use Rattle.std.proofs.lemmas.List.FromFn.{length-range_with_len}
use Rattle.std.proofs.lemmas.Option.{slice_get_within, same_Some}
use Rattle.ms_arena.specs.declared.node.Node.{Node}
use Rattle.ms_arena.specs.declared.node.Ref.{Ref}
use Rattle.ms_arena.specs.declared.node.Ref.TheVariants.{Leaf, Inner}
use Rattle.ms_arena.specs.Diagram.{leaf_of, IsValid}
use Rattle.ms_arena.proofs.Canonicity.{same_reference}
use Rattle.ms_logic_words.specs.Canonical.{IsCanonical, first_sights_of, seen_nodes, nodes_within}
use Rattle.ms_logic_words.specs.Content.{StateOf, Content}
use Rattle.ms_logic.specs.FiniteSet.{numbers_below}
use Rattle.ms_logic_words.specs.Residual.{HaveEqualSigns}
use Rattle.ms_minim_canonical.proofs.ContentLemmas.{sharing, valid-named}
use Rattle.ms_minim_canonical.proofs.FirstSightLemmas.{IsMatching, numbers_below_at, paired-unseen}
use Rattle.ms_minim_canonical.specs.inner.Renumbering.{ArePaired}
use Rattle.ms_minim_canonical.proofs.Paired.{paired-append, paired-at, paired-flat_map, paired-length, paired-take}
use Rattle.ms_minim_canonical.proofs.ShapeLemmas.{AreAlike, AreAlikePlaces, AreComparable, one_shape}
use Rattle.ms_minim_canonical.proofs.StateLemmas.{Residual, agree, alike_next, alike_start, as_many_states, comparable}
use Rattle.ms_minim_canonical.proofs.WalkLemmas.{paired-nodes}

-- a node of one list is alike to one of another at most, on either side
pub IsMatching-places : (first second : List Node) (R : ℕ → ℕ → Type 0) → AreComparable first second R → IsMatching (AreAlikePlaces first second R)
IsMatching-places first second R are = record {
  right = λ i j k one two.
      inner_place (same_reference second are.ordered_too are.reduced_too (Inner j) (Inner k) one.within_too two.within_too
      (λ bits. are.matching.right (leaf_of first (Inner i) bits) (leaf_of second (Inner j) bits) (leaf_of second (Inner k) bits) (one.alike bits) (two.alike bits)));
  left = λ i j k one two.
      inner_place (same_reference first are.ordered are.reduced (Inner i) (Inner j) one.within two.within
      (λ bits. are.matching.left (leaf_of first (Inner i) bits) (leaf_of first (Inner j) bits) (leaf_of second (Inner k) bits) (one.alike bits) (two.alike bits)));
}
  where
    inner_place : {i j : ℕ} → Inner i ≡ Inner j → i ≡ j
    inner_place same = cc

module _ {Sign : Type 0} (one rest : Content Sign) (canonical : IsCanonical one) (canonical_too : IsCanonical (sharing one rest)) (signs : HaveEqualSigns one (sharing one rest)) where
  abbrev R : ℕ → ℕ → Type 0
  R = Residual one rest canonical canonical_too signs

  abbrev Places : ℕ → ℕ → Type 0
  Places = AreAlikePlaces one.nodes rest.nodes R

  are : AreComparable one.nodes rest.nodes R
  are = comparable one rest canonical canonical_too signs

  abbrev nodes_of : Content Sign → StateOf Sign → List ℕ
  nodes_of content state = nodes_within (length content.nodes) content.nodes state.next

  -- the diagrams of states with one number are alike
  next_of : (place : ℕ) (state state_too : StateOf Sign) → slice_get one.states place ≡ Some state → slice_get rest.states place ≡ Some state_too
      → AreAlike one.nodes rest.nodes R state.next state_too.next
  next_of place state state_too held held_too =
      alike_next one rest canonical canonical_too signs place place state state_too
      (agree one rest canonical canonical_too signs place (slice_get_within one.states place state held)) held held_too

  paired_nodes_of : (place : ℕ) (state state_too : StateOf Sign) → slice_get one.states place ≡ Some state → slice_get rest.states place ≡ Some state_too
      → ArePaired Places (nodes_of one state) (nodes_of rest state_too)
  paired_nodes_of place state state_too held held_too =
      paired-nodes one.nodes rest.nodes R are (length one.nodes) (length rest.nodes) state.next state_too.next
      (valid-named one state.next (canonical.rules.next_named place state held)) (omega arith)
      (valid-named (sharing one rest) state_too.next (canonical_too.rules.next_named place state_too held_too)) (omega arith)
      (next_of place state state_too held held_too)

  -- states by their places
  paired_states : (P : StateOf Sign → StateOf Sign → Type 0)
      → ((place : ℕ) (state state_too : StateOf Sign) → slice_get one.states place ≡ Some state → slice_get rest.states place ≡ Some state_too → P state state_too)
      → ArePaired P one.states rest.states
  paired_states P each =
      let many = as_many_states one rest canonical canonical_too signs in
      let first = paired-take P (length one.states) one.states rest.states (omega arith) (omega (arith, many)) (λ place state state_too less held held_too. each place state state_too held held_too) in
      subst (λ states. ArePaired P states rest.states) (take_all (length one.states) one.states (omega arith))
      (subst (ArePaired P (take (length one.states) one.states)) (take_all (length one.states) rest.states (omega (arith, many))) first)

  -- the walks over all diagrams go over alike nodes
  paired_seen : ArePaired Places (seen_nodes one) (seen_nodes (sharing one rest))
  paired_seen =
      paired-append Places (nodes_within (length one.nodes) one.nodes one.start) (nodes_within (length rest.nodes) rest.nodes rest.start)
      (flat_map (nodes_of one) one.states) (flat_map (nodes_of rest) rest.states)
      (paired-nodes one.nodes rest.nodes R are (length one.nodes) (length rest.nodes) one.start rest.start
      (valid-named one one.start canonical.rules.start_named) (omega arith) (valid-named (sharing one rest) rest.start canonical_too.rules.start_named) (omega arith)
      (alike_start one rest canonical canonical_too signs))
      (paired-flat_map (λ state state_too. ArePaired Places (nodes_of one state) (nodes_of rest state_too)) Places (nodes_of one) (nodes_of rest) (λ state state_too paired. paired)
      one.states rest.states (paired_states (λ state state_too. ArePaired Places (nodes_of one state) (nodes_of rest state_too)) paired_nodes_of))

  paired_numbers : ArePaired Places (numbers_below (length one.nodes)) (numbers_below (length rest.nodes))
  paired_numbers =
      subst (λ numbers. ArePaired Places numbers (numbers_below (length rest.nodes))) canonical.nodes_numbered
      (subst (ArePaired Places (first_sights_of (seen_nodes one))) canonical_too.nodes_numbered
      (paired-unseen Places (IsMatching-places one.nodes rest.nodes R are) [] [] (seen_nodes one) (seen_nodes (sharing one rest)) tt paired_seen))

  pub as_many_nodes : length one.nodes ≡ length rest.nodes
  as_many_nodes =
      sym (length-range_with_len 0 (length one.nodes)) ∙ paired-length Places (numbers_below (length one.nodes)) (numbers_below (length rest.nodes)) paired_numbers
      ∙ length-range_with_len 0 (length rest.nodes)

  -- so nodes with one number are alike
  own : (place : ℕ) → place < length one.nodes → Places place place
  own place less =
      let many = as_many_nodes in
      paired-at Places (numbers_below (length one.nodes)) (numbers_below (length rest.nodes)) paired_numbers place place place
      (numbers_below_at (length one.nodes) place less) (numbers_below_at (length rest.nodes) place (omega (arith, less, many)))

  -- and references that are alike are equal
  pub alike_equal : (left right : Ref) → IsValid one.nodes left → IsValid rest.nodes right → AreAlike one.nodes rest.nodes R left right → left ≡ right
  alike_equal (Leaf i) (Leaf j) valid valid_too alike =
      let related = one_shape one.nodes rest.nodes R are (Leaf i) (Leaf j) tt tt alike in
      ap Leaf (are.matching.right i i j (agree one rest canonical canonical_too signs i related.within) related)
  alike_equal (Leaf i) (Inner j) valid valid_too alike = absurd (one_shape one.nodes rest.nodes R are (Leaf i) (Inner j) tt valid_too alike)
  alike_equal (Inner i) (Leaf j) valid valid_too alike = absurd (one_shape one.nodes rest.nodes R are (Inner i) (Leaf j) valid tt alike)
  alike_equal (Inner i) (Inner j) valid valid_too alike =
      ap Inner ((IsMatching-places one.nodes rest.nodes R are).right i i j (own i valid) (record { alike = alike; within = valid; within_too = valid_too }))

  pub starts_equal : one.start ≡ rest.start
  starts_equal =
      alike_equal one.start rest.start (valid-named one one.start canonical.rules.start_named) (valid-named (sharing one rest) rest.start canonical_too.rules.start_named)
      (alike_start one rest canonical canonical_too signs)

  pub next_equal : (place : ℕ) (state state_too : StateOf Sign) → slice_get one.states place ≡ Some state → slice_get rest.states place ≡ Some state_too → state.next ≡ state_too.next
  next_equal place state state_too held held_too =
      alike_equal state.next state_too.next (valid-named one state.next (canonical.rules.next_named place state held))
      (valid-named (sharing one rest) state_too.next (canonical_too.rules.next_named place state_too held_too)) (next_of place state state_too held held_too)

  pub nodes_at : (place : ℕ) (node node_too : Node) → slice_get one.nodes place ≡ Some node → slice_get rest.nodes place ≡ Some node_too → node ≡ node_too
  nodes_at place node node_too held held_too =
      let within = slice_get_within one.nodes place node held in
      let within_too = slice_get_within rest.nodes place node_too held_too in
      let shape = one_shape one.nodes rest.nodes R are (Inner place) (Inner place) within within_too (own place within).alike in
      let left : shape.left ≡ node = same_Some shape.left node (sym shape.left_is ∙ held) in
      let right : shape.right ≡ node_too = same_Some shape.right node_too (sym shape.right_is ∙ held_too) in
      let low = alike_equal shape.left.low shape.right.low
      (valid-named one shape.left.low (canonical.rules.low_named place shape.left shape.left_is))
      (valid-named (sharing one rest) shape.right.low (canonical_too.rules.low_named place shape.right shape.right_is)) shape.low in
      let high = alike_equal shape.left.high shape.right.high
      (valid-named one shape.left.high (canonical.rules.high_named place shape.left shape.left_is))
      (valid-named (sharing one rest) shape.right.high (canonical_too.rules.high_named place shape.right shape.right_is)) shape.high in
      let var = shape.var in
      let same : shape.left ≡ shape.right = λ i. record { var = var i; low = low i; high = high i } in
      sym left ∙ same ∙ right
