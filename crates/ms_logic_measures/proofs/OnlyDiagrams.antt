-- A reduced diagram over P and Q has one form where its function is that of the first state of P sub Q.
use Rattle.std.proofs.Common.{◌≡◌, ℕ, zero, suc, ◌<◌, ◌⊎◌, inl, inr, ⊎_elim, Bool, true, false, cond, List, slice_get, Some, refl, sym, ◌∙◌, ap, subst, arith}
use Rattle.std.proofs.lemmas.Option.{same_Some}
use Rattle.ms_arena.specs.declared.node.Ref.{Ref}
use Rattle.ms_arena.specs.declared.node.Ref.TheVariants.{Leaf, Inner}
use Rattle.ms_arena.specs.declared.node.Node.{Node}
use Rattle.ms_arena.specs.Bits.{with_bit}
use Rattle.ms_arena.specs.Diagram.{Bits, leaf_of, IsValid, IsOrdered, IsReduced}
use Rattle.ms_arena.specs.Reach.{Reaches, here, through_low, through_high}
use Rattle.ms_arena.proofs.Canonicity.{leaf_of-above, leaf_of-end_for, same_reference}
use Rattle.ms_arena.proofs.Ends.{end_valid}
use Rattle.ms_arena.proofs.Lists.{slice_get-held}
use Rattle.ms_arena.proofs.Paths.{leaf_of-leaf}
use Rattle.ms_logic_words.proofs.SubsetContent.{leaf_reaches}
use Rattle.ms_logic_measures.proofs.SubsetStarts.{rest_of}

abbrev pub node_Q : Node
node_Q = record { var = 1; low = Leaf 1; high = Leaf 0 }

abbrev pub node_P : ℕ → Node
node_P place = record { var = 0; low = Leaf 0; high = Inner place }

-- a number below 2 is 0 or 1
zero_or_one : (n : ℕ) → n < 2 → (n ≡ 0) ⊎ (n ≡ 1)
zero_or_one zero below = inl refl
zero_or_one (suc zero) below = inr refl
zero_or_one (suc (suc n)) below = absurd (omega arith)

module _ (nodes : List Node) (ordered : IsOrdered nodes) (reduced : IsReduced nodes) (variables : (place : ℕ) (node : Node) → slice_get nodes place ≡ Some node → node.var < 2) where
  -- a reference that leads to one state is its leaf
  pub constant : (reference : Ref) → IsValid nodes reference → (state : ℕ) → ((bits : Bits) → leaf_of nodes reference bits ≡ state) → reference ≡ Leaf state
  constant reference valid state is =
      same_reference nodes ordered reduced reference (Leaf state) valid tt (λ bits. is bits ∙ sym (leaf_of-leaf nodes bits state))

  -- a leaf does not lead to two states
  two_states : (value : ℕ) (one other : Bits) → leaf_of nodes (Leaf value) one ≡ 0 → leaf_of nodes (Leaf value) other ≡ 1 → ⊥
  two_states value one other is_0 is_1 =
      let leaf = leaf_of-leaf nodes one value in let same = leaf_of-leaf nodes other value in omega (arith, is_0, is_1, leaf, same)

  module _ (place : ℕ) (node : Node) (held : slice_get nodes place ≡ Some node) (function : Bits → ℕ) (is : (bits : Bits) → leaf_of nodes (Inner place) bits ≡ function bits) where
    -- an end has the function of the node with the bit of its variable fixed
    of_end : (var : ℕ) → node.var ≡ var → (bit : Bool) (bits : Bits) → leaf_of nodes (cond bit node.high node.low) bits ≡ function (with_bit bits var bit)
    of_end var same bit bits =
        sym (leaf_of-end_for nodes ordered place node bit bits held (end_valid nodes ordered place node held bit))
        ∙ (is (with_bit bits node.var bit) ∙ ap (λ v. function (with_bit bits v bit)) same)

  -- the function of Q alone
  only_Q : (reference : Ref) → IsValid nodes reference → ((bits : Bits) → leaf_of nodes reference bits ≡ cond (bits 1) 0 1)
      → (place : ℕ) × (reference ≡ Inner place) × (slice_get nodes place ≡ Some node_Q)
  unfolding rest_of
  only_Q (Leaf value) valid is = absurd (two_states value (rest_of false true) (rest_of false false) (is (rest_of false true)) (is (rest_of false false)))
  only_Q (Inner place) valid is =
      let held = slice_get-held nodes place valid in
      let node = held.0 in
      let low = end_valid nodes ordered place node held.1 false in
      let high = end_valid nodes ordered place node held.1 true in
      let function : Bits → ℕ = λ bits. cond (bits 1) 0 1 in
      ⊎_elim
      (λ at_P. absurd (reduced.ends_differ place node held.1 (same_reference nodes ordered reduced node.low node.high low high
      (λ bits. of_end place node held.1 function is 0 at_P false bits ∙ sym (of_end place node held.1 function is 0 at_P true bits)))))
      (λ at_Q.
      let low_is = constant node.low low 1 (of_end place node held.1 function is 1 at_Q false) in
      let high_is = constant node.high high 0 (of_end place node held.1 function is 1 at_Q true) in
      let same : node ≡ node_Q = λ i. record { var = at_Q i; low = low_is i; high = high_is i } in
      (place, refl, held.1 ∙ ap Some same))
      (zero_or_one node.var (variables place node held.1))

  -- the function of the first state of P sub Q
  pub only_P : (reference : Ref) → IsValid nodes reference → ((bits : Bits) → leaf_of nodes reference bits ≡ cond (bits 0) (cond (bits 1) 0 1) 0)
      → (place inner : ℕ) × (reference ≡ Inner place) × (slice_get nodes place ≡ Some (node_P inner)) × (slice_get nodes inner ≡ Some node_Q)
  unfolding rest_of
  only_P (Leaf value) valid is = absurd (two_states value (rest_of false false) (rest_of true false) (is (rest_of false false)) (is (rest_of true false)))
  only_P (Inner place) valid is =
      let held = slice_get-held nodes place valid in
      let node = held.0 in
      let low = end_valid nodes ordered place node held.1 false in
      let high = end_valid nodes ordered place node held.1 true in
      let function : Bits → ℕ = λ bits. cond (bits 0) (cond (bits 1) 0 1) 0 in
      ⊎_elim
      (λ at_P.
      let low_is = constant node.low low 0 (of_end place node held.1 function is 0 at_P false) in
      let inner = only_Q node.high high (of_end place node held.1 function is 0 at_P true) in
      let same : node ≡ node_P inner.0 = λ i. record { var = at_P i; low = low_is i; high = inner.1 i } in
      (place, inner.0, refl, held.1 ∙ ap Some same, inner.2))
      (λ at_Q.
      let above = ordered.rising_low place node held.1 in
      let blind = leaf_of-above nodes ordered node.var node.low (rest_of true false) (rest_of false false) low above
      (λ other later. agree other (omega (arith, at_Q, later))) in
      let one = of_end place node held.1 function is 1 at_Q false (rest_of true false) in
      let other = of_end place node held.1 function is 1 at_Q false (rest_of false false) in
      absurd (omega (arith, blind, one, other)))
      (zero_or_one node.var (variables place node held.1))
    where
      agree : (other : ℕ) → 1 < other → rest_of true false other ≡ rest_of false false other
      agree zero later = absurd (omega arith)
      agree (suc other) later = refl

  -- what a leaf reaches, and a node
  pub none_reached : (reference : Ref) (value goal : ℕ) → reference ≡ Leaf value → Reaches nodes reference goal → ⊥
  none_reached reference value goal is reaches = leaf_reaches nodes value goal (subst (λ r. Reaches nodes r goal) is reaches)

  reached_from : (place goal : ℕ) → Reaches nodes (Inner place) goal
      → (goal ≡ place) ⊎ ((node : Node) × (slice_get nodes place ≡ Some node) × (Reaches nodes node.low goal ⊎ Reaches nodes node.high goal))
  reached_from place goal here = inl refl
  reached_from place goal (through_low node held path) = inr (node, held, inl path)
  reached_from place goal (through_high node held path) = inr (node, held, inr path)

  -- the node of P reaches itself and the node of Q alone
  reached_from_Q : (place goal : ℕ) → slice_get nodes place ≡ Some node_Q → Reaches nodes (Inner place) goal → goal ≡ place
  reached_from_Q place goal is reaches = ⊎_elim (λ own. own)
      (λ later.
      let same : node_Q ≡ later.0 = same_Some node_Q later.0 (sym is ∙ later.1) in
      absurd (⊎_elim (none_reached later.0.low 1 goal (ap (λ n. n.low) (sym same))) (none_reached later.0.high 0 goal (ap (λ n. n.high) (sym same))) later.2))
      (reached_from place goal reaches)

  pub reached_from_P : (place inner goal : ℕ) → slice_get nodes place ≡ Some (node_P inner) → slice_get nodes inner ≡ Some node_Q → Reaches nodes (Inner place) goal
      → (goal ≡ place) ⊎ (goal ≡ inner)
  reached_from_P place inner goal is inner_is reaches = ⊎_elim (λ own. inl own)
      (λ later.
      let same : node_P inner ≡ later.0 = same_Some (node_P inner) later.0 (sym is ∙ later.1) in
      ⊎_elim (λ low. absurd (none_reached later.0.low 0 goal (ap (λ n. n.low) (sym same)) low))
      (λ high. inr (reached_from_Q inner goal inner_is (subst (λ r. Reaches nodes r goal) (ap (λ n. n.high) (sym same)) high))) later.2)
      (reached_from place goal reaches)
