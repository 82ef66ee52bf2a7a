use Rattle.std.proofs.Common.{◌≡◌, ℕ, zero, suc, List, [], ◌∷◌, slice_get, slice_index, Some, refl, sym, ap, ◌∙◌, arith}
use Rattle.std.proofs.lemmas.Option.{same_Some, slice_get_within}
use Rattle.ms_arena.specs.declared.node.Node.{Node}
use Rattle.ms_arena.specs.declared.node.Ref.TheVariants.{Leaf}
use Rattle.ms_arena.proofs.Paths.{leaf_of-leaf}
use Rattle.ms_minim.specs.inner.Hash.{mixed, hash_of, joined}
use Rattle.ms_minim.specs.inner.Examples.{one_node, three_states}
use Rattle.ms_minim.proofs.examples.worked_hashes.Goals as goal

pub returns-clause-ends : goal.returns-clause-ends
unfolding mixed
returns-clause-ends c = refl

pub returns-clause-turned_round : goal.returns-clause-turned_round
unfolding mixed
returns-clause-turned_round c = refl

other_variable : joined 1 0 1 ≡ 2975101409
unfolding mixed
other_variable = refl

pub returns-clause-other_variable : goal.returns-clause-other_variable
returns-clause-other_variable c = other_variable

-- the hash of the only node
alone : (classes hashes : List ℕ) (place : ℕ) (node : Node) → slice_get (one_node 1 0 1) place ≡ Some node
    → slice_index hashes 0 ≡ joined 1 (hash_of classes hashes (Leaf 0)) (hash_of classes hashes (Leaf 1))
    → slice_index hashes place ≡ joined node.var (hash_of classes hashes node.low) (hash_of classes hashes node.high)
alone classes hashes zero node held is = is ∙ ap (λ (n : Node). joined n.var (hash_of classes hashes n.low) (hash_of classes hashes n.high)) (same_Some _ node held)
alone classes hashes (suc place) node held is = let within = slice_get_within (one_node 1 0 1) (suc place) node held in absurd (omega (arith, within))

pub returns-clause-nodes : goal.returns-clause-nodes
returns-clause-nodes c = record {
  all = refl;
  each = λ place node held within. alone (0 ∷ 1 ∷ []) (2975101409 ∷ []) place node held (sym other_variable);
}

pub returns-clause-one_class : goal.returns-clause-one_class
returns-clause-one_class c = record { all = refl; each = λ place node held within. alone (5 ∷ 5 ∷ []) (5 ∷ []) place node held refl }

pub returns-clause-another : goal.returns-clause-another
returns-clause-another c are =
    let node : Node = record { var = 1; low = Leaf 0; high = Leaf 1 } in
    let is : 5 ≡ joined 1 0 1 = are.each 0 node refl (omega arith) in
    let same : 5 ≡ 2975101409 = is ∙ other_variable in
    omega (arith, same)

pub returns-clause-one_mark : goal.returns-clause-one_mark
returns-clause-one_mark c = record {
  all = refl;
  alike = λ one other in_one in_other same.
      let first : one ≡ 0 = omega (arith, in_one) in
      let second : other ≡ 0 = omega (arith, in_other) in
      ap (slice_get (7 ∷ [])) (first ∙ sym second);
}

pub returns-clause-told_apart : goal.returns-clause-told_apart
returns-clause-told_apart c are =
    let same = same_Some 1 2 (are.alike 1 2 (omega arith) (omega arith) (λ bits. ap (slice_get (0 ∷ 1 ∷ 1 ∷ [])) (leaf_of-leaf three_states.nodes bits 2) ∙ ap (slice_get (0 ∷ 1 ∷ 1 ∷ [])) (sym (leaf_of-leaf three_states.nodes bits 1)))) in
    omega (arith, same)
