-- The nodes of the worked examples.
use Rattle.std.proofs.Common.{◌≡◌, ℕ, zero, suc, ◌<◌, ◌≤◌, [], ◌∷◌, slice_get, slice_index, Some, refl, sym, subst, arith}
use Rattle.std.proofs.lemmas.Option.{same_Some}
use Rattle.std.proofs.Math.Nat.{le_refl}
use Rattle.ms_dag.specs.declared.node.Entry.{Entry}
use Rattle.ms_dag.specs.Dag.{IsNodeOf, children_of}
use Rattle.ms_dag.specs.inner.Examples.{before, between, chain}
use Rattle.ms_build.specs.inner.Examples.{between_alone}
use Rattle.ms_build.specs.inner.Uses.{AreLastUses, AreUsesSoFar, to_the_end}

-- the children of the second node are the first one
pub child_of_between : (i : ℕ) → IsNodeOf (children_of between.node) i → i ≡ 0
child_of_between i (zero, within, is) = sym is
child_of_between i (suc zero, within, is) = sym is
child_of_between i (suc (suc k), within, is) = absurd (omega (arith, within))

-- the root's node is the second one
pub node_of_root : (i : ℕ) → IsNodeOf between_alone i → i ≡ 1
node_of_root i (zero, within, is) = sym is
node_of_root i (suc k, within, is) = absurd (omega (arith, within))

-- there is no third
pub two_nodes : (k : ℕ) (entry : Entry) → slice_get chain k ≡ Some entry → k < 2
two_nodes zero entry held = omega arith
two_nodes (suc zero) entry held = omega arith
two_nodes (suc (suc k)) entry held = let never : ⊥ = cc in absurd never

-- and nothing has it as a child
pub no_third : (k : ℕ) (entry : Entry) → slice_get chain k ≡ Some entry → IsNodeOf (children_of entry.node) 2 → ⊥
no_third zero entry held child =
    let is : before ≡ entry = same_Some before entry held in
    let none = subst (λ (e : Entry). IsNodeOf (children_of e.node) 2) (sym is) child in
    let within = none.1 in omega (arith, within)
no_third (suc zero) entry held child =
    let is : between ≡ entry = same_Some between entry held in
    let first = child_of_between 2 (subst (λ (e : Entry). IsNodeOf (children_of e.node) 2) (sym is) child) in
    omega (arith, first)
no_third (suc (suc k)) entry held child = let never : ⊥ = cc in never

-- the first node is used last by the second, or later, and the second to the end
pub last_uses : (first : ℕ) → 1 ≤ first → AreLastUses chain between_alone (first ∷ 4294967295 ∷ [])
last_uses first enough = record { all = refl; children = by; ends = ends }
  where
    by : AreUsesSoFar chain 2 (first ∷ 4294967295 ∷ [])
    by zero entry i less held child within = omega arith
    by (suc zero) entry i less held child within =
        let is : between ≡ entry = same_Some between entry held in
        let none = child_of_between i (subst (λ (e : Entry). IsNodeOf (children_of e.node) i) (sym is) child) in
        subst (λ n. 1 ≤ slice_index (first ∷ 4294967295 ∷ []) n) (sym none) enough
    by (suc (suc k)) entry i less held child within = absurd (omega (arith, less))

    ends : (i : ℕ) → IsNodeOf between_alone i → i < 2 → to_the_end ≤ slice_index (first ∷ 4294967295 ∷ []) i
    ends i root within = subst (λ n. to_the_end ≤ slice_index (first ∷ 4294967295 ∷ []) n) (sym (node_of_root i root)) (le_refl 4294967295)
