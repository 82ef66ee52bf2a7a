use Rattle.std.proofs.Common.{◌≡◌, ℕ, zero, suc, ◌+◌, ◌<◌, List, [], ◌∷◌, length, slice_get, Contains, Some, refl, sym, ◌∙◌, ap, subst, inl, inr, arith}
use Rattle.std.proofs.lemmas.List.Elements.{All-nil, All-cons}
use Rattle.std.proofs.lemmas.Option.{same_Some}
use Rattle.std.specs.List.Sorted.{IsStrictlyIncreasing}
use Rattle.ms_logic.specs.declared.mode.Order.TheVariants.{One, Two}
use Rattle.ms_logic.specs.Assignment.{Variable}
use Rattle.ms_logic_core.specs.Operands.{variable}
use Rattle.ms_dag.specs.declared.node.Child.{Child}
use Rattle.ms_dag.specs.declared.node.DagNode.TheVariants.{Import}
use Rattle.ms_dag.specs.declared.node.Entry.{Entry}
use Rattle.ms_dag.specs.Dag.{IsChild, IsNode, IsUsed}
use Rattle.ms_dag.specs.inner.Examples.{child, before, between, chain, import_at}
use Rattle.ms_dag.proofs.examples.worked_graphs.Goals as goal

two_rise : (a : ℕ) → IsStrictlyIncreasing (a ∷ (a + 1) ∷ [])
two_rise a zero below = omega arith
two_rise a (suc k) below = absurd (omega (arith, below))

-- its order is that of a number of two
abbrev IsOwn : Variable → Type 0
IsOwn v = slice_get (One ∷ One ∷ []) v.name ≡ Some v.order

before_is_node : IsNode chain 0 before
before_is_node = record {
  children = All-nil (IsChild chain 0 (One ∷ One ∷ []));
  own = All-cons IsOwn (variable 0 One) (variable 1 One ∷ []) refl (All-cons IsOwn (variable 1 One) [] refl (All-nil IsOwn));
  free = among;
}
  where
    among : (j : ℕ) → j < 2 → Contains (0 ∷ 1 ∷ []) j
    among zero below = (0, omega arith, refl)
    among (suc zero) below = (1, omega arith, refl)
    among (suc (suc j)) below = absurd (omega (arith, below))

pair_is_child : (a : ℕ) → a + 1 < 3 → slice_get (One ∷ One ∷ One ∷ []) a ≡ Some One → slice_get (One ∷ One ∷ One ∷ []) (a + 1) ≡ Some One → IsChild chain 1 (One ∷ One ∷ One ∷ []) (child 0 (a ∷ (a + 1) ∷ []))
pair_is_child a below first second = record {
  part = record { smaller = omega arith; within = All-cons (λ j. j < 3) a ((a + 1) ∷ []) (omega arith) (All-cons (λ j. j < 3) (a + 1) [] below (All-nil (λ j. j < 3))) };
  rising = two_rise a;
  ordered = (before, refl, cc);
}

between_is_node : IsNode chain 1 between
between_is_node = record {
  children = All-cons (IsChild chain 1 (One ∷ One ∷ One ∷ [])) (child 0 (0 ∷ 1 ∷ [])) (child 0 (1 ∷ 2 ∷ []) ∷ []) (pair_is_child 0 (omega arith) refl refl)
      (All-cons (IsChild chain 1 (One ∷ One ∷ One ∷ [])) (child 0 (1 ∷ 2 ∷ [])) [] (pair_is_child 1 (omega arith) refl refl) (All-nil (IsChild chain 1 (One ∷ One ∷ One ∷ []))));
  own = tt;
  free = among;
}
  where
    among : (j : ℕ) → j < 3 → Contains (0 ∷ 1 ∷ 1 ∷ 2 ∷ []) j
    among zero below = (0, omega arith, refl)
    among (suc zero) below = (1, omega arith, refl)
    among (suc (suc zero)) below = (3, omega arith, refl)
    among (suc (suc (suc j))) below = absurd (omega (arith, below))

each_node : (i : ℕ) (entry : Entry) → slice_get chain i ≡ Some entry → IsNode chain i entry
each_node zero entry held = let P : Entry → Type 0 = λ e. IsNode chain 0 e in subst P (same_Some before entry held) before_is_node
each_node (suc zero) entry held = let P : Entry → Type 0 = λ e. IsNode chain 1 e in subst P (same_Some between entry held) between_is_node
each_node (suc (suc i)) entry held = absurd (let never : ⊥ = cc in never)

two_or_three : before ≡ between → ⊥
two_or_three same = let long = ap (λ (e : Entry). length e.orders) same in omega (arith, long)

two_entries : (one two : ℕ) (entry : Entry) → slice_get chain one ≡ Some entry → slice_get chain two ≡ Some entry → one ≡ two
two_entries zero zero entry first second = refl
two_entries zero (suc zero) entry first second = absurd (two_or_three (same_Some before between (first ∙ sym second)))
two_entries (suc zero) zero entry first second = absurd (two_or_three (same_Some before between (second ∙ sym first)))
two_entries (suc zero) (suc zero) entry first second = refl
two_entries (suc (suc i)) two entry first second = absurd (let never : ⊥ = cc in never)
two_entries one (suc (suc j)) entry first second = absurd (let never : ⊥ = cc in never)

no_import : (i : ℕ) (entry : Entry) (import : ℕ) (xs : List ℕ) → slice_get chain i ≡ Some entry → entry.node ≡ Import import xs → ⊥
no_import zero entry import xs held is = let same : before.node ≡ Import import xs = ap (λ (e : Entry). e.node) (same_Some before entry held) ∙ is in cc
no_import (suc zero) entry import xs held is = let same : between.node ≡ Import import xs = ap (λ (e : Entry). e.node) (same_Some between entry held) ∙ is in cc
no_import (suc (suc i)) entry import xs held is = cc

each_used : (i : ℕ) → i < 2 → IsUsed chain (child 1 (0 ∷ 4 ∷ 6 ∷ []) ∷ []) i
each_used zero below = inr (1, between, refl, (0, omega arith, refl))
each_used (suc zero) below = inl (0, omega arith, refl)
each_used (suc (suc i)) below = absurd (omega (arith, below))

pub returns-clause-graph : goal.returns-clause-graph
returns-clause-graph c = record {
  nodes = record { nodes = each_node; distinct = two_entries };
  imports = λ i j one two import xs ys first second is also. absurd (no_import i one import xs first is);
  within = All-cons (λ (d : Child). d.node < 2) (child 1 (0 ∷ 4 ∷ 6 ∷ [])) [] (omega arith) (All-nil (λ (d : Child). d.node < 2));
  used = each_used;
  small = omega arith;
}

pub returns-clause-repeated : goal.returns-clause-repeated
returns-clause-repeated c = λ graph. let same = graph.nodes.distinct 0 1 before refl refl in omega (arith, same)

pub returns-clause-unlike : goal.returns-clause-unlike
returns-clause-unlike c = λ graph.
    let same : Some One ∷ [] ≡ Some Two ∷ [] = graph.imports 0 1 (import_at One) (import_at Two) 5 (0 ∷ []) (0 ∷ []) refl refl refl refl in
    let never : ⊥ = cc in never
