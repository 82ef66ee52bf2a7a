use Rattle.std.proofs.Common.{◌≡◌, ◌+◌, ◌<◌, ℕ, zero, suc, Bool, true, false, List, [], ◌∷◌, Contains, slice_index, if◌then◌else◌, refl, sym, ap, subst, ◌∙◌, ⊎_elim, arith}
use Rattle.std.proofs.lemmas.Option.{same_Some}
use Rattle.ms_arena.specs.declared.node.Ref.{Ref}
use Rattle.ms_arena.specs.declared.node.Ref.TheVariants.{Inner, Leaf}
use Rattle.ms_arena.specs.Diagram.{leaf_of}
use Rattle.ms_arena.proofs.ReachLemmas.{IsTested-own}
use Rattle.ms_diagram.specs.Collect.{IsLeafThere}
use Rattle.ms_diagram.specs.Projecting.{opened}
use Rattle.ms_diagram.specs.inner.Examples.{left_out_bit, only, own_bit, renamed_bit}
use Rattle.ms_diagram.proofs.BothSides.{own_bit-leaf, tests_first}
use Rattle.ms_diagram.proofs.ListLemmas.{Contains-cases, Contains-first, Contains-none, Contains-rest}
use Rattle.ms_diagram.proofs.examples.worked_projected.Goals as goal

-- the one root
one_root : (root : Ref) → Contains (Inner 0 ∷ []) root → root ≡ Inner 0
one_root root there = ⊎_elim (λ same. same) (λ none. absurd (Contains-none root none)) (Contains-cases (Inner 0) [] root there)

abbrev leaf : Bool → ℕ
leaf bit = if bit then 1 else 0

pub returns-clause-order : goal.returns-clause-order
returns-clause-order c zero zero less within first second = absurd (omega (arith, less))
returns-clause-order c zero (suc zero) less within first second = absurd (second refl)
returns-clause-order c zero (suc (suc zero)) less within first second = omega arith
returns-clause-order c zero (suc (suc (suc two))) less within first second = absurd (omega (arith, within))
returns-clause-order c (suc zero) two less within first second = absurd (first refl)
returns-clause-order c (suc (suc one)) two less within first second = absurd (omega (arith, less, within))

pub returns-clause-turned_round : goal.returns-clause-turned_round
returns-clause-turned_round c = λ keeps. let less = keeps 0 1 (omega arith) (omega arith) (λ same. omega (arith, same)) (λ same. omega (arith, same)) in omega (arith, less)

pub returns-clause-read : goal.returns-clause-read
returns-clause-read c = (omega arith, λ var tested. let first = tests_first (Inner 0) var tested in omega (arith, first))

pub returns-clause-no_variable : goal.returns-clause-no_variable
returns-clause-no_variable c = λ read.
    let within = read.1 0 (IsTested-own own_bit 0 (record { var = 0; low = Leaf 0; high = Leaf 1 }) refl) in
    omega (arith, within)

-- both leaves are met for the bits of the track
either : (bit : Bool) → Contains (0 ∷ 1 ∷ []) (leaf bit)
either true = Contains-rest 0 (1 ∷ []) 1 (Contains-first 1 [])
either false = Contains-first 0 (1 ∷ [])

pub returns-clause-both_leaves : goal.returns-clause-both_leaves
returns-clause-both_leaves c = (0 ∷ 1 ∷ [], refl, record { rising = rises; all = all; only = met })
  where
    rises : (k : ℕ) → k + 1 < 2 → slice_index (0 ∷ 1 ∷ []) k < slice_index (0 ∷ 1 ∷ []) (k + 1)
    rises zero less = omega arith
    rises (suc k) less = absurd (omega (arith, less))

    all : (item : ℕ) → IsLeafThere left_out_bit (Inner 0 ∷ []) (only 5) item → Contains (0 ∷ 1 ∷ []) item
    all item there = subst (Contains (0 ∷ 1 ∷ []))
        (sym (own_bit-leaf (opened left_out_bit (only 5) there.1)) ∙ ap (λ root. leaf_of own_bit root (opened left_out_bit (only 5) there.1)) (sym (one_root there.0 there.2)) ∙ there.3)
        (either there.1)

    met : (item : ℕ) → Contains (0 ∷ 1 ∷ []) item → IsLeafThere left_out_bit (Inner 0 ∷ []) (only 5) item
    met item held = ⊎_elim
        (λ low. (Inner 0, false, Contains-first (Inner 0) [], own_bit-leaf (opened left_out_bit (only 5) false) ∙ sym low))
        (λ rest. ⊎_elim
        (λ high. (Inner 0, true, Contains-first (Inner 0) [], own_bit-leaf (opened left_out_bit (only 5) true) ∙ sym high))
        (λ none. absurd (Contains-none item none))
        (Contains-cases 1 [] item rest))
        (Contains-cases 0 (1 ∷ []) item held)

-- one leaf alone where the track is another variable
met_one : (item : ℕ) → IsLeafThere renamed_bit (Inner 0 ∷ []) (only 5) item → item ≡ 1
met_one item there =
    sym there.3 ∙ ap (λ root. leaf_of own_bit root (opened renamed_bit (only 5) there.1)) (one_root there.0 there.2) ∙ own_bit-leaf (opened renamed_bit (only 5) there.1)

pub returns-clause-one_leaf : goal.returns-clause-one_leaf
returns-clause-one_leaf c = (
  1 ∷ [],
  refl,
  record {
    rising = λ k less. absurd (omega (arith, less));
    all = λ item there. subst (Contains (1 ∷ [])) (sym (met_one item there)) (Contains-first 1 []);
    only = λ item held. ⊎_elim
        (λ same. (Inner 0, false, Contains-first (Inner 0) [], own_bit-leaf (opened renamed_bit (only 5) false) ∙ sym same))
        (λ none. absurd (Contains-none item none))
        (Contains-cases 1 [] item held);
  },
)

pub returns-clause-not_both : goal.returns-clause-not_both
returns-clause-not_both c = λ number.
    let zero_there = subst (λ (set : List ℕ). Contains set 0) (same_Some (0 ∷ 1 ∷ []) number.0 number.1) (Contains-first 0 (1 ∷ [])) in
    let same = met_one 0 (number.2.only 0 zero_there) in
    omega (arith, same)

pub returns-clause-room_for_sets : goal.returns-clause-room_for_sets
returns-clause-room_for_sets c = λ lacks. let all = lacks.0 in omega (arith, all)
