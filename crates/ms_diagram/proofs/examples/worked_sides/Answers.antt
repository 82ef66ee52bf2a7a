use Rattle.std.proofs.Common.{◌≡◌, ℕ, [], ◌∷◌, Some, refl, sym, ap, ◌∙◌, arith}
use Rattle.std.proofs.lemmas.Option.{same_Some}
use Rattle.ms_arena.specs.declared.node.Ref.TheVariants.{Leaf, Inner}
use Rattle.ms_arena.proofs.ReachLemmas.{IsTested-own}
use Rattle.ms_diagram.specs.Across.{leaves_across}
use Rattle.ms_diagram.specs.Bring.{Renames, read_through}
use Rattle.ms_diagram.specs.inner.Examples.{both_roots, crossed, only, own_bit}
use Rattle.ms_diagram.proofs.BothSides.{never_two, own_bit-leaf, tests_first}
use Rattle.ms_diagram.proofs.examples.worked_sides.Goals as goal

left_is : leaves_across crossed both_roots (only 1) ≡ (1, 0)
left_is =
    let left = own_bit-leaf (read_through (1 ∷ []) (only 1)) in
    let right = own_bit-leaf (read_through (0 ∷ []) (only 1)) in
    λ i. (left i, right i)

renamed_by : (variable : ℕ) → Renames own_bit (variable ∷ []) (Inner 0)
renamed_by variable = record {
  long = λ var tested. let first = tests_first (Inner 0) var tested in omega (arith, first);
  rising = λ one two first second less. (
      let one_is = tests_first (Inner 0) one first in
      let two_is = tests_first (Inner 0) two second in
      absurd (omega (arith, one_is, two_is, less)));
}

pub returns-clause-left : goal.returns-clause-left
returns-clause-left c = left_is

pub returns-clause-right : goal.returns-clause-right
returns-clause-right c =
    let left = own_bit-leaf (read_through (1 ∷ []) (only 0)) in
    let right = own_bit-leaf (read_through (0 ∷ []) (only 0)) in
    λ i. (left i, right i)

pub returns-clause-met : goal.returns-clause-met
returns-clause-met c = (only 1, left_is)

pub returns-clause-never_met : goal.returns-clause-never_met
returns-clause-never_met c = λ has. never_two (read_through (1 ∷ []) has.0) (ap (λ (p : ℕ × ℕ). p.0) has.1)

pub returns-clause-number : goal.returns-clause-number
returns-clause-number c = ap Some (sym left_is)

pub returns-clause-other_number : goal.returns-clause-other_number
returns-clause-other_number c = λ number.
    let same : 0 ≡ 1 = ap (λ (p : ℕ × ℕ). p.0) (same_Some (0, 1) (leaves_across crossed both_roots (only 1)) number ∙ left_is) in
    omega (arith, same)

pub returns-clause-room_for_numbers : goal.returns-clause-room_for_numbers
returns-clause-room_for_numbers c = λ lacks. let all = lacks.0 in omega (arith, all)

pub returns-clause-on : goal.returns-clause-on
returns-clause-on c = ((omega arith, renamed_by 1), (omega arith, renamed_by 0))

pub returns-clause-no_place : goal.returns-clause-no_place
returns-clause-no_place c = λ on. let within = on.0 in omega (arith, within)

pub returns-clause-no_variable : goal.returns-clause-no_variable
returns-clause-no_variable c = λ on.
    let within = on.1.long 0 (IsTested-own own_bit 0 (record { var = 0; low = Leaf 0; high = Leaf 1 }) refl) in
    omega (arith, within)
