-- The machine of x < y decides it.
use Rattle.std.proofs.Common.{ℕ, zero, suc, ◌<◌, ◌≤◌, Bool, refl, arith}
use Rattle.ms_logic_core.specs.declared.core_formula.Basic.TheVariants.{Less}
use Rattle.ms_logic.specs.declared.mode.Mode.{Mode}
use Rattle.ms_basic.specs.inner.Less.{less_step, less_table}
use Rattle.ms_logic_core.specs.Operands.{variables_of_basic}
use Rattle.ms_basic.specs.inner.Relation.{DecidesRelation, IsRight}
use Rattle.ms_basic.specs.inner.Tally.{IsTally}
use Rattle.ms_basic.specs.Verdict.{sign_by_verdict}
use Rattle.ms_basic.proofs.BitLemmas.{Tells, told}
use Rattle.ms_basic.proofs.ReadingLemmas.{kept}
use Rattle.ms_basic.proofs.VerdictLemmas.{IsCounted, count_first, count_second, tally_by_verdict}

-- what a state says of the numbers behind the positions so far
abbrev LessAt : ℕ → ℕ → ℕ → ℕ → Type 0
LessAt x y position zero = ⊥
LessAt x y position (suc zero) = (x < position) × (y < position) × (x < y)
LessAt x y position (suc (suc zero)) = (x < position) × (y < position) × (y ≤ x)
LessAt x y position (suc (suc (suc zero))) = (position ≤ x) × (position ≤ y)
LessAt x y position (suc (suc (suc (suc zero)))) = (x < position) × (position ≤ y)
LessAt x y position (suc (suc (suc (suc (suc more))))) = (position ≤ x) × (y < position)

less_next : (x y position state : ℕ) (a b : Bool) → Tells a x position → Tells b y position → LessAt x y position state → LessAt x y (suc position) (less_step state a b)
less_next x y position zero a b first second at = absurd at
less_next x y position (suc zero) a b first second at = grind arith
less_next x y position (suc (suc zero)) a b first second at = grind arith
less_next x y position (suc (suc (suc zero))) a b first second at = grind arith
less_next x y position (suc (suc (suc (suc zero)))) a b first second at = grind arith
less_next x y position (suc (suc (suc (suc (suc more))))) a b first second at = grind arith

-- behind both numbers the sign is right
less_right : (x y count state : ℕ) → LessAt x y count state → x < count → y < count → IsRight (x < y) (sign_by_verdict state)
less_right x y count zero at first second = at
less_right x y count (suc zero) at first second = omega arith
less_right x y count (suc (suc zero)) at first second = λ less. omega arith
less_right x y count (suc (suc (suc zero))) at first second = omega arith
less_right x y count (suc (suc (suc (suc zero)))) at first second = omega arith
less_right x y count (suc (suc (suc (suc (suc more))))) at first second = omega arith

-- each step leads to one of the states, and counts the ones of each of the two
less_steps : (state : ℕ) (a b : Bool) → (state < 6 → less_step state a b < 6) × IsCounted count_first a state (less_step state a b) × IsCounted count_second b state (less_step state a b)
less_steps zero a b = (λ small. grind arith, grind arith, grind arith)
less_steps (suc zero) a b = (λ small. grind arith, grind arith, grind arith)
less_steps (suc (suc zero)) a b = (λ small. grind arith, grind arith, grind arith)
less_steps (suc (suc (suc zero))) a b = (λ small. grind arith, grind arith, grind arith)
less_steps (suc (suc (suc (suc zero)))) a b = (λ small. grind arith, grind arith, grind arith)
less_steps (suc (suc (suc (suc (suc more))))) a b = (λ small. grind arith, grind arith, grind arith)

first_tally : IsTally less_table 0 count_first
first_tally = tally_by_verdict less_table 0 count_first refl refl refl (λ bits. refl) (λ bits. refl) (λ state bits. (less_steps state bits.first bits.second).1)

second_tally : IsTally less_table 1 count_second
second_tally = tally_by_verdict less_table 1 count_second refl refl refl (λ bits. refl) (λ bits. refl) (λ state bits. (less_steps state bits.first bits.second).2)

pub decides_less : (mode : Mode) (x y : ℕ) → DecidesRelation mode (variables_of_basic (Less x y)) (Less x y) less_table
decides_less mode x y = record {
  closed = record { start = λ bits. omega arith; step = λ state bits small. (less_steps state bits.first bits.second).0 small };
  tallies = ((count_first, first_tally), ((count_second, second_tally), tt));
  right = λ e count assigned room string.
      less_right (e.number x) (e.number y) count _
      (kept less_table (variables_of_basic (Less x y)) e count (LessAt (e.number x) (e.number y)) (omega arith, omega arith)
      (λ position state at. less_next (e.number x) (e.number y) position state _ _ (told (e.number x) position) (told (e.number y) position) at))
      (omega (arith, room)) (omega (arith, room));
}
