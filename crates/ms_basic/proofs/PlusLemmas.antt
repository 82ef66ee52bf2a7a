-- The machine of x = y + n decides it.
use Rattle.std.proofs.Common.{◌≡◌, ◌≢◌, ℕ, zero, suc, ◌+◌, ◌<◌, ◌≤◌, Bool, refl, arith}
use Rattle.std.proofs.lemmas.Bool.Decides.{nat_tests}
use Rattle.ms_logic_core.specs.declared.core_formula.Basic.TheVariants.{Plus}
use Rattle.ms_logic.specs.declared.mode.Mode.{Mode}
use Rattle.ms_logic_core.specs.Operands.{variables_of_basic}
use Rattle.ms_basic.specs.inner.Plus.{plus_step, plus_table}
use Rattle.ms_basic.specs.inner.Relation.{DecidesRelation, IsRight}
use Rattle.ms_basic.specs.inner.Tally.{IsTally}
use Rattle.ms_basic.specs.Verdict.{sign_by_verdict}
use Rattle.ms_basic.proofs.BitLemmas.{Tells, told}
use Rattle.ms_basic.proofs.ReadingLemmas.{kept}
use Rattle.ms_basic.proofs.VerdictLemmas.{IsCounted, count_first, count_second, tally_by_verdict}

-- what a state says behind the positions so far
abbrev PlusAt : ℕ → ℕ → ℕ → ℕ → ℕ → Type 0
PlusAt n x y position zero = ⊥
PlusAt n x y position (suc zero) = (x < position) × (y < position) × (x ≡ y + n)
PlusAt n x y position (suc (suc zero)) = (x < position) × (y < position) × (x ≢ y + n)
PlusAt n x y position (suc (suc (suc zero))) = (position ≤ x) × (position ≤ y)
PlusAt n x y position (suc (suc (suc (suc zero)))) = (x < position) × (position ≤ y)
PlusAt n x y position (suc (suc (suc (suc (suc zero))))) = (position ≤ x) × (y < position) × (y + n < position)
PlusAt n x y position (suc (suc (suc (suc (suc (suc j)))))) = (position ≤ x) × (position ≡ y + suc j) × (suc j ≤ n)

plus_next : (n x y position state : ℕ) (a b : Bool) → Tells a x position → Tells b y position → PlusAt n x y position state → PlusAt n x y (suc position) (plus_step n state a b)
plus_next n x y position zero a b first second at = absurd at
plus_next n x y position (suc zero) a b first second at = grind arith
plus_next n x y position (suc (suc zero)) a b first second at = grind arith
plus_next n x y position (suc (suc (suc zero))) a b first second at = grind (arith, nat_tests)
plus_next n x y position (suc (suc (suc (suc zero)))) a b first second at = grind arith
plus_next n x y position (suc (suc (suc (suc (suc zero))))) a b first second at = grind arith
plus_next n x y position (suc (suc (suc (suc (suc (suc j)))))) a b first second at = grind (arith, nat_tests)

plus_right : (n x y count state : ℕ) → PlusAt n x y count state → x < count → y < count → IsRight (x ≡ y + n) (sign_by_verdict state)
plus_right n x y count zero at first second = at
plus_right n x y count (suc zero) at first second = at.2
plus_right n x y count (suc (suc zero)) at first second = at.2
plus_right n x y count (suc (suc (suc zero))) at first second = omega arith
plus_right n x y count (suc (suc (suc (suc zero)))) at first second = omega arith
plus_right n x y count (suc (suc (suc (suc (suc zero))))) at first second = omega arith
plus_right n x y count (suc (suc (suc (suc (suc (suc j)))))) at first second = omega arith

-- each step leads to one of the states, and counts the ones of each of the two
plus_steps : (n state : ℕ) (a b : Bool) → (state < n + 6 → plus_step n state a b < n + 6) × IsCounted count_first a state (plus_step n state a b) × IsCounted count_second b state (plus_step n state a b)
plus_steps n zero a b = (λ small. grind arith, grind arith, grind arith)
plus_steps n (suc zero) a b = (λ small. grind arith, grind arith, grind arith)
plus_steps n (suc (suc zero)) a b = (λ small. grind arith, grind arith, grind arith)
plus_steps n (suc (suc (suc zero))) a b = (λ small. grind (arith, nat_tests), grind (arith, nat_tests), grind (arith, nat_tests))
plus_steps n (suc (suc (suc (suc zero)))) a b = (λ small. grind arith, grind arith, grind arith)
plus_steps n (suc (suc (suc (suc (suc zero))))) a b = (λ small. grind arith, grind arith, grind arith)
plus_steps n (suc (suc (suc (suc (suc (suc j)))))) a b = (λ small. grind (arith, nat_tests), grind (arith, nat_tests), grind (arith, nat_tests))

first_tally : (n : ℕ) → IsTally (plus_table n) 0 count_first
first_tally n = tally_by_verdict (plus_table n) 0 count_first refl refl refl (λ bits. refl) (λ bits. refl) (λ state bits. (plus_steps n state bits.first bits.second).1)

second_tally : (n : ℕ) → IsTally (plus_table n) 1 count_second
second_tally n = tally_by_verdict (plus_table n) 1 count_second refl refl refl (λ bits. refl) (λ bits. refl) (λ state bits. (plus_steps n state bits.first bits.second).2)

pub decides_plus : (mode : Mode) (x y n : ℕ) → DecidesRelation mode (variables_of_basic (Plus x y n)) (Plus x y n) (plus_table n)
decides_plus mode x y n = record {
  closed = record { start = λ bits. omega arith; step = λ state bits small. (plus_steps n state bits.first bits.second).0 small };
  tallies = ((count_first, first_tally n), ((count_second, second_tally n), tt));
  right = λ e count assigned room string.
      plus_right n (e.number x) (e.number y) count _
      (kept (plus_table n) (variables_of_basic (Plus x y n)) e count (PlusAt n (e.number x) (e.number y)) (omega arith, omega arith)
      (λ position state at. plus_next n (e.number x) (e.number y) position state _ _ (told (e.number x) position) (told (e.number y) position) at))
      (omega (arith, room)) (omega (arith, room));
}
