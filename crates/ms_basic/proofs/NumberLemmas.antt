-- The machine of x = n decides it.
use Rattle.std.proofs.Common.{◌≡◌, ◌≢◌, ℕ, zero, suc, ◌+◌, ◌<◌, ◌≤◌, Bool, refl, arith}
use Rattle.std.proofs.lemmas.Bool.Decides.{nat_tests}
use Rattle.ms_logic_core.specs.declared.core_formula.Basic.TheVariants.{Number}
use Rattle.ms_logic.specs.declared.mode.Mode.{Mode}
use Rattle.ms_basic.specs.inner.Number.{number_step, number_table}
use Rattle.ms_logic_core.specs.Operands.{variables_of_basic}
use Rattle.ms_basic.specs.inner.Relation.{DecidesRelation, IsRight}
use Rattle.ms_basic.specs.inner.Tally.{IsTally}
use Rattle.ms_basic.specs.Verdict.{sign_by_verdict}
use Rattle.ms_basic.proofs.BitLemmas.{Tells, told}
use Rattle.ms_basic.proofs.ReadingLemmas.{kept}
use Rattle.ms_basic.proofs.VerdictLemmas.{IsCounted, count_met, tally_by_verdict}

-- what a state says behind the positions so far
abbrev NumberAt : ℕ → ℕ → ℕ → ℕ → Type 0
NumberAt n x position zero = ⊥
NumberAt n x position (suc zero) = (x < position) × (x ≡ n)
NumberAt n x position (suc (suc zero)) = (x < position) × (x ≢ n)
NumberAt n x position (suc (suc (suc zero))) = (position ≤ x) × (n < position)
NumberAt n x position (suc (suc (suc (suc k)))) = (position ≤ x) × (position ≡ k) × (k ≤ n)

number_next : (n x position state : ℕ) (a : Bool) → Tells a x position → NumberAt n x position state → NumberAt n x (suc position) (number_step n state a)
number_next n x position zero a first at = absurd at
number_next n x position (suc zero) a first at = grind arith
number_next n x position (suc (suc zero)) a first at = grind arith
number_next n x position (suc (suc (suc zero))) a first at = grind arith
number_next n x position (suc (suc (suc (suc k)))) a first at = grind (arith, nat_tests)

number_right : (n x count state : ℕ) → NumberAt n x count state → x < count → IsRight (x ≡ n) (sign_by_verdict state)
number_right n x count zero at within = at
number_right n x count (suc zero) at within = at.1
number_right n x count (suc (suc zero)) at within = at.1
number_right n x count (suc (suc (suc zero))) at within = omega arith
number_right n x count (suc (suc (suc (suc k)))) at within = omega arith

-- each step leads to one of the states, and counts the ones of the number
number_steps : (n state : ℕ) (a : Bool) → (state < n + 5 → number_step n state a < n + 5) × IsCounted count_met a state (number_step n state a)
number_steps n zero a = (λ small. grind arith, grind arith)
number_steps n (suc zero) a = (λ small. grind arith, grind arith)
number_steps n (suc (suc zero)) a = (λ small. grind arith, grind arith)
number_steps n (suc (suc (suc zero))) a = (λ small. grind arith, grind arith)
number_steps n (suc (suc (suc (suc k)))) a = (λ small. grind (arith, nat_tests), grind (arith, nat_tests))

number_tally : (n : ℕ) → IsTally (number_table n) 0 count_met
number_tally n = tally_by_verdict (number_table n) 0 count_met refl refl refl (λ bits. refl) (λ bits. refl) (λ state bits. (number_steps n state bits.first).1)

pub decides_number : (mode : Mode) (x n : ℕ) → DecidesRelation mode (variables_of_basic (Number x n)) (Number x n) (number_table n)
decides_number mode x n = record {
  closed = record { start = λ bits. omega arith; step = λ state bits small. (number_steps n state bits.first).0 small };
  tallies = ((count_met, number_tally n), tt);
  right = λ e count assigned room string.
      number_right n (e.number x) count _
      (kept (number_table n) (variables_of_basic (Number x n)) e count (NumberAt n (e.number x)) (omega arith, omega arith, omega arith)
      (λ position state at. number_next n (e.number x) position state _ (told (e.number x) position) at))
      (omega (arith, room));
}
