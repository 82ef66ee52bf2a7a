-- No two states of the machine of x = n are alike.
use Rattle.std.proofs.Common.{◌≡◌, ◌≢◌, ℕ, zero, suc, ◌+◌, ◌-◌, ◌<◌, true, false, refl, arith}
use Rattle.std.proofs.lemmas.Bool.Decides.{nat_tests}
use Rattle.ms_logic_words.specs.declared.sign.Sign.TheVariants.{Yes, Outside}
use Rattle.ms_basic.specs.inner.Apart.{AreApart, HasStatesApart}
use Rattle.ms_basic.specs.inner.Number.{number_step, number_table}
use Rattle.ms_basic.specs.Verdict.{sign_by_verdict}
use Rattle.ms_basic.proofs.ApartLemmas.{by_letter, now, of_one, one_bit}

-- the state in which the number has not been met below a position
abbrev unmet : ℕ → ℕ
unmet position = suc (suc (suc (suc position)))

module _ (n : ℕ) where
  -- a state before that of the place of the number does not have it there
  not_yes : (one : ℕ) → one < unmet n → sign_by_verdict one ≡ Outside → sign_by_verdict (number_step n one true) ≢ Yes
  not_yes zero before outside = grind arith
  not_yes (suc zero) before outside = grind arith
  not_yes (suc (suc zero)) before outside = grind arith
  not_yes (suc (suc (suc zero))) before outside = grind arith
  not_yes (suc (suc (suc (suc k)))) before outside = grind (arith, nat_tests)

  stays_before : (j one : ℕ) → j < n → one < unmet j → sign_by_verdict one ≡ Outside
      → (number_step n one false < unmet (suc j)) × (sign_by_verdict (number_step n one false) ≡ Outside)
  stays_before j zero early before outside = grind arith
  stays_before j (suc zero) early before outside = grind arith
  stays_before j (suc (suc zero)) early before outside = grind arith
  stays_before j (suc (suc (suc zero))) early before outside = grind arith
  stays_before j (suc (suc (suc (suc k)))) early before outside = grind (arith, nat_tests)

  -- zeros lead on to the place of the number, and there it is met from the later state alone
  before_unmet : (more j one : ℕ) → j + more ≡ n → one < unmet j → sign_by_verdict one ≡ Outside → AreApart 1 (number_table n) one (unmet j)
  before_unmet zero j one is before outside =
      let differ = not_yes one (omega (arith, is, before)) outside in
      by_letter 1 (number_table n) (one_bit true) (of_one true) one (unmet j) (number_step n one true) 1 refl (grind (arith, nat_tests, is))
      (now 1 (number_table n) (number_step n one true) 1 differ)
  before_unmet (suc more) j one is before outside =
      let next = stays_before j one (omega (arith, is)) before outside in
      by_letter 1 (number_table n) (one_bit false) (of_one false) one (unmet j) (number_step n one false) (unmet (suc j)) refl (grind (arith, nat_tests, is))
      (before_unmet more (suc j) (number_step n one false) (omega (arith, is)) next.0 next.1)

pub number_apart : (n : ℕ) → HasStatesApart 1 (number_table n)
number_apart n one zero less small = absurd (omega (arith, less))
number_apart n one (suc zero) less small = now 1 (number_table n) one 1 (grind (arith, less))
number_apart n zero (suc (suc zero)) less small = now 1 (number_table n) 0 2 (grind arith)
number_apart n zero (suc (suc (suc zero))) less small = by_letter 1 (number_table n) (one_bit true) (of_one true) 0 3 0 2 refl refl (now 1 (number_table n) 0 2 (grind arith))
number_apart n zero (suc (suc (suc (suc j)))) less small = before_unmet n (n - j) j 0 (omega (arith, small)) (omega arith) refl
number_apart n (suc zero) (suc (suc zero)) less small = now 1 (number_table n) 1 2 (grind arith)
number_apart n (suc zero) (suc (suc (suc other))) less small = now 1 (number_table n) 1 (suc (suc (suc other))) (grind arith)
number_apart n (suc (suc zero)) (suc (suc (suc other))) less small = now 1 (number_table n) 2 (suc (suc (suc other))) (grind arith)
number_apart n (suc (suc (suc one))) (suc (suc (suc (suc j)))) less small = before_unmet n (n - j) j (suc (suc (suc one))) (omega (arith, small)) less refl
number_apart n (suc one) other less small = absurd (omega (arith, less))
