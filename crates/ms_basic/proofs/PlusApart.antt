-- No two states of the machine of x = y + n are alike.
use Rattle.std.proofs.Common.{◌≡◌, ◌≢◌, ℕ, zero, suc, ◌+◌, ◌-◌, ◌≤◌, Bool, true, false, refl, arith}
use Rattle.std.proofs.lemmas.Bool.Decides.{nat_tests}
use Rattle.ms_basic.specs.inner.Apart.{AreApart, HasStatesApart}
use Rattle.ms_basic.specs.inner.Plus.{plus_step, plus_table}
use Rattle.ms_basic.specs.Verdict.{sign_by_verdict}
use Rattle.ms_basic.proofs.ApartLemmas.{by_letter, now, of_two, two_bits}

-- the state in which y alone has been met: the next position is so many behind it, or more than n for 0
abbrev behind : ℕ → ℕ
behind place = suc (suc (suc (suc (suc place))))

module _ (n : ℕ) where
  -- states from which a letter leads to different signs
  by : (x y : Bool) (one other : ℕ) → sign_by_verdict (plus_step n one x y) ≢ sign_by_verdict (plus_step n other x y) → AreApart 2 (plus_table n) one other
  by x y one other differ =
      by_letter 2 (plus_table n) (two_bits x y) (of_two x y) one other (plus_step n one x y) (plus_step n other x y) refl refl
      (now 2 (plus_table n) (plus_step n one x y) (plus_step n other x y) differ)

  by_zeros : (one other next further : ℕ) → plus_step n one false false ≡ next → plus_step n other false false ≡ further
      → AreApart 2 (plus_table n) next further → AreApart 2 (plus_table n) one other
  by_zeros one other next further leads also rest = by_letter 2 (plus_table n) (two_bits false false) (of_two false false) one other next further leads also rest

  -- zeros lead on to the right place, and there x is met in the later state alone
  before_place : (more place one : ℕ) → suc place + more ≡ n → one ≤ place → AreApart 2 (plus_table n) (behind one) (behind (suc place))
  before_place zero place zero is before = by true false (behind zero) (behind (suc place)) (grind (arith, nat_tests, is))
  before_place zero place (suc k) is before = by true false (behind (suc k)) (behind (suc place)) (grind (arith, nat_tests, is, before))
  before_place (suc more) place zero is before =
      by_zeros (behind zero) (behind (suc place)) (behind zero) (behind (suc (suc place))) refl (grind (arith, nat_tests, is))
      (before_place more (suc place) zero (omega (arith, is)) (omega arith))
  before_place (suc more) place (suc k) is before =
      by_zeros (behind (suc k)) (behind (suc place)) (behind (suc (suc k))) (behind (suc (suc place))) (grind (arith, nat_tests, is, before)) (grind (arith, nat_tests, is))
      (before_place more (suc place) (suc (suc k)) (omega (arith, is)) (omega (arith, before)))

pub plus_apart : (n : ℕ) → HasStatesApart 2 (plus_table n)
plus_apart n one zero less small = absurd (omega (arith, less))
plus_apart n one (suc zero) less small = now 2 (plus_table n) one 1 (grind (arith, less))
plus_apart n zero (suc (suc zero)) less small = now 2 (plus_table n) 0 2 (grind arith)
plus_apart n zero (suc (suc (suc zero))) less small = by n true true 0 3 (grind (arith, nat_tests))
plus_apart n zero (suc (suc (suc (suc zero)))) less small = by n false true 0 4 (grind arith)
plus_apart n zero (suc (suc (suc (suc (suc zero))))) less small = by n true false 0 5 (grind arith)
plus_apart n zero (suc (suc (suc (suc (suc (suc j)))))) less small = by n true false 0 (behind (suc j)) (grind (arith, nat_tests))
plus_apart n (suc zero) (suc (suc zero)) less small = now 2 (plus_table n) 1 2 (grind arith)
plus_apart n (suc zero) (suc (suc (suc other))) less small = now 2 (plus_table n) 1 (suc (suc (suc other))) (grind arith)
plus_apart n (suc (suc zero)) (suc (suc (suc other))) less small = now 2 (plus_table n) 2 (suc (suc (suc other))) (grind arith)
plus_apart n (suc (suc (suc zero))) (suc (suc (suc (suc zero)))) less small = by n false true 3 4 (grind (arith, nat_tests))
plus_apart n (suc (suc (suc zero))) (suc (suc (suc (suc (suc zero))))) less small = by n true false 3 5 (grind (arith, nat_tests))
plus_apart n (suc (suc (suc zero))) (suc (suc (suc (suc (suc (suc j)))))) less small = by n true false 3 (behind (suc j)) (grind (arith, nat_tests))
plus_apart n (suc (suc (suc (suc zero)))) (suc (suc (suc (suc (suc zero))))) less small = by n true false 4 5 (grind (arith, nat_tests))
plus_apart n (suc (suc (suc (suc zero)))) (suc (suc (suc (suc (suc (suc j)))))) less small = by n true false 4 (behind (suc j)) (grind (arith, nat_tests))
plus_apart n (suc (suc (suc (suc (suc one))))) (suc (suc (suc (suc (suc (suc j)))))) less small = before_place n (n - suc j) j one (omega (arith, small)) (omega (arith, less))
plus_apart n (suc one) other less small = absurd (omega (arith, less))
