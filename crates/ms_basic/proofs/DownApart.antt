-- No two states of the machine of S = T - n are alike.
use Rattle.std.proofs.Common.{◌≡◌, ◌≢◌, ℕ, zero, suc, ◌+◌, ◌-◌, ◌*◌, ◌^◌, ◌<◌, ◌≤◌, ⊎_elim, Bool, true, false, not, if◌then◌else◌, refl, ap, ap₂, ◌∙◌, arith}
use Rattle.std.specs.Int.{is_power_of_two}
use Rattle.std.specs.Int.RustNames.{count_ones}
use Rattle.std.specs.Int.Count.{ones-ones}
use Rattle.std.proofs.lemmas.Bool.{cases_lt, eq-eqb}
use Rattle.std.proofs.lemmas.Bool.Decides.{nat_tests}
use Rattle.std.proofs.lemmas.Nat.{mul-le, ones_cat, pow_pos}
use Rattle.ms_logic_words.specs.declared.sign.Sign.TheVariants.{Yes, No}
use Rattle.ms_basic.specs.Sets.{is_same}
use Rattle.ms_basic.specs.inner.Apart.{AreApart, HasStatesApart}
use Rattle.ms_basic.specs.inner.Windows.{down_passed, down_sign, down_step, down_table, shifted}
use Rattle.ms_basic.proofs.ApartLemmas.{by_letter, moved, not_same_other, of_two, turned, two_bits}
use Rattle.ms_basic.proofs.WindowLemmas.{power_next}
use Rattle.ms_basic.proofs.WindowsApart.{LetsOut, leaving, left, lost_apart, windows_apart}

pub step_longer : (size state : ℕ) (s t : Bool) → 0 < state → shifted state s < 2 * size → down_step size state s t ≡ shifted state s
step_longer size zero s t some longer = absurd (omega (arith, some))
step_longer size (suc more) s t some longer = grind (arith, nat_tests, longer)

step_passed : (size state : ℕ) (s t : Bool) → 0 < state → 2 * size ≤ shifted state s → down_step size state s t ≡ down_passed size (shifted state s - 2 * size) t
step_passed size zero s t some full = absurd (omega (arith, some))
step_passed size (suc more) s t some full = grind (arith, nat_tests, full)

sign_if : (state : ℕ) → is_power_of_two state ≡ true → 0 < state → down_sign state ≡ Yes
sign_if zero is some = absurd (omega (arith, some))
sign_if (suc more) is some = ap (λ test. if test then Yes else No) is

empty_is_power : (n : ℕ) → is_power_of_two (2 ^ n + 0) ≡ true
empty_is_power n =
    let same : 2 ^ n + 0 ≡ 1 * 2 ^ n + 0 = omega arith in
    eq-eqb (count_ones (2 ^ n + 0)) 1 (ap count_ones same ∙ ones_cat n 1 0 (pow_pos n) ∙ ap₂ (λ (a b : ℕ). a + b) (ones-ones 1) (ones-ones 0))

empty_differs : (n : ℕ) → down_sign (2 ^ n + 0) ≢ No
empty_differs n same = let yes_there = sign_if (2 ^ n + 0) (empty_is_power n) (omega (arith, pow_pos n)) in let never : ⊥ = cc in never

module _ (n : ℕ) where
  -- a full window goes on where T has the bit that leaves it
  full_steps : (window : ℕ) (t : Bool) → window < 2 ^ n
      → down_step (2 ^ n) (2 ^ n + window) false t ≡ (if is_same t (leaving n window) then 2 ^ n + left n window else 0)
  full_steps window t small =
      let rest : shifted (2 ^ n + window) false - 2 * 2 ^ n ≡ shifted window false = omega arith in
      step_passed (2 ^ n) (2 ^ n + window) false t (omega (arith, pow_pos n)) (omega arith) ∙ ap (λ w. down_passed (2 ^ n) w t) rest

  full_lets_out : LetsOut (down_table (2 ^ n)) n (λ window. 2 ^ n + window) (λ bit. two_bits false bit)
  full_lets_out = record { of = λ bit. of_two false bit; lost = λ bit. refl; step = λ window bit small. full_steps window bit small; differ = empty_differs n }

  by : (t : Bool) (one other next further : ℕ) → down_step (2 ^ n) one false t ≡ next → down_step (2 ^ n) other false t ≡ further
      → AreApart 2 (down_table (2 ^ n)) next further → AreApart 2 (down_table (2 ^ n)) one other
  by t one other next further leads also rest = by_letter 2 (down_table (2 ^ n)) (two_bits false t) (of_two false t) one other next further leads also rest

  doubled : (state : ℕ) (t : Bool) → 0 < state → state < 2 ^ n → down_step (2 ^ n) state false t ≡ 2 * state
  doubled state t some short = step_longer (2 ^ n) state false t some (omega (arith, short)) ∙ (let same : 2 * state + 0 ≡ 2 * state = omega arith in same)

  -- zeros fill a window
  fuller : (more state : ℕ) → 2 ^ n ≤ state * 2 ^ suc more → 2 ^ n ≤ 2 * state * 2 ^ more
  fuller more state enough = let twice : state * 2 ^ suc more ≡ state * (2 * 2 ^ more) = ap (λ k. state * k) (power_next more) in omega (arith, enough, twice)

  filled : (state : ℕ) → 0 < state → 2 ^ n ≤ state * 2 ^ n
  filled state some = omega (arith, mul-le 1 (2 ^ n) state (2 ^ n) (omega (arith, some)) (omega arith))

  whole : (state : ℕ) → 2 ^ n ≤ state → state ≡ 2 ^ n + (state - 2 ^ n)
  whole state full = omega (arith, full)

  full_window : (state : ℕ) → 2 ^ n ≤ state → state < 2 * 2 ^ n → AreApart 2 (down_table (2 ^ n)) 0 state
  full_window state full within =
      moved 2 (down_table (2 ^ n)) 0 state 0 (2 ^ n + (state - 2 ^ n)) refl (whole state full)
      (lost_apart (down_table (2 ^ n)) n (λ window. 2 ^ n + window) (λ bit. two_bits false bit) full_lets_out (state - 2 ^ n) (omega (arith, within)))

  lost_window : (more state : ℕ) → 0 < state → state < 2 * 2 ^ n → 2 ^ n ≤ state * 2 ^ more → AreApart 2 (down_table (2 ^ n)) 0 state
  lost_window zero state some within enough = full_window state (omega (arith, enough)) within
  lost_window (suc more) state some within enough = ⊎_elim
      (λ short. by false 0 state 0 (2 * state) refl (doubled state false some short)
      (lost_window more (2 * state) (omega (arith, some)) (omega (arith, short)) (fuller more state enough)))
      (λ full. full_window state full within)
      (cases_lt state (2 ^ n))

  -- a full window is lost by the other bit of T, which one that is not full does not read
  pub lost_by_other : (state : ℕ) → 2 ^ n ≤ state → state < 2 * 2 ^ n → down_step (2 ^ n) state false (not (leaving n (state - 2 ^ n))) ≡ 0
  lost_by_other state full within =
      let window = state - 2 ^ n in
      ap (λ s. down_step (2 ^ n) s false (not (leaving n window))) (whole state full) ∙ full_steps window (not (leaving n window)) (omega (arith, full, within))
      ∙ ap (λ same. if same then 2 ^ n + left n window else 0) (not_same_other (leaving n window))

  full_and_other : (one other : ℕ) → 0 < one → one < other → 2 ^ n ≤ other → other < 2 * 2 ^ n → AreApart 2 (down_table (2 ^ n)) one other
  full_and_other one other some less full within = ⊎_elim
      (λ short. (let wrong = not (leaving n (other - 2 ^ n)) in by wrong one other (2 * one) 0 (doubled one wrong some short) (lost_by_other other full within)
      (turned 2 (down_table (2 ^ n)) 0 (2 * one) (lost_window n (2 * one) (omega (arith, some)) (omega (arith, short)) (filled (2 * one) (omega (arith, some)))))))
      (λ both. moved 2 (down_table (2 ^ n)) one other (2 ^ n + (one - 2 ^ n)) (2 ^ n + (other - 2 ^ n)) (whole one both) (whole other full)
      (windows_apart (down_table (2 ^ n)) n (λ window. 2 ^ n + window) (λ bit. two_bits false bit) full_lets_out
      (one - 2 ^ n) (other - 2 ^ n) (omega (arith, less, within)) (omega (arith, full, within)) (omega (arith, less, both))))
      (cases_lt one (2 ^ n))

  both_windows : (more one other : ℕ) → 0 < one → one < other → other < 2 * 2 ^ n → 2 ^ n ≤ other * 2 ^ more → AreApart 2 (down_table (2 ^ n)) one other
  both_windows zero one other some less within enough = full_and_other one other some less (omega (arith, enough)) within
  both_windows (suc more) one other some less within enough = ⊎_elim
      (λ short. by false one other (2 * one) (2 * other) (doubled one false some (omega (arith, less, short))) (doubled other false (omega (arith, less)) short)
      (both_windows more (2 * one) (2 * other) (omega (arith, some)) (omega (arith, less)) (omega (arith, short)) (fuller more other enough)))
      (λ full. full_and_other one other some less full within)
      (cases_lt other (2 ^ n))

pub down_apart : (n : ℕ) → HasStatesApart 2 (down_table (2 ^ n))
down_apart n zero other less small = lost_window n n other less small (filled n other less)
down_apart n (suc one) other less small = both_windows n n (suc one) other (omega arith) less small (filled n other (omega (arith, less)))
