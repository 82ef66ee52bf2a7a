-- Each state of the machine of a relation is reached.
use Rattle.std.proofs.Common.{◌≡◌, ℕ, zero, suc, ◌+◌, ◌-◌, ◌*◌, ◌/◌, ◌%◌, ◌^◌, ◌<◌, ◌≤◌, ◌==◌, Bool, true, false, not, if◌then◌else◌, refl, ap, ◌∙◌, arith}
use Rattle.std.proofs.Math.Nat.{div-eq_of_lt, mod-eq_of_lt}
use Rattle.std.proofs.lemmas.Bool.Decides.{nat_tests}
use Rattle.std.proofs.lemmas.Nat.{div-add-mod', mod_below, pow_pos}
use Rattle.ms_logic.specs.declared.mode.Mode.{Mode}
use Rattle.ms_dfa_explore.specs.Small.{TransitionTable}
use Rattle.ms_basic.specs.Bits.{bits_table, is_one}
use Rattle.ms_basic.specs.Sets.{is_same}
use Rattle.ms_basic.specs.inner.Greatest.{greatest_table}
use Rattle.ms_basic.specs.inner.Least.{least_table}
use Rattle.ms_basic.specs.inner.Less.{less_table}
use Rattle.ms_basic.specs.inner.Member.{member_table}
use Rattle.ms_basic.specs.inner.Number.{number_table}
use Rattle.ms_basic.specs.inner.Plus.{plus_table}
use Rattle.ms_basic.specs.inner.Reached.{HasStatesReached, IsReached}
use Rattle.ms_basic.specs.inner.Repeated.{one_number_table}
use Rattle.ms_basic.specs.inner.Windows.{down_table, shifted, up_step, up_table}
use Rattle.ms_basic.proofs.ApartLemmas.{not_same_other, of_one, of_two, one_bit, two_bits}
use Rattle.ms_basic.proofs.BitsApart.{leads_on}
use Rattle.ms_basic.proofs.DownApart.{lost_by_other, step_longer}
use Rattle.ms_basic.proofs.ReachedLemmas.{at_start, further}
use Rattle.ms_basic.proofs.WindowsApart.{leaving}

-- by a letter of one operand, and of two
by_one : (table : TransitionTable) (state next : ℕ) (x : Bool) → table.step state (one_bit x) ≡ next → IsReached 1 table state → IsReached 1 table next
by_one table state next x leads path = further 1 table state next (one_bit x) (of_one x) leads path

by_two : (table : TransitionTable) (state next : ℕ) (x y : Bool) → table.step state (two_bits x y) ≡ next → IsReached 2 table state → IsReached 2 table next
by_two table state next x y leads path = further 2 table state next (two_bits x y) (of_two x y) leads path

pub member_reached : HasStatesReached 2 member_table
member_reached = by_state
  where
    found : IsReached 2 member_table 1
    found = by_two member_table 3 1 true true refl (at_start 2 member_table)

    by_state : (state : ℕ) → state < 4 → IsReached 2 member_table state
    by_state zero below = by_two member_table 1 0 true false refl found
    by_state (suc zero) below = found
    by_state (suc (suc zero)) below = by_two member_table 3 2 true false refl (at_start 2 member_table)
    by_state (suc (suc (suc zero))) below = at_start 2 member_table
    by_state (suc (suc (suc (suc more)))) below = absurd (omega (arith, below))

pub less_reached : HasStatesReached 2 less_table
less_reached = by_state
  where
    first_met : IsReached 2 less_table 4
    first_met = by_two less_table 3 4 true false refl (at_start 2 less_table)

    by_state : (state : ℕ) → state < 6 → IsReached 2 less_table state
    by_state zero below = by_two less_table 4 0 true false refl first_met
    by_state (suc zero) below = by_two less_table 4 1 false true refl first_met
    by_state (suc (suc zero)) below = by_two less_table 3 2 true true refl (at_start 2 less_table)
    by_state (suc (suc (suc zero))) below = at_start 2 less_table
    by_state (suc (suc (suc (suc zero)))) below = first_met
    by_state (suc (suc (suc (suc (suc zero))))) below = by_two less_table 3 5 false true refl (at_start 2 less_table)
    by_state (suc (suc (suc (suc (suc (suc more)))))) below = absurd (omega (arith, below))

pub greatest_reached : HasStatesReached 2 greatest_table
greatest_reached = by_state
  where
    found : IsReached 2 greatest_table 1
    found = by_two greatest_table 3 1 true false refl (at_start 2 greatest_table)

    passed : IsReached 2 greatest_table 4
    passed = by_two greatest_table 3 4 false false refl (at_start 2 greatest_table)

    by_state : (state : ℕ) → state < 5 → IsReached 2 greatest_table state
    by_state zero below = by_two greatest_table 1 0 true false refl found
    by_state (suc zero) below = found
    by_state (suc (suc zero)) below = by_two greatest_table 4 2 true false refl passed
    by_state (suc (suc (suc zero))) below = at_start 2 greatest_table
    by_state (suc (suc (suc (suc zero)))) below = passed
    by_state (suc (suc (suc (suc (suc more))))) below = absurd (omega (arith, below))

pub least_reached : HasStatesReached 2 least_table
least_reached = by_state
  where
    found : IsReached 2 least_table 1
    found = by_two least_table 4 1 true true refl (at_start 2 least_table)

    passed : IsReached 2 least_table 5
    passed = by_two least_table 4 5 false false refl (at_start 2 least_table)

    by_state : (state : ℕ) → state < 7 → IsReached 2 least_table state
    by_state zero below = by_two least_table 1 0 true false refl found
    by_state (suc zero) below = found
    by_state (suc (suc zero)) below = by_two least_table 5 2 true false refl passed
    by_state (suc (suc (suc zero))) below = by_two least_table 4 3 true false refl (at_start 2 least_table)
    by_state (suc (suc (suc (suc zero)))) below = at_start 2 least_table
    by_state (suc (suc (suc (suc (suc zero))))) below = passed
    by_state (suc (suc (suc (suc (suc (suc zero)))))) below = by_two least_table 4 6 false true refl (at_start 2 least_table)
    by_state (suc (suc (suc (suc (suc (suc (suc more))))))) below = absurd (omega (arith, below))

pub one_number_reached : (holds : Bool) → HasStatesReached 1 (one_number_table holds)
one_number_reached holds = by_state
  where
    met : IsReached 1 (one_number_table holds) 1
    met = by_one (one_number_table holds) 2 1 true refl (at_start 1 (one_number_table holds))

    by_state : (state : ℕ) → state < 3 → IsReached 1 (one_number_table holds) state
    by_state zero below = by_one (one_number_table holds) 1 0 true refl met
    by_state (suc zero) below = met
    by_state (suc (suc zero)) below = at_start 1 (one_number_table holds)
    by_state (suc (suc (suc more))) below = absurd (omega (arith, below))

-- x = n: zeros lead on to each position up to n
module _ (n : ℕ) where
  unmet_reached : (k : ℕ) → k ≤ n → IsReached 1 (number_table n) (suc (suc (suc (suc k))))
  unmet_reached zero within = at_start 1 (number_table n)
  unmet_reached (suc k) within =
      by_one (number_table n) (suc (suc (suc (suc k)))) (suc (suc (suc (suc (suc k))))) false (grind (arith, nat_tests, within)) (unmet_reached k (omega (arith, within)))

  found_reached : IsReached 1 (number_table n) 1
  found_reached = by_one (number_table n) (suc (suc (suc (suc n)))) 1 true (grind (arith, nat_tests)) (unmet_reached n (omega arith))

  passed_reached : IsReached 1 (number_table n) 3
  passed_reached = by_one (number_table n) (suc (suc (suc (suc n)))) 3 false (grind (arith, nat_tests)) (unmet_reached n (omega arith))

pub number_reached : (n : ℕ) → HasStatesReached 1 (number_table n)
number_reached n zero below = by_one (number_table n) 1 0 true refl (found_reached n)
number_reached n (suc zero) below = found_reached n
number_reached n (suc (suc zero)) below = by_one (number_table n) 3 2 true refl (passed_reached n)
number_reached n (suc (suc (suc zero))) below = passed_reached n
number_reached n (suc (suc (suc (suc k)))) below = unmet_reached n k (omega (arith, below))

-- x = y + n: zeros lead on to each position up to n behind y
module _ (n : ℕ) where
  behind_reached : (j : ℕ) → j < n → IsReached 2 (plus_table n) (suc (suc (suc (suc (suc (suc j))))))
  behind_reached zero within = by_two (plus_table n) 3 6 false true (grind (arith, nat_tests, within)) (at_start 2 (plus_table n))
  behind_reached (suc j) within =
      by_two (plus_table n) (suc (suc (suc (suc (suc (suc j)))))) (suc (suc (suc (suc (suc (suc (suc j))))))) false false (grind (arith, nat_tests, within))
      (behind_reached j (omega (arith, within)))

  first_reached : IsReached 2 (plus_table n) 4
  first_reached = by_two (plus_table n) 3 4 true false refl (at_start 2 (plus_table n))

equal_reached : (n : ℕ) → IsReached 2 (plus_table n) 1
equal_reached zero = by_two (plus_table 0) 3 1 true true refl (at_start 2 (plus_table 0))
equal_reached (suc j) = by_two (plus_table (suc j)) (suc (suc (suc (suc (suc (suc j)))))) 1 true false (grind (arith, nat_tests)) (behind_reached (suc j) j (omega arith))

past_reached : (n : ℕ) → IsReached 2 (plus_table n) 5
past_reached zero = by_two (plus_table 0) 3 5 false true refl (at_start 2 (plus_table 0))
past_reached (suc j) = by_two (plus_table (suc j)) (suc (suc (suc (suc (suc (suc j)))))) 5 false false (grind (arith, nat_tests)) (behind_reached (suc j) j (omega arith))

pub plus_reached : (n : ℕ) → HasStatesReached 2 (plus_table n)
plus_reached n zero below = by_two (plus_table n) 4 0 true false refl (first_reached n)
plus_reached n (suc zero) below = equal_reached n
plus_reached n (suc (suc zero)) below = by_two (plus_table n) 4 2 false true refl (first_reached n)
plus_reached n (suc (suc (suc zero))) below = at_start 2 (plus_table n)
plus_reached n (suc (suc (suc (suc zero)))) below = first_reached n
plus_reached n (suc (suc (suc (suc (suc zero))))) below = past_reached n
plus_reached n (suc (suc (suc (suc (suc (suc j)))))) below = behind_reached n j (omega (arith, below))

-- S = pconst(n): the bits of n lead on
pub bits_reached : (mode : Mode) (n digits : ℕ) → HasStatesReached 1 (bits_table mode n digits)
bits_reached mode n digits zero below =
    by_one (bits_table mode n digits) 1 0 (not (is_one n 0)) (ap (λ same. if same then (if 0 == digits then 1 else 2) else 0) (not_same_other (is_one n 0)))
    (at_start 1 (bits_table mode n digits))
bits_reached mode n digits (suc zero) below = at_start 1 (bits_table mode n digits)
bits_reached mode n digits (suc (suc k)) below =
    by_one (bits_table mode n digits) (suc k) (suc (suc k)) (is_one n k) (leads_on mode n digits k (omega (arith, below)))
    (bits_reached mode n digits (suc k) (omega (arith, below)))

-- the last bit of a window, behind the others
last_bit : ℕ → Bool
last_bit window = window % 2 == 1

shifted_half : (window : ℕ) → shifted (window / 2) (last_bit window) ≡ window
unfolding last_bit
shifted_half window = by_test (window % 2) (mod_below window 2 (omega arith)) (div-add-mod' window 2)
  where
    by_test : (rest : ℕ) → rest < 2 → window / 2 * 2 + rest ≡ window → shifted (window / 2) (rest == 1) ≡ window
    by_test zero small parts = omega (arith, parts)
    by_test (suc zero) small parts = omega (arith, parts)
    by_test (suc (suc more)) small parts = absurd (omega (arith, small))

-- S = T + n: bits of T are read into a window, from the last that was not 0 on
module _ (mode : Mode) (n : ℕ) where
  read_in : (window : ℕ) (t : Bool) → shifted window t < 2 ^ n → up_step (2 ^ n) (suc window) false t ≡ suc (shifted window t)
  read_in window t small =
      ap (λ q. if is_same false (q == 1) then suc (shifted window t % 2 ^ n) else 0) (div-eq_of_lt small) ∙ ap suc (mod-eq_of_lt small)

  window_reached : (more window : ℕ) → window ≤ more → window < 2 ^ n → IsReached 2 (up_table mode (2 ^ n)) (suc window)
  window_reached more zero few small = at_start 2 (up_table mode (2 ^ n))
  window_reached zero (suc window) few small = absurd (omega (arith, few))
  window_reached (suc more) (suc window) few small =
      let same = shifted_half (suc window) in
      by_two (up_table mode (2 ^ n)) (suc (suc window / 2)) (suc (suc window)) false (last_bit (suc window))
      (read_in (suc window / 2) (last_bit (suc window)) (omega (arith, same, small)) ∙ ap suc same)
      (window_reached more (suc window / 2) (omega (arith, same, few)) (omega (arith, same, small)))

pub up_reached : (mode : Mode) (n : ℕ) → HasStatesReached 2 (up_table mode (2 ^ n))
up_reached mode n zero below =
    by_two (up_table mode (2 ^ n)) 1 0 true false (ap (λ q. if is_same true (q == 1) then suc (0 % 2 ^ n) else 0) (div-eq_of_lt (pow_pos n))) (at_start 2 (up_table mode (2 ^ n)))
up_reached mode n (suc window) below = window_reached mode n window window (omega arith) (omega (arith, below))

-- S = T - n: bits of S are read into a window behind its leading 1
module _ (n : ℕ) where
  reading_reached : (more state : ℕ) → state ≤ more → 0 < state → state < 2 * 2 ^ n → IsReached 2 (down_table (2 ^ n)) state
  reading_reached more zero few some within = absurd (omega (arith, some))
  reading_reached more (suc zero) few some within = at_start 2 (down_table (2 ^ n))
  reading_reached zero (suc (suc state)) few some within = absurd (omega (arith, few))
  reading_reached (suc more) (suc (suc state)) few some within =
      let whole = suc (suc state) in
      let same = shifted_half whole in
      by_two (down_table (2 ^ n)) (whole / 2) whole (last_bit whole) false
      (step_longer (2 ^ n) (whole / 2) (last_bit whole) false (omega (arith, same)) (omega (arith, same, within)) ∙ same)
      (reading_reached more (whole / 2) (omega (arith, same, few)) (omega (arith, same)) (omega (arith, same, within)))

pub down_reached : (n : ℕ) → HasStatesReached 2 (down_table (2 ^ n))
down_reached n zero below =
    by_two (down_table (2 ^ n)) (2 ^ n) 0 false (not (leaving n (2 ^ n - 2 ^ n))) (lost_by_other n (2 ^ n) (omega arith) (omega (arith, pow_pos n)))
    (reading_reached n (2 ^ n) (2 ^ n) (omega arith) (pow_pos n) (omega (arith, pow_pos n)))
down_reached n (suc state) below = reading_reached n (suc state) (suc state) (omega arith) (omega arith) below
