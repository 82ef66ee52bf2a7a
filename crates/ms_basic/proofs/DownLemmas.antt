-- The machine of S = T - n decides it.
use Rattle.std.proofs.Common.{◌≡◌, ◌≢◌, ℕ, zero, suc, ◌+◌, ◌-◌, ◌*◌, ◌/◌, ◌%◌, ◌^◌, ◌<◌, ◌≤◌, ◌==◌, nat_lt, ◌⊎◌, inl, inr, ⊎_elim, Bool, true, false, if◌then◌else◌, List, refl, sym, ap, subst, ◌∙◌, arith}
use Rattle.std.specs.Int.{is_power_of_two}
use Rattle.std.specs.Int.RustNames.{count_ones}
use Rattle.std.proofs.Math.Nat.{mod-eq_of_lt, mod-one, pow-le-pow_right}
use Rattle.std.proofs.lemmas.Bool.{cases_eq, cases_lt, eq-eqb, eqb-true, false≢true}
use Rattle.std.proofs.lemmas.Bool.Decides.{nat_tests}
use Rattle.std.proofs.lemmas.Nat.{mod_below, ones_cat, ones_le_self, pow_pos, zero_from_ones}
use Rattle.ms_logic_core.specs.declared.core_formula.Basic.TheVariants.{Down}
use Rattle.ms_logic.specs.declared.mode.Mode.{Mode}
use Rattle.ms_logic_words.specs.declared.sign.Sign.TheVariants.{Yes, No}
use Rattle.ms_logic.specs.FiniteSet.{IsRising, is_member, moved_down, moved_up}
use Rattle.ms_logic.specs.Letters.{bound_of_set}
use Rattle.ms_logic.proofs.Members.{IsRising-moved_down, is_member-moved_down, is_member-moved_up, no_member_from_bound}
use Rattle.ms_logic_core.specs.Operands.{variables_of_basic}
use Rattle.ms_basic.specs.inner.Relation.{DecidesRelation, IsRight}
use Rattle.ms_basic.specs.Sets.{is_same}
use Rattle.ms_basic.specs.inner.Windows.{down_passed, down_sign, down_step, down_table, shifted}
use Rattle.ms_basic.proofs.ReadingLemmas.{kept}
use Rattle.ms_basic.proofs.SetLemmas.{other_bits, other_sets, same_bits, same_sets}
use Rattle.ms_basic.proofs.WindowLemmas.{bit_leaving, bits_left, none_in_window, power_next, some_in_window, window_of, window_within}

-- the state is the window with a 1 in front: all bits so far, or the last n of them
abbrev IsWindow : List ℕ → ℕ → ℕ → ℕ → Type 0
IsWindow left n position state =
    ((position < n) × (state ≡ 2 ^ position + window_of left position)) ⊎ ((n ≤ position) × (state ≡ 2 ^ n + window_of left position % 2 ^ n))

abbrev Agree : List ℕ → List ℕ → ℕ → ℕ → Type 0
Agree left right n position = (k : ℕ) → k + n < position → is_member k left ≡ is_member (k + n) right

-- what a state says behind the positions so far
abbrev DownAt : List ℕ → List ℕ → ℕ → ℕ → ℕ → Type 0
DownAt left right n position zero = (k : ℕ) × (k + n < position) × (is_member k left ≢ is_member (k + n) right)
DownAt left right n position (suc more) = IsWindow left n position (suc more) × Agree left right n position

-- before the first position the window is empty
first_window : (left : List ℕ) (n : ℕ) → IsWindow left n 0 1
first_window left zero = inr (omega arith, omega (arith, mod-one 0))
first_window left (suc n) = inl (omega arith, refl)

below_by : (a b : ℕ) → nat_lt a b ≡ true → a < b
below_by a b is = grind (arith, nat_tests, is)

not_below_by : (a b : ℕ) → nat_lt a b ≡ false → b ≤ a
not_below_by a b is = grind (arith, nat_tests, is)

-- a window with a 1 in front is a power of two exactly where it is 0
one_one : count_ones 1 ≡ 1
one_one = ⊎_elim (λ none. absurd (let one : 1 ≡ 0 = zero_from_ones 1 none in omega (arith, one))) (λ some. omega (arith, ones_le_self 1, some)) (cases_eq (count_ones 1) 0)

no_ones : count_ones 0 ≡ 0
no_ones = omega (arith, ones_le_self 0)

ones_of : (power rest state : ℕ) → rest < 2 ^ power → state ≡ 2 ^ power + rest → count_ones state ≡ 1 + count_ones rest
ones_of power rest state small is =
    let same : state ≡ 1 * 2 ^ power + rest = omega (arith, is) in
    ap count_ones same ∙ ones_cat power 1 rest small ∙ ap (λ k. k + count_ones rest) one_one

alone : (power rest state : ℕ) → rest < 2 ^ power → state ≡ 2 ^ power + rest → is_power_of_two state ≡ true → rest ≡ 0
alone power rest state small is one = zero_from_ones rest (omega (arith, ones_of power rest state small is, eqb-true (count_ones state) 1 one))

not_alone : (power rest state : ℕ) → rest < 2 ^ power → state ≡ 2 ^ power + rest → is_power_of_two state ≡ false → rest ≢ 0
not_alone power rest state small is other none =
    false≢true (sym other ∙ eq-eqb (count_ones state) 1 (ones_of power rest state small is ∙ ap (λ r. 1 + count_ones r) none ∙ ap (λ k. 1 + k) no_ones))

module _ (left right : List ℕ) (n : ℕ) where
  windowed : (position state : ℕ) → IsWindow left n position state → Agree left right n position → DownAt left right n position state
  windowed position zero is agree = absurd (⊎_elim (λ few. omega (arith, few.1, pow_pos position)) (λ many. omega (arith, many.1, pow_pos n)) is)
  windowed position (suc more) is agree = (is, agree)

  -- a shorter window takes one bit more
  longer : (position state : ℕ) → IsWindow left n position state → Agree left right n position → shifted state (is_member position left) < 2 * 2 ^ n
      → DownAt left right n (suc position) (shifted state (is_member position left))
  longer position state is agree short = ⊎_elim few (λ many. absurd (omega (arith, many.1, short))) is
    where
      few : (position < n) × (state ≡ 2 ^ position + window_of left position) → DownAt left right n (suc position) (shifted state (is_member position left))
      few here =
          let whole : shifted state (is_member position left) ≡ 2 ^ suc position + window_of left (suc position) = omega (arith, here.1, power_next position) in
          windowed (suc position) (shifted state (is_member position left))
          (⊎_elim (λ less. inl (less, whole)) (λ at_least. inr (at_least, full at_least whole)) (cases_lt (suc position) n))
          (λ k below. absurd (omega (arith, below, here.0)))
        where
          full : n ≤ suc position → shifted state (is_member position left) ≡ 2 ^ suc position + window_of left (suc position)
              → shifted state (is_member position left) ≡ 2 ^ n + window_of left (suc position) % 2 ^ n
          full at_least whole =
              let same : suc position ≡ n = omega (arith, at_least, here.0) in
              whole ∙ ap (λ p. 2 ^ p + window_of left (suc position)) same
              ∙ ap (λ w. 2 ^ n + w) (sym (mod-eq_of_lt (window_within left n (suc position) (omega (arith, same)))))

  -- a full window lets its first bit go, with which the position has to agree
  passed : (position window : ℕ) → n ≤ position → window ≡ shifted (window_of left position % 2 ^ n) (is_member position left) → Agree left right n position
      → DownAt left right n (suc position) (down_passed (2 ^ n) window (is_member position right))
  passed position window at_least is agree = by_test (is_same (is_member position right) (window / 2 ^ n == 1)) refl
    where
      there : position - n + n ≡ position
      there = omega (arith, at_least)

      leaving : (window / 2 ^ n == 1) ≡ is_member (position - n) left
      leaving =
          ap (λ w. w / 2 ^ n == 1) is ∙ bit_leaving left n position ∙ ap (λ p. is_member p (moved_up n left)) (sym there) ∙ is_member-moved_up (position - n) n left

      by_test : (test : Bool) → is_same (is_member position right) (window / 2 ^ n == 1) ≡ test
          → DownAt left right n (suc position) (if test then 2 ^ n + window % 2 ^ n else 0)
      by_test true same =
          windowed (suc position) (2 ^ n + window % 2 ^ n)
          (inr (omega (arith, at_least), ap (λ w. 2 ^ n + w) (ap (λ w. w % 2 ^ n) is ∙ bits_left left n position)))
          (λ k below. ⊎_elim (agree k)
          (λ late. (let here : position - n ≡ k = omega (arith, late, below, at_least) in
          subst (λ q. is_member q left ≡ is_member (q + n) right) here
          (sym leaving ∙ sym (same_bits (is_member position right) (window / 2 ^ n == 1) same) ∙ ap (λ p. is_member p right) (sym there))))
          (cases_lt (k + n) position))
      by_test false other = (
        position - n,
        omega (arith, there),
        λ same. other_bits (is_member position right) (window / 2 ^ n == 1) other (sym (ap (λ p. is_member p right) there) ∙ sym same ∙ sym leaving),
      )

  full : (position state : ℕ) → IsWindow left n position state → 2 * 2 ^ n ≤ shifted state (is_member position left)
      → (n ≤ position) × (shifted state (is_member position left) - 2 * 2 ^ n ≡ shifted (window_of left position % 2 ^ n) (is_member position left))
  full position state is long = ⊎_elim
      (λ few. absurd (omega (arith, few.1, long, window_within left (suc position) (suc position) (omega arith), power_next position, grown few.0)))
      (λ many. (many.0, omega (arith, many.1)))
      is
    where
      grown : position < n → 2 ^ suc position ≤ 2 ^ n
      grown less = pow-le-pow_right (omega arith) (let next : suc position ≤ n = omega (arith, less) in next)

  down_next : (position state : ℕ) → DownAt left right n position state
      → DownAt left right n (suc position) (down_step (2 ^ n) state (is_member position left) (is_member position right))
  down_next position zero at = (at.0, omega (arith, at.1), at.2)
  down_next position (suc more) at = by_test (nat_lt (shifted (suc more) (is_member position left)) (2 * 2 ^ n)) refl
    where
      by_test : (test : Bool) → nat_lt (shifted (suc more) (is_member position left)) (2 * 2 ^ n) ≡ test
          → DownAt left right n (suc position)
          (if test then shifted (suc more) (is_member position left) else down_passed (2 ^ n) (shifted (suc more) (is_member position left) - 2 * 2 ^ n) (is_member position right))
      by_test true is = longer position (suc more) at.0 at.1 (below_by (shifted (suc more) (is_member position left)) (2 * 2 ^ n) is)
      by_test false is =
          (let found = full position (suc more) at.0 (not_below_by (shifted (suc more) (is_member position left)) (2 * 2 ^ n) is) in
          passed position (shifted (suc more) (is_member position left) - 2 * 2 ^ n) found.0 found.1 at.1)

  module _ (count : ℕ) (rising_left : IsRising left) (rising_right : IsRising right) (bound_left : bound_of_set left ≤ count) (bound_right : bound_of_set right ≤ count) where
    none_left : window_of left count % 2 ^ n ≡ 0 → Agree left right n count → left ≡ moved_down n right
    none_left none agree =
        same_sets left (moved_down n right) count rising_left (IsRising-moved_down n right rising_right)
        (λ k below. ⊎_elim (λ early. agree k early ∙ sym (is_member-moved_down k n right))
        (λ late. none_in_window left n count none k below late
        ∙ sym (is_member-moved_down k n right ∙ no_member_from_bound right (k + n) (omega (arith, bound_right, late)))) (cases_lt (k + n) count))
        (λ k above. no_member_from_bound left k (omega (arith, bound_left, above)))
        (λ k above. is_member-moved_down k n right ∙ no_member_from_bound right (k + n) (omega (arith, bound_right, above)))

    some_left : window_of left count % 2 ^ n ≢ 0 → left ≢ moved_down n right
    some_left some =
        let found = some_in_window left n count some in
        other_sets left (moved_down n right) found.0
        (λ same. false≢true (sym (is_member-moved_down found.0 n right ∙ no_member_from_bound right (found.0 + n) (omega (arith, bound_right, found.2))) ∙ sym same ∙ found.3))

    -- what is left of the window at the end
    rest_of : (state : ℕ) → IsWindow left n count state → (power : ℕ) × (state ≡ 2 ^ power + window_of left count % 2 ^ n) × (window_of left count % 2 ^ n < 2 ^ power)
    rest_of state is = ⊎_elim
        (λ few. (let whole = mod-eq_of_lt (window_within left n count (omega (arith, few.0))) in
        (count, few.1 ∙ ap (λ w. 2 ^ count + w) (sym whole), subst (λ w. w < 2 ^ count) (sym whole) (window_within left count count (omega arith)))))
        (λ many. (n, many.1, mod_below (window_of left count) (2 ^ n) (pow_pos n)))
        is

    down_right : (state : ℕ) → DownAt left right n count state → IsRight (left ≡ moved_down n right) (down_sign state)
    down_right zero at = other_sets left (moved_down n right) at.0 (λ same. at.2 (same ∙ is_member-moved_down at.0 n right))
    down_right (suc more) at = by_test (is_power_of_two (suc more)) refl
      where
        by_test : (test : Bool) → is_power_of_two (suc more) ≡ test → IsRight (left ≡ moved_down n right) (if test then Yes else No)
        by_test true is = (let rest = rest_of (suc more) at.0 in none_left (alone rest.0 (window_of left count % 2 ^ n) (suc more) rest.2 rest.1 is) at.1)
        by_test false is = (let rest = rest_of (suc more) at.0 in some_left (not_alone rest.0 (window_of left count % 2 ^ n) (suc more) rest.2 rest.1 is))

down_closed : (size state : ℕ) (s t : Bool) → 0 < size → state < 2 * size → down_step size state s t < 2 * size
down_closed size zero s t some small = omega (arith, some)
down_closed size (suc more) s t some small = by_test (nat_lt (shifted (suc more) s) (2 * size)) refl
  where
    in_half : (window : ℕ) (test : Bool) → (if test then size + window % size else 0) < 2 * size
    in_half window true = omega (arith, mod_below window size some)
    in_half window false = omega (arith, some)

    by_test : (test : Bool) → nat_lt (shifted (suc more) s) (2 * size) ≡ test
        → (if test then shifted (suc more) s else down_passed size (shifted (suc more) s - 2 * size) t) < 2 * size
    by_test true is = below_by (shifted (suc more) s) (2 * size) is
    by_test false is = in_half (shifted (suc more) s - 2 * size) (is_same t ((shifted (suc more) s - 2 * size) / size == 1))

pub decides_down : (mode : Mode) (s t n : ℕ) → DecidesRelation mode (variables_of_basic (Down s t n)) (Down s t n) (down_table (2 ^ n))
decides_down mode s t n = record {
  closed = record { start = λ bits. omega (arith, pow_pos n); step = λ state bits small. down_closed (2 ^ n) state bits.first bits.second (pow_pos n) small };
  tallies = (tt, (tt, tt));
  right = λ e count assigned room string.
      down_right (e.set s) (e.set t) n count assigned.values.0.0 assigned.values.1.0.0 (omega (arith, room)) (omega (arith, room)) _
      (kept (down_table (2 ^ n)) (variables_of_basic (Down s t n)) e count (DownAt (e.set s) (e.set t) n)
      (windowed (e.set s) (e.set t) n 0 1 (first_window (e.set s) n) (λ k below. absurd (omega (arith, below))))
      (λ position state at. down_next (e.set s) (e.set t) n position state at));
}
