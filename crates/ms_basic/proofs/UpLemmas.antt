-- The machine of S = T + n decides it.
use Rattle.std.proofs.Common.{◌≡◌, ◌≢◌, ℕ, zero, suc, ◌+◌, ◌/◌, ◌%◌, ◌^◌, ◌<◌, ◌≤◌, ◌==◌, Bool, true, false, if◌then◌else◌, List, refl, sym, ap, ◌∙◌, arith}
use Rattle.std.proofs.lemmas.Bool.{false≢true}
use Rattle.std.proofs.Math.Nat.{zero-mod}
use Rattle.std.proofs.lemmas.Nat.{mod_below, pow_pos}
use Rattle.ms_logic_core.specs.declared.core_formula.Basic.TheVariants.{Up}
use Rattle.ms_logic.specs.declared.mode.Mode.{Mode}
use Rattle.ms_logic.specs.declared.mode.Mode.TheVariants.{Ws1s, M2lStr}
use Rattle.ms_logic_words.specs.declared.sign.Sign.TheVariants.{Yes, No}
use Rattle.ms_logic.specs.Assignment.{Universe, IsUniverseOf, is_within}
use Rattle.ms_logic.specs.FiniteSet.{IsRising, is_member, moved_up}
use Rattle.ms_logic.specs.Terms.{part_within}
use Rattle.ms_logic_words.specs.Word.{HasLength}
use Rattle.ms_logic.specs.Letters.{bound_of_set}
use Rattle.ms_logic.proofs.Members.{IsRising-filter, IsRising-moved_up, is_member-moved_up, member_below_bound, no_member_from_bound}
use Rattle.ms_logic.proofs.SetLaws.{moved_up_law}
use Rattle.ms_logic_core.specs.Operands.{variables_of_basic}
use Rattle.ms_basic.specs.inner.Relation.{DecidesRelation, IsRight}
use Rattle.ms_basic.specs.Sets.{is_same}
use Rattle.ms_basic.specs.inner.Windows.{shifted, up_sign, up_step, up_table}
use Rattle.ms_basic.proofs.BitLemmas.{Tells, told}
use Rattle.ms_basic.proofs.ReadingLemmas.{kept}
use Rattle.ms_basic.proofs.SetLemmas.{all_within, is_member-within, none_past_end, one_more_same, other_bits, other_sets, same_bits, same_sets}
use Rattle.ms_basic.proofs.WindowLemmas.{bit_leaving, bits_left, none_in_window, some_in_window, window_of}

-- what a state says behind the positions so far
abbrev UpAt : List ℕ → List ℕ → ℕ → ℕ → ℕ → Type 0
UpAt left right n position zero = (k : ℕ) × (k < position) × (is_member k left ≢ is_member k (moved_up n right))
UpAt left right n position (suc window) =
    (window ≡ window_of right position % 2 ^ n) × ((k : ℕ) → k < position → is_member k left ≡ is_member k (moved_up n right))

module _ (left right : List ℕ) (n : ℕ) where
  up_next : (position state : ℕ) → UpAt left right n position state
      → UpAt left right n (suc position) (up_step (2 ^ n) state (is_member position left) (is_member position right))
  up_next position zero at = (at.0, omega (arith, at.1), at.2)
  up_next position (suc window) at = by_test (is_same (is_member position left) (shifted window (is_member position right) / 2 ^ n == 1)) refl
    where
      leaving : (shifted window (is_member position right) / 2 ^ n == 1) ≡ is_member position (moved_up n right)
      leaving = ap (λ w. shifted w (is_member position right) / 2 ^ n == 1) at.0 ∙ bit_leaving right n position

      by_test : (test : Bool) → is_same (is_member position left) (shifted window (is_member position right) / 2 ^ n == 1) ≡ test
          → UpAt left right n (suc position) (if test then suc (shifted window (is_member position right) % 2 ^ n) else 0)
      by_test true is = (
        ap (λ w. shifted w (is_member position right) % 2 ^ n) at.0 ∙ bits_left right n position,
        one_more_same (λ k. is_member k left) (λ k. is_member k (moved_up n right)) position at.1
            (same_bits (is_member position left) (shifted window (is_member position right) / 2 ^ n == 1) is ∙ leaving),
      )
      by_test false is =
          (position, omega arith, λ same. other_bits (is_member position left) (shifted window (is_member position right) / 2 ^ n == 1) is (same ∙ sym leaving))

  module _ (universe : Universe) (count : ℕ) (long : HasLength universe count) (rising_left : IsRising left) (rising_right : IsRising right)
      (bound_left : bound_of_set left ≤ count) (bound_right : bound_of_set right ≤ count) where
    all_agree : ((k : ℕ) → k < count → is_member k left ≡ is_member k (moved_up n right)) → ((k : ℕ) → count ≤ k → is_member k (part_within universe (moved_up n right)) ≡ false)
        → left ≡ part_within universe (moved_up n right)
    all_agree agree none =
        same_sets left (part_within universe (moved_up n right)) count rising_left (IsRising-filter (is_within universe) (moved_up n right) (IsRising-moved_up n right rising_right))
        (λ k below. agree k below ∙ sym (is_member-within universe count (moved_up n right) k long below)) (λ k above. no_member_from_bound left k (omega (arith, bound_left, above))) none

    -- a member past the last position comes from the last n bits
    none_left : window_of right count % 2 ^ n ≡ 0 → (k : ℕ) → count ≤ k → is_member k (moved_up n right) ≡ false
    none_left none k above = by_test (is_member k (moved_up n right)) refl
      where
        by_test : (test : Bool) → is_member k (moved_up n right) ≡ test → is_member k (moved_up n right) ≡ false
        by_test false is = is
        by_test true is =
            (let found = ((moved_up_law n right rising_right).exactly k).0 is in
            let below = member_below_bound right found.0 found.1 in
            absurd (false≢true (sym (none_in_window right n count none found.0 (omega (arith, below, bound_right)) (omega (arith, found.2, above))) ∙ found.1)))

    up_right : (mode : Mode) (state : ℕ) → IsUniverseOf mode universe → UpAt left right n count state → IsRight (left ≡ part_within universe (moved_up n right)) (up_sign mode state)
    up_right mode zero is at =
        other_sets left (part_within universe (moved_up n right)) at.0 (λ same. at.2 (same ∙ is_member-within universe count (moved_up n right) at.0 long at.1))
    up_right M2lStr (suc window) is at = all_agree at.1 (λ k above. none_past_end universe count (moved_up n right) k is long above)
    up_right Ws1s (suc window) is at = by_last (window == 0) (told window 0)
      where
        by_last : (last : Bool) → Tells last window 0 → IsRight (left ≡ part_within universe (moved_up n right)) (if last then Yes else No)
        by_last true is_zero = all_agree at.1 (λ k above. all_within universe (moved_up n right) k is ∙ none_left (sym at.0 ∙ is_zero) k above)
        by_last false is_some =
            let found = some_in_window right n count (λ none. is_some (at.0 ∙ none)) in
            other_sets left (part_within universe (moved_up n right)) (found.0 + n)
            (λ same. false≢true (sym (no_member_from_bound left (found.0 + n) (omega (arith, bound_left, found.2))) ∙ same
            ∙ all_within universe (moved_up n right) (found.0 + n) is ∙ is_member-moved_up found.0 n right ∙ found.3))

up_closed : (size state : ℕ) (s t : Bool) → 0 < size → up_step size state s t < size + 1
up_closed size zero s t some = omega (arith, some)
up_closed size (suc window) s t some = by_test (is_same s (shifted window t / size == 1))
  where
    by_test : (test : Bool) → (if test then suc (shifted window t % size) else 0) < size + 1
    by_test true = omega (arith, mod_below (shifted window t) size some)
    by_test false = omega (arith, some)

pub decides_up : (mode : Mode) (s t n : ℕ) → DecidesRelation mode (variables_of_basic (Up s t n)) (Up s t n) (up_table mode (2 ^ n))
decides_up mode s t n = record {
  closed = record { start = λ bits. omega (arith, pow_pos n); step = λ state bits small. up_closed (2 ^ n) state bits.first bits.second (pow_pos n) };
  tallies = (tt, (tt, tt));
  right = λ e count assigned room string.
      up_right (e.set s) (e.set t) n e.universe count string assigned.values.0.0 assigned.values.1.0.0 (omega (arith, room)) (omega (arith, room)) mode _ assigned.universe
      (kept (up_table mode (2 ^ n)) (variables_of_basic (Up s t n)) e count (UpAt (e.set s) (e.set t) n) (sym (zero-mod (2 ^ n)), λ k below. absurd (omega (arith, below)))
      (λ position state at. up_next (e.set s) (e.set t) n position state at));
}
