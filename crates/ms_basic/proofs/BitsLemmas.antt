-- The machine of S = pconst(n) decides it.
use Rattle.std.proofs.Common.{◌≡◌, ◌≢◌, ℕ, zero, suc, ◌+◌, ◌-◌, ◌*◌, ◌/◌, ◌%◌, ◌^◌, ◌<◌, ◌≤◌, ◌==◌, ◌⊎◌, inl, inr, ⊎_elim, Bool, true, false, if◌then◌else◌, List, [], ◌∷◌, refl, sym, ap, subst, ◌∙◌, arith}
use Rattle.std.specs.Int.{bit_at}
use Rattle.std.proofs.Math.Nat.{div-eq_of_lt, div-eq_of_lt-le, pow-le-pow_right, pow-suc}
use Rattle.std.proofs.lemmas.Bool.{cases_lt, eqb-true, eq-eqb, false≢true}
use Rattle.std.proofs.lemmas.Bool.Decides.{nat_tests}
use Rattle.std.proofs.lemmas.Nat.{div-add-mod', mod_below, pow_pos}
use Rattle.ms_logic_core.specs.declared.core_formula.Basic.TheVariants.{Bits}
use Rattle.ms_logic.specs.declared.mode.Mode.{Mode}
use Rattle.ms_logic.specs.declared.mode.Mode.TheVariants.{Ws1s, M2lStr}
use Rattle.ms_logic_words.specs.declared.sign.Sign.TheVariants.{Yes, No}
use Rattle.ms_logic.specs.Assignment.{Universe, IsUniverseOf, is_within}
use Rattle.ms_logic.specs.FiniteSet.{IsMember, IsRising, is_member, one_bits}
use Rattle.ms_logic.specs.Terms.{part_within}
use Rattle.ms_logic_words.specs.Word.{HasLength}
use Rattle.ms_logic.specs.Letters.{bound_of_set}
use Rattle.ms_logic.proofs.Members.{IsRising-filter, member_below_bound, no_member_from_bound}
use Rattle.ms_logic.proofs.SetLaws.{one_bits_law}
use Rattle.ms_basic.specs.Bits.{bits_sign, bits_step, bits_table, is_one}
use Rattle.ms_logic_core.specs.Operands.{variables_of_basic}
use Rattle.ms_basic.specs.inner.Relation.{DecidesRelation, IsRight}
use Rattle.ms_basic.specs.Sets.{is_same}
use Rattle.ms_basic.proofs.BitLemmas.{Tells, told}
use Rattle.ms_basic.proofs.ReadingLemmas.{kept}
use Rattle.ms_basic.proofs.SetLemmas.{all_within, first_is_member, is_member-within, none_past_end, one_more_same, other_bits, other_sets, same_bits, same_sets}

-- a place is that of a one bit where it is a member
pub member_is_one : (n place : ℕ) → is_member place (one_bits n) ≡ is_one n place
member_is_one n place = by_test (is_member place (one_bits n)) (is_one n place) refl refl
  where
    by_test : (member one : Bool) → is_member place (one_bits n) ≡ member → is_one n place ≡ one → is_member place (one_bits n) ≡ is_one n place
    by_test true true is_m is_o = is_m ∙ sym is_o
    by_test false false is_m is_o = is_m ∙ sym is_o
    by_test true false is_m is_o = absurd (false≢true (sym is_o ∙ eq-eqb (bit_at n place) 1 (((one_bits_law n).exactly place).0 is_m)))
    by_test false true is_m is_o = absurd (false≢true (sym is_m ∙ ((one_bits_law n).exactly place).1 (eqb-true (bit_at n place) 1 is_o)))

-- below the bound of a set there is a member that is not below
bound_reached : (members : List ℕ) (k : ℕ) → k < bound_of_set members → (m : ℕ) × IsMember m members × (k ≤ m)
bound_reached [] k below = absurd (omega (arith, below))
bound_reached (first ∷ more) k below = ⊎_elim
    (λ later. let found = bound_reached more k later in (found.0, behind found.0 found.1, found.2))
    (λ none. (first, first_is_member first more, omega (arith, below, none)))
    (cases_lt k (bound_of_set more))
  where
    behind : (m : ℕ) → IsMember m more → IsMember m (first ∷ more)
    behind m member = grind (arith, nat_tests, member)

-- what a state says behind the positions so far
abbrev BitsAt : List ℕ → ℕ → ℕ → ℕ → ℕ → Type 0
BitsAt members n digits position zero = (k : ℕ) × (k < position) × (is_member k members ≢ is_one n k)
BitsAt members n digits position (suc k) =
    (k ≤ digits) × ((k ≡ position) ⊎ ((k ≡ digits) × (digits ≤ position))) × ((q : ℕ) → q < position → is_member q members ≡ is_one n q)

module _ (members : List ℕ) (n digits : ℕ) (are_digits : digits ≡ bound_of_set (one_bits n)) where
  -- there is no one bit from the digits on
  none_behind : (k : ℕ) → digits ≤ k → is_one n k ≡ false
  none_behind k above = sym (member_is_one n k) ∙ no_member_from_bound (one_bits n) k (omega (arith, are_digits, above))

  -- the bit of the state's place is that of the position
  same_place : (position k : ℕ) → (k ≡ position) ⊎ ((k ≡ digits) × (digits ≤ position)) → is_one n k ≡ is_one n position
  same_place position k (inl same) = ap (is_one n) same
  same_place position k (inr behind) = none_behind k (omega (arith, behind.0)) ∙ sym (none_behind position behind.1)

  agree_next : (position k : ℕ) (last : Bool) → Tells last k digits → BitsAt members n digits position (suc k) → is_member position members ≡ is_one n k
      → BitsAt members n digits (suc position) (if last then suc k else suc (suc k))
  agree_next position k true is at same =
      (at.0, inr (is, ⊎_elim (λ here. omega (arith, here, is)) (λ behind. omega (arith, behind.1)) at.1), one_more_same (λ q. is_member q members) (is_one n) position at.2 (same ∙ same_place position k at.1))
  agree_next position k false is at same =
      let here : k ≡ position = ⊎_elim (λ here. here) (λ behind. absurd (is behind.0)) at.1 in
      (omega (arith, at.0, is), inl (omega (arith, here)), one_more_same (λ q. is_member q members) (is_one n) position at.2 (same ∙ same_place position k at.1))

  bits_next : (position state : ℕ) → BitsAt members n digits position state → BitsAt members n digits (suc position) (bits_step n digits state (is_member position members))
  bits_next position zero at = (at.0, omega (arith, at.1), at.2)
  bits_next position (suc k) at = by_test (is_same (is_member position members) (is_one n k)) refl
    where
      by_test : (test : Bool) → is_same (is_member position members) (is_one n k) ≡ test
          → BitsAt members n digits (suc position) (if test then (if k == digits then suc k else suc (suc k)) else 0)
      by_test true is = agree_next position k (k == digits) (told k digits) at (same_bits (is_member position members) (is_one n k) is)
      by_test false is = (position, omega arith, λ same. other_bits (is_member position members) (is_one n k) is (same ∙ sym (same_place position k at.1)))

  module _ (universe : Universe) (count : ℕ) (long : HasLength universe count) (rising : IsRising members) (bound : bound_of_set members ≤ count) where
    -- a member of the one bits within the universe
    kept_bit : (k : ℕ) → k < count → is_member k (part_within universe (one_bits n)) ≡ is_one n k
    kept_bit k below = is_member-within universe count (one_bits n) k long below ∙ member_is_one n k

    all_agree : ((k : ℕ) → k < count → is_member k members ≡ is_one n k) → ((k : ℕ) → count ≤ k → is_member k (part_within universe (one_bits n)) ≡ false)
        → members ≡ part_within universe (one_bits n)
    all_agree agree none =
        same_sets members (part_within universe (one_bits n)) count rising (IsRising-filter (is_within universe) (one_bits n) (one_bits_law n).rising)
        (λ k below. agree k below ∙ sym (kept_bit k below)) (λ k above. no_member_from_bound members k (omega (arith, bound, above))) none

    bits_right : (mode : Mode) (state : ℕ) → IsUniverseOf mode universe → BitsAt members n digits count state
        → IsRight (members ≡ part_within universe (one_bits n)) (bits_sign mode digits state)
    bits_right mode zero is at = other_sets members (part_within universe (one_bits n)) at.0 (λ same. at.2 (same ∙ kept_bit at.0 at.1))
    bits_right M2lStr (suc k) is at = all_agree at.2 (λ q above. none_past_end universe count (one_bits n) q is long above)
    bits_right Ws1s (suc k) is at = by_last (k == digits) (told k digits)
      where
        none_left : digits ≤ count → (q : ℕ) → count ≤ q → is_member q (part_within universe (one_bits n)) ≡ false
        none_left all q above = all_within universe (one_bits n) q is ∙ no_member_from_bound (one_bits n) q (omega (arith, are_digits, all, above))

        by_last : (last : Bool) → Tells last k digits → IsRight (members ≡ part_within universe (one_bits n)) (if last then Yes else No)
        by_last true is_last = all_agree at.2 (none_left (⊎_elim (λ here. omega (arith, here, is_last)) (λ behind. behind.1) at.1))
        by_last false is_last =
            let here : k ≡ count = ⊎_elim (λ here. here) (λ behind. absurd (is_last behind.0)) at.1 in
            let found = bound_reached (one_bits n) count (omega (arith, here, at.0, is_last, are_digits)) in
            other_sets members (part_within universe (one_bits n)) found.0
            (λ same. false≢true (sym (no_member_from_bound members found.0 (omega (arith, bound, found.2))) ∙ same ∙ all_within universe (one_bits n) found.0 is ∙ found.1))

bits_closed : (n digits state : ℕ) (s : Bool) → state < digits + 2 → bits_step n digits state s < digits + 2
bits_closed n digits zero s small = omega arith
bits_closed n digits (suc k) s small = by_test (is_same s (is_one n k)) (k == digits) (told k digits)
  where
    by_test : (test last : Bool) → Tells last k digits → (if test then (if last then suc k else suc (suc k)) else 0) < digits + 2
    by_test true true is = small
    by_test true false is = omega (arith, small, is)
    by_test false last is = omega arith

pub decides_bits : (mode : Mode) (s n digits : ℕ) → digits ≡ bound_of_set (one_bits n) → DecidesRelation mode (variables_of_basic (Bits s n)) (Bits s n) (bits_table mode n digits)
decides_bits mode s n digits are_digits = record {
  closed = record { start = λ bits. omega arith; step = λ state bits small. bits_closed n digits state bits.first small };
  tallies = (tt, tt);
  right = λ e count assigned room string.
      bits_right (e.set s) n digits are_digits e.universe count string assigned.values.0.0 (omega (arith, room)) mode _ assigned.universe
      (kept (bits_table mode n digits) (variables_of_basic (Bits s n)) e count (BitsAt (e.set s) n digits) (omega arith, inl refl, λ q below. absurd (omega (arith, below)))
      (λ position state at. bits_next (e.set s) n digits are_digits position state at));
}

-- a number is below the power of two of its digits
bound_if : (members : List ℕ) (count : ℕ) → ((m : ℕ) → IsMember m members → m < count) → bound_of_set members ≤ count
bound_if [] count below = omega arith
bound_if (first ∷ more) count below =
    omega (arith, below first (first_is_member first more), bound_if more count (λ m member. below m (later first more m member)))
  where
    later : (first : ℕ) (more : List ℕ) (m : ℕ) → IsMember m more → IsMember m (first ∷ more)
    later first more m member = grind (arith, nat_tests, member)

one_below : (n digits place : ℕ) → n < 2 ^ digits → bit_at n place ≡ 1 → place < digits
one_below n digits place small one = ⊎_elim (λ less. less)
    (λ at_least. (let larger : 2 ^ digits ≤ 2 ^ place = pow-le-pow_right (omega arith) at_least in
    let gone : n / 2 ^ place ≡ 0 = div-eq_of_lt (let less : n < 2 ^ place = omega (arith, small, larger) in less) in
    let none : bit_at n place ≡ 0 = ap (λ q. q % 2) gone in absurd (omega (arith, one, none)))) (cases_lt place digits)

-- the counted digits are those of the number
pub digits_are : (n digits : ℕ) → n < 2 ^ digits → (digits ≡ 0) ⊎ (2 ^ (digits - 1) ≤ n) → digits ≡ bound_of_set (one_bits n)
digits_are n zero small reached =
    (let no_more = bound_if (one_bits n) 0 (λ m member. one_below n 0 m small (((one_bits_law n).exactly m).0 member)) in omega (arith, no_more))
digits_are n (suc place) small reached =
    let no_more = bound_if (one_bits n) (suc place) (λ m member. one_below n (suc place) m small (((one_bits_law n).exactly m).0 member)) in
    let same : suc place - 1 ≡ place = omega arith in
    let low : 2 ^ place ≤ n = ⊎_elim (λ none. absurd (let never : suc place ≡ 0 = none in omega (arith, never))) (λ at_least. subst (λ k. 2 ^ k ≤ n) same at_least) reached in
    let quotient : n / 2 ^ place ≡ 1 = div-eq_of_lt-le (2 ^ place) (omega (arith, low)) (omega (arith, small, pow-suc 2 place)) in
    let one : bit_at n place ≡ 1 = ap (λ q. q % 2) quotient in
    let below = member_below_bound (one_bits n) place (((one_bits_law n).exactly place).1 one) in
    omega (arith, no_more, below)

-- where nothing is left behind some digits, a number is below their power of two
pub below_power : (n digits : ℕ) → n / 2 ^ digits ≡ 0 → n < 2 ^ digits
below_power n digits none = omega (arith, none, div-add-mod' n (2 ^ digits), mod_below n (2 ^ digits) (pow_pos digits), ap (λ q. q * 2 ^ digits) none)
