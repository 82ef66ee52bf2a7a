-- The states of the relation of a set and the one bits of a constant.
use Rattle.std.proofs.Common.{◌≡◌, ℕ, suc, ◌+◌, ◌-◌, ◌<◌, ◌≤◌, ◌⊎◌, inl, inr, Bool, false, cond, ltb, sym, ap, ◌∙◌, arith}
use Rattle.std.proofs.lemmas.Bool.{cases_lt, false≢true, le-leb}
use Rattle.std.proofs.lemmas.Bool.Decides.{nat_tests}
use Rattle.ms_logic.specs.Assignment.{Env, Universe}
use Rattle.ms_logic.specs.FiniteSet.{is_member, one_bits}
use Rattle.ms_logic.specs.Terms.{part_within}
use Rattle.ms_logic.specs.declared.mode.Mode.{Mode}
use Rattle.ms_logic.proofs.Members.{no_member_from_bound}
use Rattle.ms_logic.proofs.SetLaws.{one_bits_law}
use Rattle.ms_logic_core.specs.declared.core_formula.Basic.TheVariants.{Bits}
use Rattle.ms_logic_measures.specs.CallMeasures.{place_variables}
use Rattle.ms_basic.specs.Bits.{digits_of, is_one}
use Rattle.ms_basic.proofs.BitsLemmas.{member_is_one}
use Rattle.ms_basic.proofs.SetLemmas.{same_sets}
use Rattle.ms_basic_parts.specs.Laws.{BitsNeedStates}
use Rattle.ms_basic_parts.proofs.ChosenLemmas.{all_within, bound_chosen, chosen, member_chosen, none_chosen, rising_chosen}
use Rattle.ms_basic.proofs.BitsApart.{top_member}
use Rattle.ms_basic_parts.proofs.FoolingSets.{IsFoolingSet, Parts, needs_states, universe_for, values_at}
use Rattle.ms_basic_parts.proofs.LetterLemmas.{AreBelow, HaveSameBits, eqb_alike}
use Rattle.ms_basic_parts.proofs.ShiftStates.{set_is}

-- the digits of n below i, and behind them those from j on
abbrev mixed : ℕ → ℕ → ℕ → ℕ → Bool
mixed n i j k = cond (ltb k i) (is_one n k) (is_one n (k - i + j))

mixed_before : (n i j k : ℕ) → k < i → mixed n i j k ≡ is_one n k
mixed_before n i j k less = ap (λ test. cond test (is_one n k) (is_one n (k - i + j))) (le-leb (suc k) i (omega (arith, less)))

mixed_behind : (n i j q : ℕ) → mixed n i j (i + q) ≡ is_one n (j + q)
mixed_behind n i j q =
    let test : ltb (i + q) i ≡ false = grind (arith, nat_tests) in
    let place : i + q - i + j ≡ j + q = omega arith in
    ap (λ less. cond less (is_one n (i + q)) (is_one n (i + q - i + j))) test ∙ ap (is_one n) place

-- word i has the lowest i digits of n before it is cut, and the others behind. No number matters, so all are the last position
abbrev bits_parts : ℕ → Parts
bits_parts n = record {
  before = λ i. i;
  behind = λ j. digits_of n - j;
  number = λ i j x. i + (digits_of n - j - 1);
  set = λ i j x. chosen (mixed n i j) (i + (digits_of n - j));
}

module _ (mode : Mode) (s n : ℕ) where
  abbrev e_at : ℕ → ℕ → Env
  e_at i j = values_at mode (bits_parts n) i j

  bits_below : (i j : ℕ) → j < digits_of n → AreBelow (e_at i j) (i + (digits_of n - j))
  bits_below i j less = record {
    numbers = λ x. omega (arith, less);
    rising = λ x. rising_chosen (mixed n i j) (i + (digits_of n - j));
    bounds = λ x. bound_chosen (mixed n i j) (i + (digits_of n - j));
  }

  member_before : (i j k : ℕ) → k < i → is_member k (chosen (mixed n i j) (i + (digits_of n - j))) ≡ is_one n k
  member_before i j k less = member_chosen (mixed n i j) (i + (digits_of n - j)) k (omega (arith, less)) ∙ mixed_before n i j k less

  member_behind : (i j q : ℕ) → q < digits_of n - j → is_member (i + q) (chosen (mixed n i j) (i + (digits_of n - j))) ≡ is_one n (j + q)
  member_behind i j q less = member_chosen (mixed n i j) (i + (digits_of n - j)) (i + q) (omega (arith, less)) ∙ mixed_behind n i j q

  bits_first : (i j p : ℕ) → i < digits_of n → j < digits_of n → p < i → HaveSameBits (e_at i j) (e_at i i) p p
  bits_first i j p less_i less_j less = record {
    numbers = λ x.
        eqb_alike (i + (digits_of n - j - 1)) p (i + (digits_of n - i - 1)) p (λ same. absurd (omega (arith, same, less))) (λ same. absurd (omega (arith, same, less)));
    sets = λ x. member_before i j p less ∙ sym (member_before i i p less);
  }

  bits_second : (i j q : ℕ) → i < digits_of n → j < digits_of n → q < digits_of n - j → HaveSameBits (e_at i j) (e_at j j) (i + q) (j + q)
  bits_second i j q less_i less_j less = record {
    numbers = λ x.
        eqb_alike (i + (digits_of n - j - 1)) (i + q) (j + (digits_of n - j - 1)) (j + q) (λ same. omega (arith, same)) (λ same. omega (arith, same));
    sets = λ x. member_behind i j q less ∙ sym (member_behind j j q less);
  }

  bits_within : (i j : ℕ) → j ≤ i → i < digits_of n → part_within (universe_for mode (i + (digits_of n - j))) (one_bits n) ≡ one_bits n
  bits_within i j not_above less = all_within mode (i + (digits_of n - j)) (one_bits n) (omega (arith, not_above, less))

  bits_hold : (i : ℕ) → i < digits_of n → chosen (mixed n i i) (i + (digits_of n - i)) ≡ one_bits n
  bits_hold i less =
      same_sets (chosen (mixed n i i) (i + (digits_of n - i))) (one_bits n) (digits_of n) (rising_chosen (mixed n i i) (i + (digits_of n - i))) (one_bits_law n).rising
      (λ k below. by_place k below (cases_lt k i) ∙ sym (member_is_one n k))
      (λ k past. none_chosen (mixed n i i) (i + (digits_of n - i)) k (omega (arith, past, less)))
      (λ k past. no_member_from_bound (one_bits n) k past)
    where
      by_place : (k : ℕ) → k < digits_of n → (k < i) ⊎ (i ≤ k) → is_member k (chosen (mixed n i i) (i + (digits_of n - i))) ≡ is_one n k
      by_place k below (inl before) = member_before i i k before
      by_place k below (inr behind) =
          let place : k ≡ i + (k - i) = omega (arith, behind) in
          ap (λ at. is_member at (chosen (mixed n i i) (i + (digits_of n - i)))) place ∙ (member_behind i i (k - i) (omega (arith, behind, below)) ∙ ap (is_one n) (sym place))

  -- the highest digit stands where n has none
  bits_fail : (i j : ℕ) → i < j → j < digits_of n → chosen (mixed n j i) (j + (digits_of n - i)) ≡ one_bits n → ⊥
  bits_fail i j less within same =
      let q = digits_of n - i - 1 in
      let place : i + q ≡ digits_of n - 1 = omega (arith, less, within) in
      let there = member_behind j i q (omega (arith, less, within)) ∙ (ap (is_one n) place ∙ (sym (member_is_one n (digits_of n - 1)) ∙ top_member (one_bits n) (omega (arith, within)))) in
      let none = no_member_from_bound (one_bits n) (j + q) (omega (arith, less, within)) in
      false≢true (sym none ∙ (sym (ap (is_member (j + q)) same) ∙ there))

  bits_fool : IsFoolingSet mode (place_variables (Bits s n)) (Bits 0 n) (bits_parts n) (digits_of n)
  bits_fool = record {
    below = λ i j less_i less_j. bits_below i j less_j;
    first_part = bits_first;
    second_part = bits_second;
    holds = λ i less. let within : i < digits_of n = omega (arith, less) in bits_hold i within ∙ sym (bits_within i i (omega arith) within);
    fails = λ i j less within same. bits_fail i j less within (same ∙ bits_within j i (omega (arith, less)) within);
    between = λ e c universe same holds.
        sym (set_is (e.set 0) (c.set 0) same.0) ∙ (holds ∙ ap (λ (u : Universe). part_within u (one_bits n)) universe);
  }

pub bits_need_states : BitsNeedStates
bits_need_states mode s n content full =
    needs_states mode (place_variables (Bits s n)) (Bits 0 n) (bits_parts n) (digits_of n) (bits_fool mode s n) content full
