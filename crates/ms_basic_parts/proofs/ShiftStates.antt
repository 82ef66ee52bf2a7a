-- The states of relations between a set and another that is moved up or down.
use Rattle.std.proofs.Common.{◌≡◌, ℕ, suc, ◌+◌, ◌<◌, ◌≤◌, ◌==◌, ◌^◌, Bool, true, false, if◌then◌else◌, List, refl, sym, ap, ap₂, ◌∙◌, arith}
use Rattle.ms_logic.specs.Assignment.{Env, Universe}
use Rattle.ms_logic.specs.FiniteSet.{IsRising, is_member, moved_down, moved_up}
use Rattle.ms_logic.specs.Letters.{bound_of_set}
use Rattle.ms_logic.specs.Terms.{part_within}
use Rattle.ms_logic.specs.declared.assignment.Value.TheVariants as values
use Rattle.ms_logic.specs.declared.mode.Mode.{Mode}
use Rattle.ms_logic.specs.declared.mode.Order.TheVariants.{Two}
use Rattle.ms_logic.proofs.Members.{IsRising-moved_up, is_member-moved_up_below}
use Rattle.ms_logic_core.specs.declared.core_formula.Basic.TheVariants.{Up, Down}
use Rattle.ms_logic_measures.specs.CallMeasures.{place_variables}
use Rattle.ms_basic.specs.Bits.{is_one}
use Rattle.ms_basic_parts.specs.Laws.{ShiftsDownNeedStates, ShiftsUpNeedStates}
use Rattle.ms_basic_parts.proofs.ChosenLemmas.{all_within, bound-moved_up, bound_chosen, chosen, down_again, none_chosen, rising_chosen, same_ones}
use Rattle.ms_basic_parts.proofs.FoolingSets.{IsFoolingSet, Parts, needs_states, universe_for, values_at}
use Rattle.ms_basic_parts.proofs.LetterLemmas.{AreBelow, HaveSameBits}
use Rattle.ms_basic_parts.proofs.NumberStates.{both_values}

pub set_is : (s t : List ℕ) → values.Set s ≡ values.Set t → s ≡ t
set_is s t same = cc

-- the set of the one bits of i below n
abbrev ones : ℕ → ℕ → List ℕ
ones n i = chosen (is_one i) n

-- word i has the one bits of i in n letters, and behind them once more as a set that stands n higher, that of this place
abbrev shift_parts : ℕ → ℕ → Parts
shift_parts place n = record {
  before = λ i. n;
  behind = λ j. suc n;
  number = λ i j x. 0;
  set = λ i j x. if x == place then moved_up n (ones n j) else ones n i;
}

module _ (mode : Mode) (place n : ℕ) where
  shifts_below : (i j : ℕ) → AreBelow (values_at mode (shift_parts place n) i j) (n + suc n)
  shifts_below i j = record { numbers = λ x. omega arith; rising = λ x. rising (x == place); bounds = λ x. bounds (x == place) }
    where
      rising : (test : Bool) → IsRising (if test then moved_up n (ones n j) else ones n i)
      rising true = IsRising-moved_up n (ones n j) (rising_chosen (is_one j) n)
      rising false = rising_chosen (is_one i) n

      bounds : (test : Bool) → bound_of_set (if test then moved_up n (ones n j) else ones n i) ≤ n + suc n
      bounds true = let moved = bound-moved_up n (ones n j) in let own = bound_chosen (is_one j) n in omega (arith, moved, own)
      bounds false = let own = bound_chosen (is_one i) n in omega (arith, own)

  shifts_first : (i j p : ℕ) → p < n → HaveSameBits (values_at mode (shift_parts place n) i j) (values_at mode (shift_parts place n) i i) p p
  shifts_first i j p less = record { numbers = λ x. refl; sets = λ x. by_test (x == place) }
    where
      by_test : (test : Bool) → is_member p (if test then moved_up n (ones n j) else ones n i) ≡ is_member p (if test then moved_up n (ones n i) else ones n i)
      by_test true = is_member-moved_up_below p n (ones n j) less ∙ sym (is_member-moved_up_below p n (ones n i) less)
      by_test false = refl

  shifts_second : (i j q : ℕ) → HaveSameBits (values_at mode (shift_parts place n) i j) (values_at mode (shift_parts place n) j j) (n + q) (n + q)
  shifts_second i j q = record { numbers = λ x. refl; sets = λ x. by_test (x == place) }
    where
      by_test : (test : Bool) → is_member (n + q) (if test then moved_up n (ones n j) else ones n i) ≡ is_member (n + q) (if test then moved_up n (ones n j) else ones n j)
      by_test true = refl
      by_test false = none_chosen (is_one i) n (n + q) (omega arith) ∙ sym (none_chosen (is_one j) n (n + q) (omega arith))

moved_within : (mode : Mode) (n i : ℕ) → part_within (universe_for mode (n + suc n)) (moved_up n (ones n i)) ≡ moved_up n (ones n i)
moved_within mode n i =
    let moved = bound-moved_up n (ones n i) in
    let own = bound_chosen (is_one i) n in
    all_within mode (n + suc n) (moved_up n (ones n i)) (omega (arith, moved, own))

shifts_up_fool : (mode : Mode) (s t n : ℕ) → IsFoolingSet mode (place_variables (Up s t n)) (Up 0 1 n) (shift_parts 0 n) (2 ^ n)
shifts_up_fool mode s t n = record {
  below = λ i j less_i less_j. shifts_below mode 0 n i j;
  first_part = λ i j p less_i less_j less. shifts_first mode 0 n i j p less;
  second_part = λ i j q less_i less_j less. shifts_second mode 0 n i j q;
  holds = λ i less. sym (moved_within mode n i);
  fails = λ i j less within same.
      let sets : ones n i ≡ ones n j =
      sym (down_again n (ones n i)) ∙ (ap (moved_down n) (same ∙ moved_within mode n j) ∙ down_again n (ones n j)) in
      let equal = same_ones n i j (omega (arith, less, within)) within sets in omega (arith, less, equal);
  between = λ e c universe same holds. between_both e c universe (both_values s t Two Two e c same) holds;
}
  where
    between_both : (e c : Env) → e.universe ≡ c.universe → (values.Set (e.set 0) ≡ values.Set (c.set 0)) × (values.Set (e.set 1) ≡ values.Set (c.set 1))
        → e.set 0 ≡ part_within e.universe (moved_up n (e.set 1)) → c.set 0 ≡ part_within c.universe (moved_up n (c.set 1))
    between_both e c universe same holds =
        sym (set_is (e.set 0) (c.set 0) same.0) ∙ (holds ∙ ap₂ (λ (u : Universe) (members : List ℕ). part_within u (moved_up n members)) universe (set_is (e.set 1) (c.set 1) same.1))

shifts_down_fool : (mode : Mode) (s t n : ℕ) → IsFoolingSet mode (place_variables (Down s t n)) (Down 0 1 n) (shift_parts 1 n) (2 ^ n)
shifts_down_fool mode s t n = record {
  below = λ i j less_i less_j. shifts_below mode 1 n i j;
  first_part = λ i j p less_i less_j less. shifts_first mode 1 n i j p less;
  second_part = λ i j q less_i less_j less. shifts_second mode 1 n i j q;
  holds = λ i less. sym (down_again n (ones n i));
  fails = λ i j less within same.
      let sets : ones n i ≡ ones n j = sym (same ∙ down_again n (ones n i)) in
      let equal = same_ones n i j (omega (arith, less, within)) within sets in omega (arith, less, equal);
  between = λ e c universe same holds. between_both e c (both_values s t Two Two e c same) holds;
}
  where
    between_both : (e c : Env) → (values.Set (e.set 0) ≡ values.Set (c.set 0)) × (values.Set (e.set 1) ≡ values.Set (c.set 1))
        → e.set 0 ≡ moved_down n (e.set 1) → c.set 0 ≡ moved_down n (c.set 1)
    between_both e c same holds = sym (set_is (e.set 0) (c.set 0) same.0) ∙ (holds ∙ ap (moved_down n) (set_is (e.set 1) (c.set 1) same.1))

pub shifts_up_need_states : ShiftsUpNeedStates
shifts_up_need_states mode s t n content full =
    needs_states mode (place_variables (Up s t n)) (Up 0 1 n) (shift_parts 0 n) (2 ^ n) (shifts_up_fool mode s t n) content full

pub shifts_down_need_states : ShiftsDownNeedStates
shifts_down_need_states mode s t n content full =
    needs_states mode (place_variables (Down s t n)) (Down 0 1 n) (shift_parts 1 n) (2 ^ n) (shifts_down_fool mode s t n) content full
