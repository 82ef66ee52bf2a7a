-- The states of relations between numbers.
use Rattle.std.proofs.Common.{◌≡◌, ℕ, suc, ◌+◌, ◌-◌, ◌<◌, ◌==◌, max, Bool, true, false, cond, if◌then◌else◌, nat_le, [], ◌∷◌, map, refl, sym, ◌∙◌, arith}
use Rattle.ms_logic.specs.Assignment.{Env, Variable, value_at}
use Rattle.ms_logic.specs.OrderLaws.{GiveSameValues}
use Rattle.ms_logic.specs.declared.assignment.Value.TheVariants as values
use Rattle.ms_logic.specs.declared.mode.Mode.{Mode}
use Rattle.ms_logic.specs.declared.mode.Order.{Order}
use Rattle.ms_logic.specs.declared.mode.Order.TheVariants.{One}
use Rattle.ms_logic_core.specs.Operands.{variable}
use Rattle.ms_logic_core.specs.declared.core_formula.Basic.TheVariants.{Number, Plus}
use Rattle.ms_logic_measures.specs.CallMeasures.{in_order_of, place_variables}
use Rattle.ms_logic_words.specs.Content.{variables_by_place}
use Rattle.ms_basic_parts.specs.Laws.{NumbersNeedStates, SumsNeedStates}
use Rattle.ms_basic_parts.proofs.FoolingSets.{IsFoolingSet, Parts, needs_states}
use Rattle.ms_basic_parts.proofs.LetterLemmas.{eqb_alike}

pub number_is : (m n : ℕ) → values.Number m ≡ values.Number n → m ≡ n
number_is m n same = cc

-- the values of two places, in whichever order their variables stand
pub both_values : (x y : ℕ) (one other : Order) (e c : Env)
    → GiveSameValues (in_order_of (x ∷ y ∷ []) (variables_by_place (one ∷ other ∷ []))) e c
    → (value_at one 0 e ≡ value_at one 0 c) × (value_at other 1 e ≡ value_at other 1 c)
both_values x y one other e c = by_test (nat_le x y)
  where
    by_test : (test : Bool)
        → GiveSameValues (map (λ (p : ℕ × Variable). p.1)
        (cond test ((x, variable 0 one) ∷ (y, variable 1 other) ∷ []) ((y, variable 1 other) ∷ (x, variable 0 one) ∷ []))) e c
        → (value_at one 0 e ≡ value_at one 0 c) × (value_at other 1 e ≡ value_at other 1 c)
    by_test true same = (same.0, same.1.0)
    by_test false same = (same.1.0, same.0)

-- word i has i letters before it is cut, and its number behind
abbrev number_parts : ℕ → Parts
number_parts n = record { before = λ i. i; behind = λ j. suc (n - j); number = λ i j x. i + (n - j); set = λ i j x. [] }

numbers_fool : (mode : Mode) (x n : ℕ) → IsFoolingSet mode (place_variables (Number x n)) (Number 0 n) (number_parts n) (suc n)
numbers_fool mode x n = record {
  below = λ i j less_i less_j. record { numbers = λ y. omega arith; rising = λ y. tt; bounds = λ y. omega arith };
  first_part = λ i j p less_i less_j less. record {
    numbers = λ y. eqb_alike (i + (n - j)) p (i + (n - i)) p (λ same. absurd (omega (arith, same, less))) (λ same. absurd (omega (arith, same, less)));
    sets = λ y. refl;
  };
  second_part = λ i j q less_i less_j less. record {
    numbers = λ y. eqb_alike (i + (n - j)) (i + q) (j + (n - j)) (j + q) (λ same. omega (arith, same)) (λ same. omega (arith, same));
    sets = λ y. refl;
  };
  holds = λ i less. omega (arith, less);
  fails = λ i j less within same. omega (arith, less, within, same);
  between = λ e c universe same holds. sym (number_is (e.number 0) (c.number 0) same.0) ∙ holds;
}

pub numbers_need_states : NumbersNeedStates
numbers_need_states mode x n content full =
    let least = needs_states mode (place_variables (Number x n)) (Number 0 n) (number_parts n) (suc n) (numbers_fool mode x n) content full in omega (arith, least)

-- the first number stands behind so many letters, or just behind the cut of the last word, whose first part is too long already
abbrev letters_left : ℕ → ℕ → ℕ
letters_left n j = max (n - j) 1

-- word i has the second number at its start, and i letters more before it is cut; the first number stands at its end
abbrev sum_parts : ℕ → Parts
sum_parts n = record {
  before = λ i. suc i;
  behind = λ j. letters_left n j;
  number = λ i j x. if x == 0 then i + letters_left n j else 0;
  set = λ i j x. [];
}

sums_fool : (mode : Mode) (x y n : ℕ) → IsFoolingSet mode (place_variables (Plus x y n)) (Plus 0 1 n) (sum_parts n) (suc n)
sums_fool mode x y n = record {
  below = λ i j less_i less_j. record { numbers = λ z. below (z == 0) i j; rising = λ z. tt; bounds = λ z. omega arith };
  first_part = λ i j p less_i less_j less. record { numbers = λ z. first (z == 0) i j p less; sets = λ z. refl };
  second_part = λ i j q less_i less_j less. record { numbers = λ z. second (z == 0) i j q; sets = λ z. refl };
  holds = λ i less. omega (arith, less);
  fails = λ i j less within same. omega (arith, less, within, same);
  between = λ e c universe same holds. between_both e c (both_values x y One One e c same) holds;
}
  where
    below : (test : Bool) (i j : ℕ) → (if test then i + letters_left n j else 0) < suc i + letters_left n j
    below true i j = omega arith
    below false i j = omega arith

    first : (test : Bool) (i j p : ℕ) → p < suc i → ((if test then i + letters_left n j else 0) == p) ≡ ((if test then i + letters_left n i else 0) == p)
    first true i j p less =
        eqb_alike (i + letters_left n j) p (i + letters_left n i) p (λ same. absurd (omega (arith, same, less))) (λ same. absurd (omega (arith, same, less)))
    first false i j p less = refl

    second : (test : Bool) (i j q : ℕ) → ((if test then i + letters_left n j else 0) == suc i + q) ≡ ((if test then j + letters_left n j else 0) == suc j + q)
    second true i j q = eqb_alike (i + letters_left n j) (suc i + q) (j + letters_left n j) (suc j + q) (λ same. omega (arith, same)) (λ same. omega (arith, same))
    second false i j q = eqb_alike 0 (suc i + q) 0 (suc j + q) (λ same. absurd (omega (arith, same))) (λ same. absurd (omega (arith, same)))

    between_both : (e c : Env) → (values.Number (e.number 0) ≡ values.Number (c.number 0)) × (values.Number (e.number 1) ≡ values.Number (c.number 1))
        → e.number 0 ≡ e.number 1 + n → c.number 0 ≡ c.number 1 + n
    between_both e c same holds =
        let left = number_is (e.number 0) (c.number 0) same.0 in let right = number_is (e.number 1) (c.number 1) same.1 in omega (arith, left, right, holds)

pub sums_need_states : SumsNeedStates
sums_need_states mode x y n content full =
    let least = needs_states mode (place_variables (Plus x y n)) (Plus 0 1 n) (sum_parts n) (suc n) (sums_fool mode x y n) content full in omega (arith, least)
