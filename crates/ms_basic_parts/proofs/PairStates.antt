-- Relations of a number that hold of some values and not of others have two states.
use Rattle.std.proofs.Common.{◌≡◌, ℕ, ◌+◌, ◌<◌, ◌≤◌, ◌==◌, Bool, true, false, if◌then◌else◌, List, [], ◌∷◌, length, refl, sym, subst, ◌∙◌, arith}
use Rattle.ms_logic.specs.Assignment.{Env, Variable, value_at}
use Rattle.ms_logic.specs.FiniteSet.{IsMember, greatest, least}
use Rattle.ms_logic.specs.OrderLaws.{GiveSameValues}
use Rattle.ms_logic.specs.declared.mode.Mode.{Mode}
use Rattle.ms_logic.specs.declared.mode.Order.TheVariants.{One, Two}
use Rattle.ms_logic_core.specs.CoreForm.{Holds}
use Rattle.ms_logic_core.specs.declared.core_formula.Basic.{Basic}
use Rattle.ms_logic_core.specs.declared.core_formula.Basic.TheVariants.{Number, Plus, Less, Member, Min, Max}
use Rattle.ms_logic_measures.specs.CallMeasures.{place_variables}
use Rattle.ms_logic_words.specs.Content.{Content}
use Rattle.ms_logic_words.specs.declared.sign.Sign.{Sign}
use Rattle.ms_basic_parts.specs.Laws.{IsContentOfRelation}
use Rattle.ms_basic_parts.proofs.FoolingSets.{IsFoolingSet, Parts, needs_states, values_at}
use Rattle.ms_basic_parts.proofs.NumberStates.{both_values, number_is}
use Rattle.ms_basic_parts.proofs.ShiftStates.{set_is}

-- two words of two letters: the first number is 0 in one and 1 in the other, the second is the same in both, and each set has 0 alone
abbrev pair_parts : ℕ → Parts
pair_parts second = record { before = λ i. 2; behind = λ j. 0; number = λ i j x. if x == 0 then i else second; set = λ i j x. 0 ∷ [] }

module _ (mode : Mode) (variables : List Variable) (b : Basic) (second : ℕ) (small : second < 2)
    (between : (e c : Env) → e.universe ≡ c.universe → GiveSameValues variables e c → Holds b e → Holds b c)
    (holds : Holds b (values_at mode (pair_parts second) 0 0)) (fails : Holds b (values_at mode (pair_parts second) 1 0) → ⊥) where
  below : (test : Bool) (i : ℕ) → i < 2 → (if test then i else second) < 2 + 0
  below true i less = omega (arith, less)
  below false i less = omega (arith, small)

  pair_fools : IsFoolingSet mode variables b (pair_parts second) 2
  pair_fools = record {
    below = λ i j less_i less_j. record { numbers = λ x. below (x == 0) i less_i; rising = λ x. (tt, tt); bounds = λ x. omega arith };
    first_part = λ i j p less_i less_j less. record { numbers = λ x. refl; sets = λ x. refl };
    second_part = λ i j q less_i less_j less. absurd (omega (arith, less));
    holds = λ i less. (let first : 0 ≡ i = omega (arith, less) in subst (λ n. Holds b (values_at mode (pair_parts second) n n)) first holds);
    fails = λ i j less within is.
        let first : i ≡ 0 = omega (arith, less, within) in
        let last : j ≡ 1 = omega (arith, less, within) in
        fails (subst (λ n. Holds b (values_at mode (pair_parts second) n 0)) last (subst (λ n. Holds b (values_at mode (pair_parts second) j n)) first is));
    between = between;
  }

pub zero_has_two_states : (mode : Mode) (x : ℕ) (content : Content Sign) → IsContentOfRelation mode (Number x 0) content → 2 ≤ length content.states
zero_has_two_states mode x content full =
    let b = Number 0 0 in
    let variables = place_variables (Number x 0) in
    let fools = pair_fools mode variables b 0 (omega arith) (λ e c universe same holds. sym (number_is (e.number 0) (c.number 0) same.0) ∙ holds) refl (λ same. let is : 1 ≡ 0 = same in omega (arith, is)) in
    needs_states mode variables b (pair_parts 0) 2 fools content full

pub equal_has_two_states : (mode : Mode) (x y : ℕ) (content : Content Sign) → IsContentOfRelation mode (Plus x y 0) content → 2 ≤ length content.states
equal_has_two_states mode x y content full =
    let b = Plus 0 1 0 in
    let variables = place_variables (Plus x y 0) in
    let fools = pair_fools mode variables b 0 (omega arith)
    (λ e c universe same holds.
    let both = both_values x y One One e c same in
    let left = number_is (e.number 0) (c.number 0) both.0 in
    let right = number_is (e.number 1) (c.number 1) both.1 in
    omega (arith, left, right, holds))
    (omega arith) (λ same. let is : 1 ≡ 0 + 0 = same in omega (arith, is)) in
    needs_states mode variables b (pair_parts 0) 2 fools content full

pub less_has_two_states : (mode : Mode) (x y : ℕ) (content : Content Sign) → IsContentOfRelation mode (Less x y) content → 2 ≤ length content.states
less_has_two_states mode x y content full =
    let b = Less 0 1 in
    let variables = place_variables (Less x y) in
    let fools = pair_fools mode variables b 1 (omega arith)
    (λ e c universe same holds.
    let both = both_values x y One One e c same in
    let left = number_is (e.number 0) (c.number 0) both.0 in
    let right = number_is (e.number 1) (c.number 1) both.1 in
    omega (arith, left, right, holds))
    (omega arith) (λ same. let is : 1 < 1 = same in omega (arith, is)) in
    needs_states mode variables b (pair_parts 1) 2 fools content full

-- a relation of a number and a set
module _ (x s : ℕ) (P : ℕ → List ℕ → Type 0) where
  of_both : (variables : List Variable) → ((e c : Env) → GiveSameValues variables e c → (value_at One 0 e ≡ value_at One 0 c) × (value_at Two 1 e ≡ value_at Two 1 c))
      → (e c : Env) → GiveSameValues variables e c → P (e.number 0) (e.set 1) → P (c.number 0) (c.set 1)
  of_both variables given e c same holds =
      let both = given e c same in
      subst (λ n. P n (c.set 1)) (number_is (e.number 0) (c.number 0) both.0) (subst (P (e.number 0)) (set_is (e.set 1) (c.set 1) both.1) holds)

pub member_has_two_states : (mode : Mode) (x s : ℕ) (content : Content Sign) → IsContentOfRelation mode (Member x s) content → 2 ≤ length content.states
member_has_two_states mode x s content full =
    let b = Member 0 1 in
    let variables = place_variables (Member x s) in
    let fools = pair_fools mode variables b 0 (omega arith) (λ e c universe same holds. of_both x s IsMember variables (both_values x s One Two) e c same holds) refl
    (λ same. let is : false ≡ true = same in cc) in
    needs_states mode variables b (pair_parts 0) 2 fools content full

pub least_has_two_states : (mode : Mode) (x s : ℕ) (content : Content Sign) → IsContentOfRelation mode (Min x s) content → 2 ≤ length content.states
least_has_two_states mode x s content full =
    let b = Min 0 1 in
    let variables = place_variables (Min x s) in
    let fools = pair_fools mode variables b 0 (omega arith) (λ e c universe same holds. of_both x s (λ n members. n ≡ least members) variables (both_values x s One Two) e c same holds) refl
    (λ same. let is : 1 ≡ 0 = same in omega (arith, is)) in
    needs_states mode variables b (pair_parts 0) 2 fools content full

pub greatest_has_two_states : (mode : Mode) (x s : ℕ) (content : Content Sign) → IsContentOfRelation mode (Max x s) content → 2 ≤ length content.states
greatest_has_two_states mode x s content full =
    let b = Max 0 1 in
    let variables = place_variables (Max x s) in
    let fools = pair_fools mode variables b 0 (omega arith) (λ e c universe same holds. of_both x s (λ n members. n ≡ greatest members) variables (both_values x s One Two) e c same holds) refl
    (λ same. let is : 1 ≡ 0 = same in omega (arith, is)) in
    needs_states mode variables b (pair_parts 0) 2 fools content full
