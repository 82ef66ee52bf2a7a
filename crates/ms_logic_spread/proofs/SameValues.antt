-- Core formulas that are the same up to the numbers of their bound variables have one value.
use Rattle.std.proofs.Common.{◌≡◌, ℕ, ◌+◌, Bool, true, false, MatchBool, ◌↔◌, ◌⊎◌, ⊎_elim, List, [], ◌∷◌, length, map, slice_get, Option, Some, None, refl, sym, ◌∙◌, ap, subst, arith}
use Rattle.std.specs.List.{zip}
use Rattle.std.proofs.lemmas.Bool.{false≢true}
use Rattle.ms_logic_core.specs.declared.core_formula.Basic.{Basic}
use Rattle.ms_logic_core.specs.declared.core_formula.Basic.TheVariants.{Truth, Number, Plus, Less, Member, Sub, Union, Inter, Diff, Up, Down, Min, Max, Bits}
use Rattle.ms_logic.specs.declared.mode.Order.{Order}
use Rattle.ms_logic.specs.declared.mode.Order.TheVariants.{Zero, One, Two}
use Rattle.ms_logic.specs.declared.mode.Quant.{Quant}
use Rattle.ms_logic.specs.declared.mode.Quant.TheVariants.{Ex, All}
use Rattle.ms_logic.specs.declared.assignment.Value.{Value}
use Rattle.ms_logic.specs.Assignment.{Env, Variable, assign, value_at, IsValueOf}
use Rattle.ms_logic_core.specs.Operands.{at_places, variables_of_basic, variables_at}
use Rattle.ms_logic_core.specs.CoreForm.{CoreForm, truth, falsity, basic, negation, conjunction, disjunction, implication, equivalence, restrict, imported, quantified, CoreForms, no_forms, more_forms, CoreRestriction, unrestricted, restricted, Holds, CoreYes, CoreNo, AllCoreYes, AllCoreNo, AllCoreDefined, SomeCoreYes, SomeCoreNo, IsCoreMet, answer_over}
use Rattle.ms_logic.specs.FiniteSet.{is_member, IsSubset, union_of, intersection_of, difference_of, least, greatest, moved_up, moved_down, one_bits}
use Rattle.ms_logic_core.specs.SameUpToBound.{BoundPair, SameVariable, SameVariables, SameUnder, SameEach, SameRestriction}
use Rattle.ms_logic_core.specs.Spread.{is_order, variables_of_import}
use Rattle.ms_logic.specs.Terms.{part_within}
use Rattle.ms_logic.specs.Truth.{Import}
use Rattle.ms_logic.proofs.Agreement.{order_of_value, universe-assign}
use Rattle.ms_logic.proofs.FreeVariables.{order_of_value_of}
use Rattle.ms_logic.proofs.AssignedValues.{value_at-assign, value_at-assign_other}
use Rattle.ms_logic_core.proofs.SayingTerms.{number_in, set_in, valid_along}
use Rattle.ms_logic_core.proofs.SpreadKeeps.{truth_in, value_at-assign_not}
use Rattle.ms_logic_spread.proofs.Equivalences.{iff_then, iff_both, iff_three, iff_either, kept_some, kept_none_or}
use Rattle.ms_logic_spread.proofs.Places.{is_order-of, is_order-itself}

-- the environments have one universe, and give the two numbers of each variable one value
pub record AgreeAlong (pairs : List BoundPair) (e d : Env) : Type 0 where
  pub universe : e.universe ≡ d.universe
  pub values : (o : Order) (x y : ℕ) → SameVariable pairs o x y → value_at o x e ≡ value_at o y d

-- a fact along equal values
along : {A : Type 0} (P : A → Type 0) (a b : A) → a ≡ b → P a ↔ P b
along P a b same = (λ h. subst P same h, λ h. subst P (sym same) h)

-- two arguments along equations
pub of_two : {A B C : Type 0} (f : A → B → C) {a a' : A} {b b' : B} → a ≡ a' → b ≡ b' → f a b ≡ f a' b'
of_two f {a} {a'} {b} {b'} first second = ap (λ x. f x b) first ∙ ap (f a') second

module _ (pairs : List BoundPair) (e d : Env) (agree : AgreeAlong pairs e d) where
  same_truth : (x y : ℕ) → SameVariable pairs Zero x y → e.truth x ≡ d.truth y
  same_truth x y same = ap truth_in (agree.values Zero x y same)

  same_number : (x y : ℕ) → SameVariable pairs One x y → e.number x ≡ d.number y
  same_number x y same = ap number_in (agree.values One x y same)

  same_set : (x y : ℕ) → SameVariable pairs Two x y → e.set x ≡ d.set y
  same_set x y same = ap set_in (agree.values Two x y same)

  equations : {A : Type 0} (a b : A) {a' b' : A} → a ≡ a' → b ≡ b' → (a ≡ b) ↔ (a' ≡ b')
  equations a b first second = (λ h. sym first ∙ (h ∙ second), λ h. first ∙ (h ∙ sym second))

  -- one relation with one offset, between the same variables
  pub basic_same : (b c : Basic) → at_places b ≡ at_places c → SameVariables pairs (variables_of_basic b) (variables_of_basic c) → Holds b e ↔ Holds c d
  basic_same (Truth a) (Truth b) places same = equations (e.truth a) true (same_truth a b same.1) refl
  basic_same (Number x n) (Number y k) places same =
      let offset : n ≡ k = cc in equations (e.number x) n (same_number x y same.1) offset
  basic_same (Plus x y n) (Plus z w k) places same =
      let offset : n ≡ k = cc in
      let second = same_number y w same.2.1 in
      let sum : e.number y + n ≡ d.number w + k = omega arith in equations (e.number x) (e.number y + n) (same_number x z same.1) sum
  basic_same (Less x y) (Less z w) places same =
      let first = same_number x z same.1 in
      let second = same_number y w same.2.1 in (λ less. omega arith, λ less. omega arith)
  basic_same (Member x s) (Member y t) places same =
      let first = same_number x y same.1 in
      let second = same_set s t same.2.1 in
      along (λ b. b ≡ true) (is_member (e.number x) (e.set s)) (is_member (d.number y) (d.set t)) (ap (λ n. is_member n (e.set s)) first ∙ ap (is_member (d.number y)) second)
  basic_same (Sub s t) (Sub u v) places same =
      let first = same_set s u same.1 in
      let second = same_set t v same.2.1 in
      iff_then (along (λ l. IsSubset l (e.set t)) (e.set s) (d.set u) first) (along (λ l. IsSubset (d.set u) l) (e.set t) (d.set v) second)
  basic_same (Union s t u) (Union x y z) places same =
      equations (e.set s) (union_of (e.set t) (e.set u)) (same_set s x same.1) (of_two union_of (same_set t y same.2.1) (same_set u z same.2.2.1))
  basic_same (Inter s t u) (Inter x y z) places same =
      equations (e.set s) (intersection_of (e.set t) (e.set u)) (same_set s x same.1) (of_two intersection_of (same_set t y same.2.1) (same_set u z same.2.2.1))
  basic_same (Diff s t u) (Diff x y z) places same =
      equations (e.set s) (difference_of (e.set t) (e.set u)) (same_set s x same.1) (of_two difference_of (same_set t y same.2.1) (same_set u z same.2.2.1))
  basic_same (Up s t n) (Up u v k) places same =
      let offset : n ≡ k = cc in
      equations (e.set s) (part_within e.universe (moved_up n (e.set t))) (same_set s u same.1) (of_two part_within agree.universe (of_two moved_up offset (same_set t v same.2.1)))
  basic_same (Down s t n) (Down u v k) places same =
      let offset : n ≡ k = cc in equations (e.set s) (moved_down n (e.set t)) (same_set s u same.1) (of_two moved_down offset (same_set t v same.2.1))
  basic_same (Min x s) (Min y t) places same = equations (e.number x) (least (e.set s)) (same_number x y same.1) (ap least (same_set s t same.2.1))
  basic_same (Max x s) (Max y t) places same = equations (e.number x) (greatest (e.set s)) (same_number x y same.1) (ap greatest (same_set s t same.2.1))
  basic_same (Bits s n) (Bits t k) places same =
      let offset : n ≡ k = cc in
      equations (e.set s) (part_within e.universe (one_bits n)) (same_set s t same.1) (of_two part_within agree.universe (ap one_bits offset))
  basic_same b c places same = cc

-- agreement goes into a body, whose variable has one value in both
agree_inside : (o : Order) (x y : ℕ) (v : Value) (pairs : List BoundPair) (e d : Env) → IsValueOf o e.universe v → AgreeAlong pairs e d →
    AgreeAlong (record { order = o; left = x; right = y } ∷ pairs) (assign x v e) (assign y v d)
agree_inside o x y v pairs e d valid agree = record {
  universe = universe-assign x v e ∙ (agree.universe ∙ sym (universe-assign y v d));
  values = λ p z w same. by_test p z w (is_order o p) refl same;
}
  where
    differ : (p : Order) → is_order o p ≡ false → p ≡ order_of_value v → ⊥
    differ p failed same =
        let is : p ≡ o = same ∙ order_of_value_of o e.universe v valid in false≢true (sym failed ∙ (ap (is_order o) is ∙ is_order-itself o))

    by_test : (p : Order) (z w : ℕ) (b : Bool) → is_order o p ≡ b → MatchBool b (((z ≡ x) × (w ≡ y)) ⊎ ((z ≡ x → ⊥) × (w ≡ y → ⊥) × SameVariable pairs p z w)) (SameVariable pairs p z w) →
        value_at p z (assign x v e) ≡ value_at p w (assign y v d)
    by_test p z w true passed same =
        let is = is_order-of o p passed in
        let of_order : IsValueOf p e.universe v = subst (λ q. IsValueOf q e.universe v) is valid in
        ⊎_elim
        (λ both. ap (λ k. value_at p k (assign x v e)) both.0 ∙ (value_at-assign p x v e e.universe of_order ∙ (sym (value_at-assign p y v d e.universe of_order) ∙ ap (λ k. value_at p k (assign y v d)) (sym both.1))))
        (λ neither. value_at-assign_other p x v z e neither.0 ∙ (agree.values p z w neither.2 ∙ sym (value_at-assign_other p y v w d neither.1))) same
    by_test p z w false failed same =
        value_at-assign_not p x v z e (λ both. differ p failed both.1) ∙ (agree.values p z w same ∙ sym (value_at-assign_not p y v w d (λ both. differ p failed both.1)))

-- an import at the same variables
import_values : (vs : List Variable) (xs ys : List ℕ) (pairs : List BoundPair) (e d : Env) → length xs ≡ length ys → SameVariables pairs (variables_at xs vs) (variables_at ys vs) → AgreeAlong pairs e d →
    map (λ p. value_at p.1.order p.0 e) (zip xs vs) ≡ map (λ p. value_at p.1.order p.0 d) (zip ys vs)
import_values vs [] [] pairs e d lengths same agree = refl
import_values vs [] (y ∷ ys) pairs e d lengths same agree = absurd (omega (arith, lengths))
import_values vs (x ∷ xs) [] pairs e d lengths same agree = absurd (omega (arith, lengths))
import_values [] (x ∷ xs) (y ∷ ys) pairs e d lengths same agree = refl
import_values (v ∷ vs) (x ∷ xs) (y ∷ ys) pairs e d lengths same agree =
    of_two (λ first others. first ∷ others) (agree.values v.order x y same.1) (import_values vs xs ys pairs e d (omega (arith, lengths)) same.2 agree)

import_same : (found : Option Import) (xs ys : List ℕ) (pairs : List BoundPair) (e d : Env) → length xs ≡ length ys →
    SameVariables pairs (variables_at xs (variables_of_import found)) (variables_at ys (variables_of_import found)) → AgreeAlong pairs e d → answer_over found xs e ≡ answer_over found ys d
import_same None xs ys pairs e d lengths same agree = refl
import_same (Some found) xs ys pairs e d lengths same agree =
    of_two found.answer agree.universe (import_values found.variables xs ys pairs e d lengths same agree)

module _ (imports : List Import) where
  -- two core formulas, each at an environment, are Yes, No or Undefined alike
  abbrev pub HaveSameValue : CoreForm → Env → CoreForm → Env → Type 0
  HaveSameValue f e g d = (CoreYes imports f e ↔ CoreYes imports g d) × (CoreNo imports f e ↔ CoreNo imports g d)

  record EachSame (fs gs : CoreForms) (e d : Env) : Type 0 where
    pub all_yes : AllCoreYes imports fs e ↔ AllCoreYes imports gs d
    pub all_no : AllCoreNo imports fs e ↔ AllCoreNo imports gs d
    pub all_defined : AllCoreDefined imports fs e ↔ AllCoreDefined imports gs d
    pub some_yes : SomeCoreYes imports fs e ↔ SomeCoreYes imports gs d
    pub some_no : SomeCoreNo imports fs e ↔ SomeCoreNo imports gs d

  module _ (o : Order) (x y : ℕ) (c b : CoreRestriction) (f g : CoreForm) (pairs : List BoundPair) (e d : Env) (agree : AgreeAlong pairs e d) where
    abbrev Here : Value → Type 0
    Here v = IsValueOf o e.universe v × IsCoreMet imports c (assign x v e)

    abbrev There : Value → Type 0
    There v = IsValueOf o d.universe v × IsCoreMet imports b (assign y v d)

    -- a quantifier has one value where its body and its restriction have, at each value
    quantifier_same : (q : Quant) → ((v : Value) → IsValueOf o e.universe v → HaveSameValue f (assign x v e) g (assign y v d)) →
        ((v : Value) → IsValueOf o e.universe v → IsCoreMet imports c (assign x v e) ↔ IsCoreMet imports b (assign y v d)) →
        HaveSameValue (quantified q o x c f) e (quantified q o y b g) d
    quantifier_same q body met = by_quantifier q
      where
        ranges : (v : Value) → Here v ↔ There v
        ranges v = (
          λ here. (valid_along o e.universe d.universe v agree.universe here.0, (met v here.0).0 here.1),
          λ there. let valid = valid_along o d.universe e.universe v (sym agree.universe) there.0 in (valid, (met v valid).1 there.1),
        )

        by_quantifier : (q : Quant) → HaveSameValue (quantified q o x c f) e (quantified q o y b g) d
        by_quantifier Ex = (
          kept_some Here There (λ v. CoreYes imports f (assign x v e)) (λ v. CoreYes imports g (assign y v d)) ranges (λ v here. (body v here.0).0),
          kept_none_or Here There (λ v. CoreYes imports f (assign x v e)) (λ v. CoreNo imports f (assign x v e)) (λ v. CoreYes imports g (assign y v d)) (λ v. CoreNo imports g (assign y v d)) ranges (λ v here. (body v here.0).0) (λ v here. (body v here.0).1),
        )
        by_quantifier All = (
          kept_none_or Here There (λ v. CoreNo imports f (assign x v e)) (λ v. CoreYes imports f (assign x v e)) (λ v. CoreNo imports g (assign y v d)) (λ v. CoreYes imports g (assign y v d)) ranges (λ v here. (body v here.0).1) (λ v here. (body v here.0).0),
          kept_some Here There (λ v. CoreNo imports f (assign x v e)) (λ v. CoreNo imports g (assign y v d)) ranges (λ v here. (body v here.0).1),
        )

  mutual
    pub same_value : (f g : CoreForm) (pairs : List BoundPair) (e d : Env) → SameUnder imports pairs f g → AgreeAlong pairs e d → HaveSameValue f e g d
    same_value truth truth pairs e d same agree = ((λ h. h, λ h. h), (λ h. h, λ h. h))
    same_value falsity falsity pairs e d same agree = ((λ h. h, λ h. h), (λ h. h, λ h. h))
    same_value (basic b) (basic c) pairs e d same agree =
        let both = basic_same pairs e d agree b c same.0 same.1 in (both, (λ fails holds. fails (both.1 holds), λ fails holds. fails (both.0 holds)))
    same_value (negation f) (negation g) pairs e d same agree = let inner = same_value f g pairs e d same agree in (inner.1, inner.0)
    same_value (conjunction fs) (conjunction gs) pairs e d same agree =
        let each = same_each fs gs pairs e d same agree in (each.all_yes, iff_both each.all_defined each.some_no)
    same_value (disjunction fs) (disjunction gs) pairs e d same agree =
        let each = same_each fs gs pairs e d same agree in (iff_both each.all_defined each.some_yes, each.all_no)
    same_value (implication f h) (implication g k) pairs e d same agree =
        let first = same_value f g pairs e d same.0 agree in
        let second = same_value h k pairs e d same.1 agree in
        (iff_three (iff_either first.0 first.1) (iff_either second.0 second.1) (iff_either first.1 second.0), iff_both first.0 second.1)
    same_value (equivalence f h) (equivalence g k) pairs e d same agree =
        let first = same_value f g pairs e d same.0 agree in
        let second = same_value h k pairs e d same.1 agree in
        (iff_either (iff_both first.0 second.0) (iff_both first.1 second.1), iff_either (iff_both first.0 second.1) (iff_both first.1 second.0))
    same_value (restrict f) (restrict g) pairs e d same agree = let inner = same_value f g pairs e d same agree in (inner.0, (λ h. h, λ h. h))
    same_value (imported i xs) (imported j ys) pairs e d same agree =
        let here = import_same (slice_get imports i) xs ys pairs e d same.1 same.2 agree in
        let there = here ∙ ap (λ k. answer_over (slice_get imports k) ys d) same.0 in
        ((λ h. sym there ∙ h, λ h. there ∙ h), (λ h. sym there ∙ h, λ h. there ∙ h))
    same_value (quantified q o x c f) (quantified r p y b g) pairs e d same agree =
        let inside : List BoundPair = record { order = o; left = x; right = y } ∷ pairs in
        let kept = quantifier_same o x y c b f g pairs e d agree q
        (λ v valid. same_value f g inside (assign x v e) (assign y v d) same.3 (agree_inside o x y v pairs e d valid agree))
        (λ v valid. same_met c b inside (assign x v e) (assign y v d) same.2 (agree_inside o x y v pairs e d valid agree)) in
        subst (λ k. HaveSameValue (quantified q o x c f) e (quantified k p y b g) d) same.0 (subst (λ k. HaveSameValue (quantified q o x c f) e (quantified q k y b g) d) same.1 kept)
    same_value _ _ pairs e d same agree = absurd same

    same_each : (fs gs : CoreForms) (pairs : List BoundPair) (e d : Env) → SameEach imports pairs fs gs → AgreeAlong pairs e d → EachSame fs gs e d
    same_each no_forms no_forms pairs e d same agree = record {
      all_yes = (λ h. h, λ h. h);
      all_no = (λ h. h, λ h. h);
      all_defined = (λ h. h, λ h. h);
      some_yes = (λ h. h, λ h. h);
      some_no = (λ h. h, λ h. h);
    }
    same_each no_forms (more_forms g gs) pairs e d same agree = absurd same
    same_each (more_forms f fs) no_forms pairs e d same agree = absurd same
    same_each (more_forms f fs) (more_forms g gs) pairs e d same agree =
        let first = same_value f g pairs e d same.0 agree in
        let others = same_each fs gs pairs e d same.1 agree in
        record {
          all_yes = iff_both first.0 others.all_yes;
          all_no = iff_both first.1 others.all_no;
          all_defined = iff_both (iff_either first.0 first.1) others.all_defined;
          some_yes = iff_either first.0 others.some_yes;
          some_no = iff_either first.1 others.some_no;
        }

    same_met : (c b : CoreRestriction) (pairs : List BoundPair) (e d : Env) → SameRestriction imports pairs c b → AgreeAlong pairs e d → IsCoreMet imports c e ↔ IsCoreMet imports b d
    same_met unrestricted unrestricted pairs e d same agree = (λ h. h, λ h. h)
    same_met unrestricted (restricted b) pairs e d same agree = absurd same
    same_met (restricted c) unrestricted pairs e d same agree = absurd same
    same_met (restricted c) (restricted b) pairs e d same agree = (same_value c b pairs e d same agree).0
