-- A core formula has one value under imports that answer alike.
use Rattle.std.proofs.Common.{◌≡◌, ℕ, ◌<◌, ◌↔◌, List, [], ◌∷◌, slice_get, ⊎_elim, sym, ◌∙◌, subst, arith}
use Rattle.ms_logic.specs.declared.mode.Mode.{Mode}
use Rattle.ms_logic.specs.declared.mode.Order.{Order}
use Rattle.ms_logic.specs.declared.mode.Quant.{Quant}
use Rattle.ms_logic.specs.declared.mode.Quant.TheVariants.{Ex, All}
use Rattle.ms_logic.specs.declared.assignment.Value.{Value}
use Rattle.ms_logic.specs.Assignment.{Env, Variable, assign, value_at, IsUniverseOf, IsValueOf}
use Rattle.ms_logic_core.specs.CoreForm.{CoreForm, truth, falsity, basic, negation, conjunction, disjunction, implication, equivalence, restrict, imported, quantified, CoreForms, no_forms, more_forms, CoreRestriction, unrestricted, restricted, CoreYes, CoreNo, AllCoreYes, AllCoreNo, AllCoreDefined, SomeCoreYes, SomeCoreNo, IsCoreMet}
use Rattle.ms_logic_core.specs.Spread.{variables_of_import}
use Rattle.ms_logic_core.specs.Operands.{variables_at}
use Rattle.ms_logic.specs.Truth.{Import}
use Rattle.ms_logic.proofs.Agreement.{universe-assign}
use Rattle.ms_logic.proofs.AssignedValues.{value_at-assign, value_at-assign_other}
use Rattle.ms_logic_core.specs.Stands.{Stands, EachStands, RestrictionStands}
use Rattle.ms_logic.specs.Lists.{Each, IsAmong}
use Rattle.ms_logic_spread.proofs.Equivalences.{iff_both, iff_either, iff_itself, iff_three, kept_none_or, kept_some}
use Rattle.ms_build_source.specs.inner.Asked.{AnswerAlike, HasValueIn}

-- an environment that has a universe of the mode, and values of the variables in scope
pub record IsIn (mode : Mode) (scope : List Variable) (e : Env) : Type 0 where
  pub universe : IsUniverseOf mode e.universe
  pub values : (v : Variable) → IsAmong scope v → HasValueIn e v

-- what stands in scope has a value
values_among : (scope : List Variable) (e : Env) (vs : List Variable) → ((v : Variable) → IsAmong scope v → HasValueIn e v) → Each (IsAmong scope) vs → Each (HasValueIn e) vs
values_among scope e [] have among = tt
values_among scope e (v ∷ vs) have among = (have v among.0, values_among scope e vs have among.1)

-- each variable in scope has the property
among_each : (P : Variable → Type 0) (scope : List Variable) → Each P scope → (v : Variable) → IsAmong scope v → P v
among_each P [] each v among = absurd among
among_each P (w ∷ ws) each v among = ⊎_elim (λ here. subst P here each.0) (λ later. among_each P ws each.1 v later) among

-- a greater variable with a value of its order comes into scope
inside : (mode : Mode) (scope : List Variable) (x : ℕ) (o : Order) (v : Value) (e : Env) → Each (λ w. w.name < x) scope → IsValueOf o e.universe v → IsIn mode scope e
    → IsIn mode (record { name = x; order = o } ∷ scope) (assign x v e)
inside mode scope x o v e above valid is = record {
  universe = subst (IsUniverseOf mode) (sym (universe-assign x v e)) is.universe;
  values = λ w among. ⊎_elim
      (λ here. subst (HasValueIn (assign x v e)) here
      (subst (λ value. IsValueOf o (assign x v e).universe value) (sym (value_at-assign o x v e e.universe valid)) (subst (λ u. IsValueOf o u v) (sym (universe-assign x v e)) valid)))
      (λ outer.
      let less : w.name < x = among_each (λ u. u.name < x) scope above w outer in
      let same : value_at w.order w.name (assign x v e) ≡ value_at w.order w.name e = value_at-assign_other w.order x v w.name e (λ is_x. omega (arith, less, is_x)) in
      subst (λ value. IsValueOf w.order (assign x v e).universe value) (sym same) (subst (λ u. IsValueOf w.order u (value_at w.order w.name e)) (sym (universe-assign x v e)) (is.values w outer)))
      among;
}

module _ (mode : Mode) (first second : List Import) (alike : AnswerAlike mode first second) where
  -- Yes, No or Undefined alike
  abbrev HaveOneValue : CoreForm → Env → Type 0
  HaveOneValue f e = (CoreYes first f e ↔ CoreYes second f e) × (CoreNo first f e ↔ CoreNo second f e)

  record EachHasOne (fs : CoreForms) (e : Env) : Type 0 where
    pub all_yes : AllCoreYes first fs e ↔ AllCoreYes second fs e
    pub all_no : AllCoreNo first fs e ↔ AllCoreNo second fs e
    pub all_defined : AllCoreDefined first fs e ↔ AllCoreDefined second fs e
    pub some_yes : SomeCoreYes first fs e ↔ SomeCoreYes second fs e
    pub some_no : SomeCoreNo first fs e ↔ SomeCoreNo second fs e

  module _ (o : Order) (x : ℕ) (d : CoreRestriction) (f : CoreForm) (e : Env) where
    abbrev Here : Value → Type 0
    Here v = IsValueOf o e.universe v × IsCoreMet first d (assign x v e)

    abbrev There : Value → Type 0
    There v = IsValueOf o e.universe v × IsCoreMet second d (assign x v e)

    quantifier_has_one : (q : Quant) → ((v : Value) → IsValueOf o e.universe v → HaveOneValue f (assign x v e))
        → ((v : Value) → IsValueOf o e.universe v → IsCoreMet first d (assign x v e) ↔ IsCoreMet second d (assign x v e))
        → HaveOneValue (quantified q o x d f) e
    quantifier_has_one q body met = by_quantifier q
      where
        ranges : (v : Value) → Here v ↔ There v
        ranges v = (λ here. (here.0, (met v here.0).0 here.1), λ there. (there.0, (met v there.0).1 there.1))

        by_quantifier : (q : Quant) → HaveOneValue (quantified q o x d f) e
        by_quantifier Ex = (
          kept_some Here There (λ v. CoreYes first f (assign x v e)) (λ v. CoreYes second f (assign x v e)) ranges (λ v here. (body v here.0).0),
          kept_none_or Here There (λ v. CoreYes first f (assign x v e)) (λ v. CoreNo first f (assign x v e)) (λ v. CoreYes second f (assign x v e)) (λ v. CoreNo second f (assign x v e)) ranges (λ v here. (body v here.0).0) (λ v here. (body v here.0).1),
        )
        by_quantifier All = (
          kept_none_or Here There (λ v. CoreNo first f (assign x v e)) (λ v. CoreYes first f (assign x v e)) (λ v. CoreNo second f (assign x v e)) (λ v. CoreYes second f (assign x v e)) ranges (λ v here. (body v here.0).1) (λ v here. (body v here.0).0),
          kept_some Here There (λ v. CoreNo first f (assign x v e)) (λ v. CoreNo second f (assign x v e)) ranges (λ v here. (body v here.0).1),
        )

  mutual
    pub one_value : (f : CoreForm) (scope : List Variable) (e : Env) → Stands first scope f → IsIn mode scope e → HaveOneValue f e
    one_value truth scope e stands is = (iff_itself Unit, iff_itself ⊥)
    one_value falsity scope e stands is = (iff_itself ⊥, iff_itself Unit)
    one_value (basic b) scope e stands is = ((λ h. h, λ h. h), (λ h. h, λ h. h))
    one_value (negation f) scope e stands is = let inner = one_value f scope e stands is in (inner.1, inner.0)
    one_value (conjunction fs) scope e stands is = let each = each_has_one fs scope e stands is in (each.all_yes, iff_both each.all_defined each.some_no)
    one_value (disjunction fs) scope e stands is = let each = each_has_one fs scope e stands is in (iff_both each.all_defined each.some_yes, each.all_no)
    one_value (implication f g) scope e stands is =
        let left = one_value f scope e stands.0 is in
        let right = one_value g scope e stands.1 is in
        (iff_three (iff_either left.0 left.1) (iff_either right.0 right.1) (iff_either left.1 right.0), iff_both left.0 right.1)
    one_value (equivalence f g) scope e stands is =
        let left = one_value f scope e stands.0 is in
        let right = one_value g scope e stands.1 is in
        (iff_either (iff_both left.0 right.0) (iff_both left.1 right.1), iff_either (iff_both left.0 right.1) (iff_both left.1 right.0))
    one_value (restrict f) scope e stands is = let inner = one_value f scope e stands is in (inner.0, (λ h. h, λ h. h))
    one_value (imported i xs) scope e stands is =
        let same = alike i xs e is.universe stands.0 (values_among scope e (variables_at xs (variables_of_import (slice_get first i))) is.values stands.1) in
        ((λ h. sym same ∙ h, λ h. same ∙ h), (λ h. sym same ∙ h, λ h. same ∙ h))
    one_value (quantified q o x d f) scope e stands is =
        quantifier_has_one o x d f e q
        (λ v valid. one_value f (record { name = x; order = o } ∷ scope) (assign x v e) stands.2 (inside mode scope x o v e stands.0 valid is))
        (λ v valid. one_range d (record { name = x; order = o } ∷ scope) (assign x v e) stands.1 (inside mode scope x o v e stands.0 valid is))

    each_has_one : (fs : CoreForms) (scope : List Variable) (e : Env) → EachStands first scope fs → IsIn mode scope e → EachHasOne fs e
    each_has_one no_forms scope e stands is = record {
      all_yes = (λ h. h, λ h. h);
      all_no = (λ h. h, λ h. h);
      all_defined = (λ h. h, λ h. h);
      some_yes = (λ h. h, λ h. h);
      some_no = (λ h. h, λ h. h);
    }
    each_has_one (more_forms f fs) scope e stands is =
        let one = one_value f scope e stands.0 is in
        let others = each_has_one fs scope e stands.1 is in
        record {
          all_yes = iff_both one.0 others.all_yes;
          all_no = iff_both one.1 others.all_no;
          all_defined = iff_both (iff_either one.0 one.1) others.all_defined;
          some_yes = iff_either one.0 others.some_yes;
          some_no = iff_either one.1 others.some_no;
        }

    one_range : (d : CoreRestriction) (scope : List Variable) (e : Env) → RestrictionStands first scope d → IsIn mode scope e → IsCoreMet first d e ↔ IsCoreMet second d e
    one_range unrestricted scope e stands is = (λ h. h, λ h. h)
    one_range (restricted d) scope e stands is = (one_value d scope e stands is).0
