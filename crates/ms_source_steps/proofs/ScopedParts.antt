-- Formulas that stand in a scope whose variables are apart are over their free variables, and over those inside a quantifier.
use Rattle.std.proofs.Common.{inl, inr, ⊎_elim, List, [], ◌∷◌, Contains, sym, ap, ◌∙◌, arith}
use Rattle.ms_dag_steps.proofs.FreeLemmas.{free_rise}
use Rattle.ms_dag_steps.proofs.JoinedLemmas.{Rise, joined_rise, joined_there}
use Rattle.ms_logic.specs.Assignment.{Variable}
use Rattle.ms_logic.specs.Lists.{IsAmong}
use Rattle.ms_logic.specs.Truth.{Import}
use Rattle.ms_logic.specs.declared.mode.Mode.{Mode}
use Rattle.ms_logic_core.specs.CoreForm.{CoreForm, CoreRestriction, unrestricted, restricted}
use Rattle.ms_logic_core.specs.Stands.{RestrictionStands, Stands}
use Rattle.ms_logic_readers.specs.Scoped.{AreDistinct}
use Rattle.ms_logic_contents.proofs.Covers.{among-contains, contains-among}
use Rattle.ms_logic_measures.specs.Budgets.{variables_inside}
use Rattle.ms_logic_measures.specs.Steps.{free_variables, free_variables_in, joined}
use Rattle.ms_source_steps.proofs.Measured.{IsScoped, IsScopedRestriction}
use Rattle.ms_source_steps.proofs.Over.{stands_over}
use Rattle.ms_source_steps.proofs.Scopes.{AreApart, free_in_scope, in_right, narrow, restriction_in_scope}

rise_distinct : (vs : List Variable) → Rise vs → AreDistinct vs
rise_distinct [] rise = tt
rise_distinct (v ∷ vs) rise = (λ w among same. (let above = rise.0 w (among-contains vs w among) in omega (arith, above, same)), rise_distinct vs rise.1)

-- variables with different numbers are apart
pub distinct_apart : (vs : List Variable) → AreDistinct vs → AreApart vs
distinct_apart [] distinct u v first second same = absurd first
distinct_apart (w ∷ vs) distinct u v (inl one) (inl other) same = sym one ∙ other
distinct_apart (w ∷ vs) distinct u v (inl one) (inr other) same = absurd (distinct.0 v other (sym same ∙ sym (ap (λ (t : Variable). t.name) one)))
distinct_apart (w ∷ vs) distinct u v (inr one) (inl other) same = absurd (distinct.0 u one (same ∙ sym (ap (λ (t : Variable). t.name) other)))
distinct_apart (w ∷ vs) distinct u v (inr one) (inr other) same = distinct_apart vs distinct.1 u v one other same

module _ (imports : List Import) where
  -- a formula is over each list of variables in scope that has its free ones
  narrowed_over : (f : CoreForm) (scope vs : List Variable) → AreApart scope → Stands imports scope f → Rise vs → ((v : Variable) → IsAmong vs v → IsAmong scope v)
      → ((v : Variable) → Contains (free_variables imports f) v → Contains vs v) → IsScoped imports vs f
  narrowed_over f scope vs apart stands rise inside free = (
    rise_distinct vs rise,
    stands_over imports f vs vs (narrow imports f scope vs apart stands inside (λ v there. contains-among vs v (free v there))) (λ v among. among),
  )

  pub own_scoped : (f : CoreForm) (scope : List Variable) → AreApart scope → Stands imports scope f → IsScoped imports (free_variables imports f) f
  own_scoped f scope apart stands =
      narrowed_over f scope (free_variables imports f) apart stands (free_rise imports f)
      (λ v among. free_in_scope imports f scope stands v (among-contains (free_variables imports f) v among)) (λ v there. there)

  pub restriction_scoped : (d : CoreRestriction) (scope : List Variable) → AreApart scope → RestrictionStands imports scope d → IsScopedRestriction imports d
  restriction_scoped unrestricted scope apart stands = tt
  restriction_scoped (restricted d) scope apart stands = own_scoped d scope apart stands

  module _ (mode : Mode) (x : Variable) (d : CoreRestriction) (f : CoreForm) (scope : List Variable) where
    abbrev wide : List Variable
    wide = x ∷ scope

    abbrev range : List Variable
    range = free_variables_in imports d

    abbrev body : List Variable
    body = free_variables imports f

    pub inside_distinct : AreDistinct (variables_inside imports mode x d f)
    inside_distinct = rise_distinct (joined (x ∷ []) (joined range body)) (joined_rise (x ∷ []) (joined range body) (joined_rise range body (free_rise imports f)))

    module _ (apart : AreApart (x ∷ scope)) (of_range : RestrictionStands imports (x ∷ scope) d) (of_body : Stands imports (x ∷ scope) f) where
      bound_in : (v : Variable) → Contains (x ∷ []) v → IsAmong wide v
      bound_in v there = ⊎_elim (λ same. inl same) (λ never. absurd never) (contains-among (x ∷ []) v there)

      both_in : (v : Variable) → Contains (joined range body) v → IsAmong wide v
      both_in v there = ⊎_elim (restriction_in_scope imports d wide of_range v) (free_in_scope imports f wide of_body v) (joined_there range body v there)

      all_in : (v : Variable) → IsAmong (joined (x ∷ []) (joined range body)) v → IsAmong wide v
      all_in v among =
          ⊎_elim (bound_in v) (both_in v) (joined_there (x ∷ []) (joined range body) v (among-contains (joined (x ∷ []) (joined range body)) v among))

      pub inside_scoped : IsScoped imports (variables_inside imports mode x d f) f
      inside_scoped =
          narrowed_over f wide (joined (x ∷ []) (joined range body)) apart of_body
          (joined_rise (x ∷ []) (joined range body) (joined_rise range body (free_rise imports f))) all_in
          (λ v there.
          in_right wide apart (x ∷ []) (joined range body) bound_in both_in v
          (in_right wide apart range body (restriction_in_scope imports d wide of_range) (free_in_scope imports f wide of_body) v there))
