-- A formula whose variables stand in a scope is over each list that has the variables of the scope.
use Rattle.std.proofs.Common.{ℕ, ◌<◌, inl, inr, List, [], ◌∷◌, subst, slice_get, arith}
use Rattle.ms_logic.specs.Assignment.{Variable}
use Rattle.ms_logic.specs.Lists.{Each, IsAmong, without}
use Rattle.ms_logic.specs.Truth.{Import}
use Rattle.ms_logic.specs.declared.mode.Order.{Order}
use Rattle.ms_logic_core.specs.CoreForm.{CoreForm, truth, falsity, basic, negation, conjunction, disjunction, implication, equivalence, restrict, imported, quantified, CoreForms, no_forms, more_forms, CoreRestriction, unrestricted, restricted}
use Rattle.ms_logic_core.specs.Operands.{variable, variables_at, variables_of_basic}
use Rattle.ms_logic_core.specs.Spread.{variables_of_import}
use Rattle.ms_logic_core.specs.Stands.{EachStands, RestrictionStands, Stands}
use Rattle.ms_logic_readers.specs.Scoped.{AreOver, IsOver, IsRestrictionOver, with_bound}
use Rattle.ms_logic_readers.proofs.Others.{among-left, among-right, without-among}

each_among : (P : Variable → Type 0) (vs : List Variable) → Each P vs → (v : Variable) → IsAmong vs v → P v
each_among P [] each v among = absurd among
each_among P (w ∷ vs) each v (inl same) = subst P same each.0
each_among P (w ∷ vs) each v (inr there) = each_among P vs each.1 v there

-- a list that has a scope, with a bound variable behind it, has the scope with that variable
with_scope : (x : ℕ) (o : Order) (scope variables : List Variable) → Each (λ (v : Variable). v.name < x) scope → ((v : Variable) → IsAmong scope v → IsAmong variables v)
    → (v : Variable) → IsAmong (variable x o ∷ scope) v → IsAmong (with_bound variables (variable x o)) v
with_scope x o scope variables below has v (inl same) = among-right (without x variables) (variable x o ∷ []) v (inl same)
with_scope x o scope variables below has v (inr there) =
    let less = each_among (λ (w : Variable). w.name < x) scope below v there in
    among-left (without x variables) (variable x o ∷ []) v (without-among x variables v (has v there) (λ same. omega (arith, less, same)))

module _ (imports : List Import) where
  mutual
    pub stands_over : (f : CoreForm) (scope variables : List Variable) → Stands imports scope f → ((v : Variable) → IsAmong scope v → IsAmong variables v) → IsOver imports variables f
    stands_over truth scope variables stands has = tt
    stands_over falsity scope variables stands has = tt
    stands_over (basic b) scope variables stands has = λ v among. has v (each_among (IsAmong scope) (variables_of_basic b) stands v among)
    stands_over (negation f) scope variables stands has = stands_over f scope variables stands has
    stands_over (conjunction fs) scope variables stands has = each_stands_over fs scope variables stands has
    stands_over (disjunction fs) scope variables stands has = each_stands_over fs scope variables stands has
    stands_over (implication f g) scope variables stands has = (stands_over f scope variables stands.0 has, stands_over g scope variables stands.1 has)
    stands_over (equivalence f g) scope variables stands has = (stands_over f scope variables stands.0 has, stands_over g scope variables stands.1 has)
    stands_over (restrict f) scope variables stands has = stands_over f scope variables stands has
    stands_over (imported i xs) scope variables stands has =
        (stands.0, λ v among. has v (each_among (IsAmong scope) (variables_at xs (variables_of_import (slice_get imports i))) stands.1 v among))
    stands_over (quantified q o x d f) scope variables stands has =
        let inner = with_scope x o scope variables stands.0 has in (
          restriction_stands_over d (variable x o ∷ scope) (with_bound variables (variable x o)) stands.1 inner,
          stands_over f (variable x o ∷ scope) (with_bound variables (variable x o)) stands.2 inner,
        )

    each_stands_over : (fs : CoreForms) (scope variables : List Variable) → EachStands imports scope fs → ((v : Variable) → IsAmong scope v → IsAmong variables v) → AreOver imports variables fs
    each_stands_over no_forms scope variables stands has = tt
    each_stands_over (more_forms f fs) scope variables stands has = (stands_over f scope variables stands.0 has, each_stands_over fs scope variables stands.1 has)

    restriction_stands_over : (d : CoreRestriction) (scope variables : List Variable) → RestrictionStands imports scope d → ((v : Variable) → IsAmong scope v → IsAmong variables v)
        → IsRestrictionOver imports variables d
    restriction_stands_over unrestricted scope variables stands has = tt
    restriction_stands_over (restricted d) scope variables stands has = stands_over d scope variables stands has
