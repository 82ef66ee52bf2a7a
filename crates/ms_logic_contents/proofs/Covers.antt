-- The free variables of a core formula over a list are in the list.
use Rattle.std.proofs.Common.{◌≡◌, ◌==◌, nat_lt, cond, Bool, true, false, ◌⊎◌, inl, inr, ⊎_elim, List, [], ◌∷◌, slice_get, Contains, sym, ap, subst}
use Rattle.ms_diagram.proofs.ListLemmas.{Contains-cases, Contains-first, Contains-none, Contains-rest}
use Rattle.ms_logic.specs.Assignment.{Variable}
use Rattle.ms_logic.specs.Lists.{IsAmong, without}
use Rattle.ms_logic.specs.Truth.{Import}
use Rattle.ms_logic_core.specs.CoreForm.{CoreForm, CoreForms, CoreRestriction, basic, conjunction, disjunction, equivalence, falsity, implication, imported, more_forms, negation, no_forms, quantified, restrict, restricted, truth, unrestricted}
use Rattle.ms_logic_core.specs.Operands.{variable, variables_at, variables_of_basic}
use Rattle.ms_logic_core.specs.Spread.{variables_of_import}
use Rattle.ms_logic_measures.specs.Steps.{free_variables, free_variables_among, free_variables_in, joined, with_variable}
use Rattle.ms_logic_readers.specs.Scoped.{AreOver, IsOver, IsRestrictionOver, with_bound}
use Rattle.ms_logic_readers.proofs.Others.{among-append, among-without}

pub among-contains : (vs : List Variable) (v : Variable) → IsAmong vs v → Contains vs v
among-contains [] v among = absurd among
among-contains (w ∷ vs) v among = ⊎_elim (λ same. subst (Contains (w ∷ vs)) same (Contains-first w vs)) (λ later. Contains-rest w vs v (among-contains vs v later)) among

pub contains-among : (vs : List Variable) (v : Variable) → Contains vs v → IsAmong vs v
contains-among [] v there = absurd (Contains-none v there)
contains-among (w ∷ vs) v there = ⊎_elim (λ same. inl (sym same)) (λ later. inr (contains-among vs v later)) (Contains-cases w vs v there)

inserted-among : (u : Variable) (ws : List Variable) (v : Variable) → IsAmong (with_variable u ws) v → (u ≡ v) ⊎ IsAmong ws v
inserted-among u [] v among = ⊎_elim (λ same. inl same) (λ never. absurd never) among
inserted-among u (w ∷ ws) v among = by-tests (nat_lt u.name w.name) (u.name == w.name) among (λ later. inserted-among u ws v later)
  where
    by-tests : (a b : Bool) → IsAmong (cond a (u ∷ (w ∷ ws)) (cond b (w ∷ ws) (w ∷ with_variable u ws))) v → (IsAmong (with_variable u ws) v → (u ≡ v) ⊎ IsAmong ws v) → (u ≡ v) ⊎ IsAmong (w ∷ ws) v
    by-tests true b there more = there
    by-tests false true there more = inr there
    by-tests false false there more = ⊎_elim (λ same. inr (inl same)) (λ later. ⊎_elim (λ own. inl own) (λ rest. inr (inr rest)) (more later)) there

pub joined-among : (vs ws : List Variable) (v : Variable) → IsAmong (joined vs ws) v → IsAmong vs v ⊎ IsAmong ws v
joined-among [] ws v among = inr among
joined-among (u ∷ vs) ws v among =
    ⊎_elim (λ own. inl (inl own)) (λ rest. ⊎_elim (λ left. inl (inr left)) (λ right. inr right) (joined-among vs ws v rest)) (inserted-among u (joined vs ws) v among)

module _ (imports : List Import) where
  mutual
    pub free-among : (f : CoreForm) (variables : List Variable) → IsOver imports variables f → (v : Variable) → IsAmong (free_variables imports f) v → IsAmong variables v
    free-among truth variables over v among = absurd among
    free-among falsity variables over v among = absurd among
    free-among (basic b) variables over v among = ⊎_elim (over v) (λ never. absurd never) (joined-among (variables_of_basic b) [] v among)
    free-among (negation f) variables over v among = free-among f variables over v among
    free-among (conjunction fs) variables over v among = free-among-all fs variables over v among
    free-among (disjunction fs) variables over v among = free-among-all fs variables over v among
    free-among (implication f g) variables over v among =
        ⊎_elim (free-among f variables over.0 v) (free-among g variables over.1 v) (joined-among (free_variables imports f) (free_variables imports g) v among)
    free-among (equivalence f g) variables over v among =
        ⊎_elim (free-among f variables over.0 v) (free-among g variables over.1 v) (joined-among (free_variables imports f) (free_variables imports g) v among)
    free-among (restrict f) variables over v among = free-among f variables over v among
    free-among (imported i xs) variables over v among =
        ⊎_elim (over.1 v) (λ never. absurd never) (joined-among (variables_at xs (variables_of_import (slice_get imports i))) [] v among)
    free-among (quantified q o x d f) variables over v among =
        let inside = among-without x (joined (free_variables_in imports d) (free_variables imports f)) v among in
        let there = ⊎_elim (free-among-in d (with_bound variables (variable x o)) over.0 v) (free-among f (with_bound variables (variable x o)) over.1 v)
        (joined-among (free_variables_in imports d) (free_variables imports f) v inside.0) in
        ⊎_elim (λ other. (among-without x variables v other).0) (λ own. ⊎_elim (λ same. absurd (inside.1 (sym (ap (λ (u : Variable). u.name) same)))) (λ never. absurd never) own)
        (among-append (without x variables) (variable x o ∷ []) v there)

    free-among-all : (fs : CoreForms) (variables : List Variable) → AreOver imports variables fs → (v : Variable) → IsAmong (free_variables_among imports fs) v → IsAmong variables v
    free-among-all no_forms variables over v among = absurd among
    free-among-all (more_forms f fs) variables over v among =
        ⊎_elim (free-among f variables over.0 v) (free-among-all fs variables over.1 v) (joined-among (free_variables imports f) (free_variables_among imports fs) v among)

    free-among-in : (d : CoreRestriction) (variables : List Variable) → IsRestrictionOver imports variables d → (v : Variable) → IsAmong (free_variables_in imports d) v → IsAmong variables v
    free-among-in unrestricted variables over v among = absurd among
    free-among-in (restricted d) variables over v among = free-among d variables over v among
