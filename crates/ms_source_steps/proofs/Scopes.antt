-- The scope in which a core formula stands may be narrowed to what has its free variables.
use Rattle.std.proofs.Common.{◌≡◌, ℕ, ◌<◌, ◌<◌, inl, inr, ⊎_elim, List, [], ◌∷◌, Contains, map, slice_get, slice_index, Some, suc, sym, ap, subst, ◌∙◌, refl, arith}
use Rattle.std.specs.List.Sorted.{IsStrictlyIncreasing}
use Rattle.std.specs.Option.{option_map}
use Rattle.std.proofs.lemmas.Bool.{cases_eq, cases_lt}
use Rattle.std.proofs.lemmas.List.{length-map}
use Rattle.std.proofs.lemmas.List.Kept.{AllPairs-from_increasing}
use Rattle.std.proofs.lemmas.Option.{same_Some, slice_get-get_or, slice_get-map, slice_get_within}
use Rattle.ms_dag_steps.proofs.JoinedLemmas.{IsNamed, joined_left, joined_right, joined_there, named, without_named, without_there}
use Rattle.ms_diagram.proofs.ListLemmas.{Contains-cases, Contains-first, Contains-none, Contains-rest}
use Rattle.ms_diagram.proofs.RootLemmas.{Contains-from_mapped}
use Rattle.ms_logic.specs.Assignment.{Variable}
use Rattle.ms_logic.specs.Lists.{Each, IsAmong}
use Rattle.ms_logic.specs.Truth.{Import}
use Rattle.ms_logic.specs.declared.mode.Order.{Order}
use Rattle.ms_logic_core.specs.CoreForm.{CoreForm, truth, falsity, basic, negation, conjunction, disjunction, implication, equivalence, restrict, imported, quantified, CoreForms, no_forms, more_forms, CoreRestriction, unrestricted, restricted}
use Rattle.ms_logic_core.specs.Operands.{variable, variables_at, variables_of_basic}
use Rattle.ms_logic_core.specs.Spread.{variables_of_import}
use Rattle.ms_logic_core.specs.Stands.{EachStands, RestrictionStands, Stands}
use Rattle.ms_logic_measures.specs.Steps.{free_variables, free_variables_among, free_variables_in, joined}

-- what holds of each of a list, and of each that it contains
pub contained_each : (P : Variable → Type 0) (vs : List Variable) → Each P vs → (v : Variable) → Contains vs v → P v
contained_each P [] each v there = absurd (Contains-none v there)
contained_each P (w ∷ vs) each v there = ⊎_elim (λ first. subst P (sym first) each.0) (λ later. contained_each P vs each.1 v later) (Contains-cases w vs v there)

pub each_contained : (P : Variable → Type 0) (vs : List Variable) → ((v : Variable) → Contains vs v → P v) → Each P vs
each_contained P [] each = tt
each_contained P (w ∷ vs) each = (each w (Contains-first w vs), each_contained P vs (λ v there. each v (Contains-rest w vs v there)))

pub among_each : (P : Variable → Type 0) (vs : List Variable) → Each P vs → (v : Variable) → IsAmong vs v → P v
among_each P [] each v among = absurd among
among_each P (w ∷ vs) each v (inl same) = subst P same each.0
among_each P (w ∷ vs) each v (inr there) = among_each P vs each.1 v there

pub each_among : (P : Variable → Type 0) (vs : List Variable) → ((v : Variable) → IsAmong vs v → P v) → Each P vs
each_among P [] each = tt
each_among P (w ∷ vs) each = (each w (inl refl), each_among P vs (λ v there. each v (inr there)))

-- the variables of a list that stands in scope are
of_list : (vs : List Variable) (scope : List Variable) → Each (IsAmong scope) vs → (v : Variable) → Contains (joined vs []) v → IsAmong scope v
of_list vs scope each v there = ⊎_elim (λ left. contained_each (IsAmong scope) vs each v left) (λ right. absurd (Contains-none v right)) (joined_there vs [] v there)

-- the free variables of a formula are in scope
module _ (imports : List Import) where
  mutual
    pub free_in_scope : (f : CoreForm) (scope : List Variable) → Stands imports scope f → (v : Variable) → Contains (free_variables imports f) v → IsAmong scope v
    free_in_scope truth scope stands v there = absurd (Contains-none v there)
    free_in_scope falsity scope stands v there = absurd (Contains-none v there)
    free_in_scope (basic b) scope stands v there = of_list (variables_of_basic b) scope stands v there
    free_in_scope (negation f) scope stands v there = free_in_scope f scope stands v there
    free_in_scope (conjunction fs) scope stands v there = among_in_scope fs scope stands v there
    free_in_scope (disjunction fs) scope stands v there = among_in_scope fs scope stands v there
    free_in_scope (implication f g) scope stands v there =
        ⊎_elim (λ left. free_in_scope f scope stands.0 v left) (λ right. free_in_scope g scope stands.1 v right) (joined_there (free_variables imports f) (free_variables imports g) v there)
    free_in_scope (equivalence f g) scope stands v there =
        ⊎_elim (λ left. free_in_scope f scope stands.0 v left) (λ right. free_in_scope g scope stands.1 v right) (joined_there (free_variables imports f) (free_variables imports g) v there)
    free_in_scope (restrict f) scope stands v there = free_in_scope f scope stands v there
    free_in_scope (imported i xs) scope stands v there = of_list (variables_at xs (variables_of_import (slice_get imports i))) scope stands.1 v there
    free_in_scope (quantified q o x d f) scope stands v there =
        let inside = without_there x (joined (free_variables_in imports d) (free_variables imports f)) v there in
        let among : IsAmong (variable x o ∷ scope) v
        = ⊎_elim (λ left. restriction_in_scope d (variable x o ∷ scope) stands.1 v left) (λ right. free_in_scope f (variable x o ∷ scope) stands.2 v right)
        (joined_there (free_variables_in imports d) (free_variables imports f) v inside.0) in
        ⊎_elim (λ same. absurd (inside.1 (ap (λ (w : Variable). w.name) (sym same)))) (λ outer. outer) among

    pub among_in_scope : (fs : CoreForms) (scope : List Variable) → EachStands imports scope fs → (v : Variable) → Contains (free_variables_among imports fs) v → IsAmong scope v
    among_in_scope no_forms scope stands v there = absurd (Contains-none v there)
    among_in_scope (more_forms f fs) scope stands v there =
        ⊎_elim (λ left. free_in_scope f scope stands.0 v left) (λ right. among_in_scope fs scope stands.1 v right) (joined_there (free_variables imports f) (free_variables_among imports fs) v there)

    pub restriction_in_scope : (d : CoreRestriction) (scope : List Variable) → RestrictionStands imports scope d → (v : Variable) → Contains (free_variables_in imports d) v → IsAmong scope v
    restriction_in_scope unrestricted scope stands v there = absurd (Contains-none v there)
    restriction_in_scope (restricted d) scope stands v there = free_in_scope d scope stands v there

-- variables of one number in scope are one
abbrev pub AreApart : List Variable → Type 0
AreApart scope = (v w : Variable) → IsAmong scope v → IsAmong scope w → v.name ≡ w.name → v ≡ w

-- where a variable of a list stands
place_in : (vs : List Variable) (v : Variable) → IsAmong vs v → (k : ℕ) × (slice_get vs k ≡ Some v)
place_in [] v among = absurd among
place_in (w ∷ vs) v (inl same) = (0, ap Some same)
place_in (w ∷ vs) v (inr there) = let found = place_in vs v there in (suc found.0, found.1)

-- variables by rising numbers are apart
pub rising_apart : (vs : List Variable) → IsStrictlyIncreasing (map (λ (v : Variable). v.name) vs) → AreApart vs
rising_apart vs rising v w first second same =
    let names = map (λ (u : Variable). u.name) vs in
    let one = place_in vs v first in
    let other = place_in vs w second in
    let long = length-map vs (λ (u : Variable). u.name) in
    let one_within = slice_get_within vs one.0 v one.1 in
    let other_within = slice_get_within vs other.0 w other.1 in
    let one_name : slice_index names one.0 ≡ v.name = get_or_held names one.0 v.name (slice_get-map (λ (u : Variable). u.name) vs one.0 ∙ ap (option_map (λ (u : Variable). u.name)) one.1) in
    let other_name : slice_index names other.0 ≡ w.name = get_or_held names other.0 w.name (slice_get-map (λ (u : Variable). u.name) vs other.0 ∙ ap (option_map (λ (u : Variable). u.name)) other.1) in
    ⊎_elim
    (λ less. let above = AllPairs-from_increasing names rising one.0 other.0 0 less (omega (arith, other_within, long)) in absurd (omega (arith, above, one_name, other_name, same)))
    (λ at_least. ⊎_elim
    (λ more. let above = AllPairs-from_increasing names rising other.0 one.0 0 more (omega (arith, one_within, long)) in absurd (omega (arith, above, one_name, other_name, same)))
    (λ at_most. let equal : one.0 ≡ other.0 = omega (arith, at_least, at_most) in same_Some v w (sym one.1 ∙ ap (slice_get vs) equal ∙ other.1))
    (cases_lt other.0 one.0))
    (cases_lt one.0 other.0)
  where
    get_or_held : (xs : List ℕ) (k x : ℕ) → slice_get xs k ≡ Some x → slice_index xs k ≡ x
    get_or_held xs k x held = same_Some (slice_index xs k) x (sym (slice_get-get_or xs k 0 (slice_get_within xs k x held)) ∙ held)

-- so they are with a greater one
pub apart_push : (scope : List Variable) (x : ℕ) (o : Order) → AreApart scope → Each (λ (v : Variable). v.name < x) scope → AreApart (variable x o ∷ scope)
apart_push scope x o apart below v w (inl first) (inl second) same = sym first ∙ second
apart_push scope x o apart below v w (inl first) (inr second) same =
    let less = among_each (λ u. u.name < x) scope below w second in
    let name = ap (λ (u : Variable). u.name) first in
    absurd (omega (arith, less, name, same))
apart_push scope x o apart below v w (inr first) (inl second) same =
    let less = among_each (λ u. u.name < x) scope below v first in
    let name = ap (λ (u : Variable). u.name) second in
    absurd (omega (arith, less, name, same))
apart_push scope x o apart below v w (inr first) (inr second) same = apart v w first second same

module _ (scope : List Variable) (apart : AreApart scope) where
  -- what is in scope is known by its number
  pub by_name : (vs : List Variable) → ((u : Variable) → Contains vs u → IsAmong scope u) → (v : Variable) → IsAmong scope v → IsNamed vs v.name → Contains vs v
  by_name vs inside v own there =
      let found = Contains-from_mapped (λ (w : Variable). w.name) vs v.name there in
      subst (Contains vs) (apart found.0 v (inside found.0 found.1) own found.2) found.1

  -- what is in one of two lists is in both together
  module _ (vs ws : List Variable) (first : (u : Variable) → Contains vs u → IsAmong scope u) (second : (u : Variable) → Contains ws u → IsAmong scope u) where
    both_inside : (u : Variable) → Contains (joined vs ws) u → IsAmong scope u
    both_inside u there = ⊎_elim (λ left. first u left) (λ right. second u right) (joined_there vs ws u there)

    pub in_left : (v : Variable) → Contains vs v → Contains (joined vs ws) v
    in_left v there = by_name (joined vs ws) both_inside v (first v there) (joined_left vs ws v.name (named vs v there))

    pub in_right : (v : Variable) → Contains ws v → Contains (joined vs ws) v
    in_right v there = by_name (joined vs ws) both_inside v (second v there) (joined_right vs ws v.name (named ws v there))

  pub in_list : (vs : List Variable) → Each (IsAmong scope) vs → (v : Variable) → Contains vs v → Contains (joined vs []) v
  in_list vs each v there = in_left vs [] (λ u is. contained_each (IsAmong scope) vs each u is) (λ u is. absurd (Contains-none u is)) v there

module _ (imports : List Import) where
  mutual
    pub narrow : (f : CoreForm) (scope vs : List Variable) → AreApart scope → Stands imports scope f → ((v : Variable) → IsAmong vs v → IsAmong scope v)
        → ((v : Variable) → Contains (free_variables imports f) v → IsAmong vs v) → Stands imports vs f
    narrow truth scope vs apart stands inside free = tt
    narrow falsity scope vs apart stands inside free = tt
    narrow (basic b) scope vs apart stands inside free = each_contained (IsAmong vs) (variables_of_basic b) (λ v there. free v (in_list scope apart (variables_of_basic b) stands v there))
    narrow (negation f) scope vs apart stands inside free = narrow f scope vs apart stands inside free
    narrow (conjunction fs) scope vs apart stands inside free = narrow_each fs scope vs apart stands inside free
    narrow (disjunction fs) scope vs apart stands inside free = narrow_each fs scope vs apart stands inside free
    narrow (implication f g) scope vs apart stands inside free =
        let left = free_variables imports f in
        let right = free_variables imports g in (
          narrow f scope vs apart stands.0 inside (λ v there. free v (in_left scope apart left right (free_in_scope imports f scope stands.0) (free_in_scope imports g scope stands.1) v there)),
          narrow g scope vs apart stands.1 inside (λ v there. free v (in_right scope apart left right (free_in_scope imports f scope stands.0) (free_in_scope imports g scope stands.1) v there)),
        )
    narrow (equivalence f g) scope vs apart stands inside free =
        let left = free_variables imports f in
        let right = free_variables imports g in (
          narrow f scope vs apart stands.0 inside (λ v there. free v (in_left scope apart left right (free_in_scope imports f scope stands.0) (free_in_scope imports g scope stands.1) v there)),
          narrow g scope vs apart stands.1 inside (λ v there. free v (in_right scope apart left right (free_in_scope imports f scope stands.0) (free_in_scope imports g scope stands.1) v there)),
        )
    narrow (restrict f) scope vs apart stands inside free = narrow f scope vs apart stands inside free
    narrow (imported i xs) scope vs apart stands inside free =
        let own = variables_at xs (variables_of_import (slice_get imports i)) in
        (stands.0, each_contained (IsAmong vs) own (λ v there. free v (in_list scope apart own stands.1 v there)))
    narrow (quantified q o x d f) scope vs apart stands inside free =
        let bound = variable x o in
        let range = free_variables_in imports d in
        let body = free_variables imports f in
        let wider = apart_push scope x o apart stands.0 in
        let inner : (v : Variable) → IsAmong (bound ∷ vs) v → IsAmong (bound ∷ scope) v = λ v among. ⊎_elim (λ same. inl same) (λ outer. inr (inside v outer)) among in
        let kept : (v : Variable) → IsAmong (bound ∷ scope) v → IsNamed (joined range body) v.name → IsAmong (bound ∷ vs) v
        = λ v own there. ⊎_elim
        (λ same. inl (wider bound v (inl refl) own (sym same)))
        (λ differs. inr (free v (by_name scope apart (free_variables imports (quantified q o x d f)) (free_in_scope imports (quantified q o x d f) scope stands) v
        (⊎_elim (λ same. absurd (differs (ap (λ (u : Variable). u.name) (sym same)))) (λ outer. outer) own) (without_named x (joined range body) v.name there differs))))
        (cases_eq v.name x) in (
          each_among (λ v. v.name < x) vs (λ v among. among_each (λ u. u.name < x) scope stands.0 v (inside v among)),
          narrow_restriction d (bound ∷ scope) (bound ∷ vs) wider stands.1 inner
              (λ v there. kept v (restriction_in_scope imports d (bound ∷ scope) stands.1 v there) (joined_left range body v.name (named range v there))),
          narrow f (bound ∷ scope) (bound ∷ vs) wider stands.2 inner
              (λ v there. kept v (free_in_scope imports f (bound ∷ scope) stands.2 v there) (joined_right range body v.name (named body v there))),
        )

    narrow_each : (fs : CoreForms) (scope vs : List Variable) → AreApart scope → EachStands imports scope fs → ((v : Variable) → IsAmong vs v → IsAmong scope v)
        → ((v : Variable) → Contains (free_variables_among imports fs) v → IsAmong vs v) → EachStands imports vs fs
    narrow_each no_forms scope vs apart stands inside free = tt
    narrow_each (more_forms f fs) scope vs apart stands inside free =
        let left = free_variables imports f in
        let right = free_variables_among imports fs in (
          narrow f scope vs apart stands.0 inside (λ v there. free v (in_left scope apart left right (free_in_scope imports f scope stands.0) (among_in_scope imports fs scope stands.1) v there)),
          narrow_each fs scope vs apart stands.1 inside (λ v there. free v (in_right scope apart left right (free_in_scope imports f scope stands.0) (among_in_scope imports fs scope stands.1) v there)),
        )

    narrow_restriction : (d : CoreRestriction) (scope vs : List Variable) → AreApart scope → RestrictionStands imports scope d → ((v : Variable) → IsAmong vs v → IsAmong scope v)
        → ((v : Variable) → Contains (free_variables_in imports d) v → IsAmong vs v) → RestrictionStands imports vs d
    narrow_restriction unrestricted scope vs apart stands inside free = tt
    narrow_restriction (restricted d) scope vs apart stands inside free = narrow d scope vs apart stands inside free
