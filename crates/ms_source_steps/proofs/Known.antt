-- The formulas of a step stand in some scope whose variables are apart, where the whole formula does.
use Rattle.std.proofs.Common.{⊎_elim, List, [], ◌∷◌, ◌++◌, Contains, sym, subst}
use Rattle.std.proofs.lemmas.List.Elements.{Contains-append_cases}
use Rattle.ms_diagram.proofs.ListLemmas.{Contains-cases, Contains-none}
use Rattle.ms_logic.specs.Assignment.{Variable}
use Rattle.ms_logic.specs.Truth.{Import}
use Rattle.ms_logic_core.specs.CoreForm.{CoreForm, truth, falsity, basic, negation, conjunction, disjunction, implication, equivalence, restrict, imported, quantified, CoreForms, no_forms, more_forms, CoreRestriction, unrestricted, restricted, core_forms}
use Rattle.ms_logic_core.specs.Operands.{variable}
use Rattle.ms_logic_core.specs.Stands.{EachStands, RestrictionStands, Stands}
use Rattle.ms_logic_measures.specs.Steps.{Step, constant, of_one, relation, connective, binding, import_at, import_of_source, root, connected, steps_among, steps_in, steps_of, steps_of_list}
use Rattle.ms_source_steps.proofs.Scopes.{AreApart, apart_push}

module _ (imports : List Import) where
  -- the formula stands in some scope, whose variables are apart
  abbrev pub IsKnown : CoreForm → Type 0
  IsKnown f = (scope : List Variable) × AreApart scope × Stands imports scope f

  -- so do a restriction and a body, behind the bound variable
  abbrev pub AreKnownInside : Variable → CoreRestriction → CoreForm → Type 0
  AreKnownInside x d f = (scope : List Variable) × AreApart (x ∷ scope) × RestrictionStands imports (x ∷ scope) d × Stands imports (x ∷ scope) f

  -- so do two formulas
  abbrev pub AreKnown : CoreForm → CoreForm → Type 0
  AreKnown f g = (scope : List Variable) × AreApart scope × Stands imports scope f × Stands imports scope g

  abbrev pub IsKnownStep : Step → Type 0
  IsKnownStep (constant f) = IsKnown f
  IsKnownStep (of_one f g) = IsKnown f × IsKnown g
  IsKnownStep (relation b) = IsKnown (basic b)
  IsKnownStep (connective f g) = AreKnown f g
  IsKnownStep (binding x d f) = AreKnownInside x d f
  IsKnownStep (import_at i xs) = IsKnown (imported i xs)
  IsKnownStep (import_of_source i) = ⊥
  IsKnownStep (root whole) = AreApart whole.variables × Stands imports whole.variables whole.formula

  -- a step of some is the first or a later one
  first_or : (first : Step) (steps : List Step) → IsKnownStep first → ((s : Step) → Contains steps s → IsKnownStep s) → (s : Step) → Contains (first ∷ steps) s → IsKnownStep s
  first_or first steps known later s there = ⊎_elim (λ same. subst IsKnownStep (sym same) known) (λ behind. later s behind) (Contains-cases first steps s there)

  either : (steps more : List Step) → ((s : Step) → Contains steps s → IsKnownStep s) → ((s : Step) → Contains more s → IsKnownStep s) → (s : Step) → Contains (steps ++ more) s → IsKnownStep s
  either steps more left right s there = ⊎_elim (λ one. left s one) (λ other. right s other) (Contains-append_cases steps more s there)

  none : (s : Step) → Contains [] s → IsKnownStep s
  none s there = absurd (Contains-none s there)

  -- one operand more
  stands_push : (scope : List Variable) (before : List CoreForm) (f : CoreForm) → EachStands imports scope (core_forms before) → Stands imports scope f → EachStands imports scope (core_forms (before ++ f ∷ []))
  stands_push scope [] f stands one = (one, tt)
  stands_push scope (g ∷ before) f stands one = (stands.0, stands_push scope before f stands.1 one)

  -- the steps of a list of operands
  module _ (connect : CoreForms → CoreForm) (scope : List Variable) (apart : AreApart scope) (known_list : (fs : CoreForms) → EachStands imports scope fs → Stands imports scope (connect fs)) where
    known_connected : (first : CoreForm) (before : List CoreForm) → EachStands imports scope (core_forms (first ∷ before)) → Stands imports scope (connected connect (first ∷ before))
    known_connected first [] stands = stands.0
    known_connected first (second ∷ more) stands = known_list (core_forms (first ∷ second ∷ more)) stands

    behind_known : (first : CoreForm) (before : List CoreForm) (fs : CoreForms) → EachStands imports scope (core_forms (first ∷ before)) → EachStands imports scope fs
        → (s : Step) → Contains (steps_of_list connect (first ∷ before) fs) s → IsKnownStep s
    behind_known first before no_forms stands rest s there = none s there
    behind_known first before (more_forms f fs) stands rest s there =
        first_or (connective (connected connect (first ∷ before)) f) (steps_of_list connect ((first ∷ before) ++ f ∷ []) fs) (scope, apart, known_connected first before stands, rest.0)
        (λ one later. behind_known first (before ++ f ∷ []) fs (stands.0, stands_push scope before f stands.1 rest.0) rest.1 one later) s there

    list_known : (fs : CoreForms) → EachStands imports scope fs → (s : Step) → Contains (steps_of_list connect [] fs) s → IsKnownStep s
    list_known no_forms stands s there = first_or (constant (connect no_forms)) [] (scope, apart, known_list no_forms stands) none s there
    list_known (more_forms f fs) stands s there = behind_known f [] fs (stands.0, tt) stands.1 s there

  mutual
    pub steps_known : (f : CoreForm) (scope : List Variable) → AreApart scope → Stands imports scope f → (s : Step) → Contains (steps_of f) s → IsKnownStep s
    steps_known truth scope apart stands s there = first_or (constant truth) [] (scope, apart, tt) none s there
    steps_known falsity scope apart stands s there = first_or (constant falsity) [] (scope, apart, tt) none s there
    steps_known (basic b) scope apart stands s there = first_or (relation b) [] (scope, apart, stands) none s there
    steps_known (negation f) scope apart stands s there =
        first_or (of_one (negation f) f) (steps_of f) ((scope, apart, stands), (scope, apart, stands)) (λ one later. steps_known f scope apart stands one later) s there
    steps_known (conjunction fs) scope apart stands s there =
        either (steps_of_list conjunction [] fs) (steps_among fs) (λ one within. list_known conjunction scope apart (λ gs gs_stand. gs_stand) fs stands one within)
        (λ one within. among_known fs scope apart stands one within) s there
    steps_known (disjunction fs) scope apart stands s there =
        either (steps_of_list disjunction [] fs) (steps_among fs) (λ one within. list_known disjunction scope apart (λ gs gs_stand. gs_stand) fs stands one within)
        (λ one within. among_known fs scope apart stands one within) s there
    steps_known (implication f g) scope apart stands s there =
        first_or (connective f g) (steps_of f ++ steps_of g) (scope, apart, stands.0, stands.1)
        (λ one later. either (steps_of f) (steps_of g) (λ t within. steps_known f scope apart stands.0 t within) (λ t within. steps_known g scope apart stands.1 t within) one later) s there
    steps_known (equivalence f g) scope apart stands s there =
        first_or (connective f g) (steps_of f ++ steps_of g) (scope, apart, stands.0, stands.1)
        (λ one later. either (steps_of f) (steps_of g) (λ t within. steps_known f scope apart stands.0 t within) (λ t within. steps_known g scope apart stands.1 t within) one later) s there
    steps_known (restrict f) scope apart stands s there =
        first_or (of_one (restrict f) f) (steps_of f) ((scope, apart, stands), (scope, apart, stands)) (λ one later. steps_known f scope apart stands one later) s there
    steps_known (imported i xs) scope apart stands s there = first_or (import_at i xs) [] (scope, apart, stands) none s there
    steps_known (quantified q o x d f) scope apart stands s there =
        let bound = variable x o in
        let wider = apart_push scope x o apart stands.0 in
        first_or (binding bound d f) (steps_in d ++ steps_of f) (scope, wider, stands.1, stands.2)
        (λ one later. either (steps_in d) (steps_of f) (λ t within. restriction_known d (bound ∷ scope) wider stands.1 t within) (λ t within. steps_known f (bound ∷ scope) wider stands.2 t within) one later) s there

    among_known : (fs : CoreForms) (scope : List Variable) → AreApart scope → EachStands imports scope fs → (s : Step) → Contains (steps_among fs) s → IsKnownStep s
    among_known no_forms scope apart stands s there = none s there
    among_known (more_forms f fs) scope apart stands s there =
        either (steps_of f) (steps_among fs) (λ t within. steps_known f scope apart stands.0 t within) (λ t within. among_known fs scope apart stands.1 t within) s there

    restriction_known : (d : CoreRestriction) (scope : List Variable) → AreApart scope → RestrictionStands imports scope d → (s : Step) → Contains (steps_in d) s → IsKnownStep s
    restriction_known unrestricted scope apart stands s there = none s there
    restriction_known (restricted d) scope apart stands s there = steps_known d scope apart stands s there
