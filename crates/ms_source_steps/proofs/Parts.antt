-- No step of a formula is a root.
use Rattle.std.proofs.Common.{⊎_elim, List, [], ◌∷◌, ◌++◌, Contains, sym, subst}
use Rattle.std.proofs.lemmas.List.Elements.{Contains-append_cases}
use Rattle.ms_diagram.proofs.ListLemmas.{Contains-cases, Contains-none}
use Rattle.ms_logic_core.specs.CoreForm.{CoreForm, truth, falsity, basic, negation, conjunction, disjunction, implication, equivalence, restrict, imported, quantified, CoreForms, no_forms, more_forms, CoreRestriction, unrestricted, restricted}
use Rattle.ms_logic_core.specs.Operands.{variable}
use Rattle.ms_logic_measures.specs.Steps.{Step, constant, of_one, relation, connective, binding, import_at, root, connected, steps_among, steps_in, steps_of, steps_of_list}

abbrev pub IsNoRoot : Step → Type 0
IsNoRoot (root whole) = ⊥
IsNoRoot step = Unit {0}

abbrev AreNoRoots : List Step → Type 0
AreNoRoots steps = (s : Step) → Contains steps s → IsNoRoot s

first_or : (first : Step) (steps : List Step) → IsNoRoot first → AreNoRoots steps → AreNoRoots (first ∷ steps)
first_or first steps own later s there = ⊎_elim (λ same. subst IsNoRoot (sym same) own) (λ behind. later s behind) (Contains-cases first steps s there)

either : (steps more : List Step) → AreNoRoots steps → AreNoRoots more → AreNoRoots (steps ++ more)
either steps more left right s there = ⊎_elim (λ one. left s one) (λ other. right s other) (Contains-append_cases steps more s there)

none : AreNoRoots []
none s there = absurd (Contains-none s there)

module _ (connect : CoreForms → CoreForm) where
  behind : (first : CoreForm) (before : List CoreForm) (fs : CoreForms) → AreNoRoots (steps_of_list connect (first ∷ before) fs)
  behind first before no_forms = none
  behind first before (more_forms f fs) =
      first_or (connective (connected connect (first ∷ before)) f) (steps_of_list connect ((first ∷ before) ++ f ∷ []) fs) tt (behind first (before ++ f ∷ []) fs)

  of_list : (fs : CoreForms) → AreNoRoots (steps_of_list connect [] fs)
  of_list no_forms = first_or (constant (connect no_forms)) [] tt none
  of_list (more_forms f fs) = behind f [] fs

mutual
  pub no_roots : (f : CoreForm) → AreNoRoots (steps_of f)
  no_roots truth = first_or (constant truth) [] tt none
  no_roots falsity = first_or (constant falsity) [] tt none
  no_roots (basic b) = first_or (relation b) [] tt none
  no_roots (negation f) = first_or (of_one (negation f) f) (steps_of f) tt (no_roots f)
  no_roots (conjunction fs) = either (steps_of_list conjunction [] fs) (steps_among fs) (of_list conjunction fs) (none_among fs)
  no_roots (disjunction fs) = either (steps_of_list disjunction [] fs) (steps_among fs) (of_list disjunction fs) (none_among fs)
  no_roots (implication f g) = first_or (connective f g) (steps_of f ++ steps_of g) tt (either (steps_of f) (steps_of g) (no_roots f) (no_roots g))
  no_roots (equivalence f g) = first_or (connective f g) (steps_of f ++ steps_of g) tt (either (steps_of f) (steps_of g) (no_roots f) (no_roots g))
  no_roots (restrict f) = first_or (of_one (restrict f) f) (steps_of f) tt (no_roots f)
  no_roots (imported i xs) = first_or (import_at i xs) [] tt none
  no_roots (quantified q o x d f) =
      first_or (binding (variable x o) d f) (steps_in d ++ steps_of f) tt (either (steps_in d) (steps_of f) (none_in d) (no_roots f))

  none_among : (fs : CoreForms) → AreNoRoots (steps_among fs)
  none_among no_forms = none
  none_among (more_forms f fs) = either (steps_of f) (steps_among fs) (no_roots f) (none_among fs)

  none_in : (d : CoreRestriction) → AreNoRoots (steps_in d)
  none_in unrestricted = none
  none_in (restricted d) = no_roots d
