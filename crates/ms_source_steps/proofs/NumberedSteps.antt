-- The steps of a formula with other numbers are the steps of the formula with these numbers.
use Rattle.std.proofs.Common.{◌≡◌, ℕ, List, [], ◌∷◌, ◌++◌, map, refl, sym, ap, ap₂, ◌∙◌}
use Rattle.std.specs.List.{zip}
use Rattle.std.proofs.lemmas.List.{map-append, map_push}
use Rattle.ms_logic_core.specs.CoreForm.{CoreForm, truth, falsity, basic, negation, conjunction, disjunction, implication, equivalence, restrict, imported, quantified, CoreForms, no_forms, more_forms, CoreRestriction, unrestricted, restricted, core_forms}
use Rattle.ms_logic_core.specs.Operands.{variable}
use Rattle.ms_logic_measures.specs.Steps.{Step, constant, of_one, relation, connective, binding, import_at, import_of_source, root, connected, steps_among, steps_in, steps_of, steps_of_list}
use Rattle.ms_lower.specs.Numbering.{Numbering, renumbered, renumbered_basic, renumbered_each, renumbered_in, renumbered_variable, with_new_numbers}
use Rattle.ms_build_steps.specs.Kinds.{kinds_of}

module _ (n : Numbering) where
  abbrev pub numbers_at : ℕ → List ℕ → List ℕ
  numbers_at i xs = map (λ p. n.number p.1.order p.0) (zip xs (n.imported i))

  -- a step with the new numbers
  abbrev pub moved_step : Step → Step
  moved_step (constant f) = constant (renumbered n f)
  moved_step (of_one f g) = of_one (renumbered n f) (renumbered n g)
  moved_step (relation b) = relation (renumbered_basic n b)
  moved_step (connective f g) = connective (renumbered n f) (renumbered n g)
  moved_step (binding x d f) = binding (renumbered_variable n x) (renumbered_in n d) (renumbered n f)
  moved_step (import_at i xs) = import_at i (numbers_at i xs)
  moved_step (import_of_source i) = import_of_source i
  moved_step (root whole) = root (with_new_numbers n whole)

  pub moved_kinds : (step : Step) → kinds_of (moved_step step) ≡ kinds_of step
  moved_kinds (constant f) = refl
  moved_kinds (of_one f g) = refl
  moved_kinds (relation b) = refl
  moved_kinds (connective f g) = refl
  moved_kinds (binding x d f) = refl
  moved_kinds (import_at i xs) = refl
  moved_kinds (import_of_source i) = refl
  moved_kinds (root whole) = refl

  forms_moved : (fs : List CoreForm) → core_forms (map (renumbered n) fs) ≡ renumbered_each n (core_forms fs)
  forms_moved [] = refl
  forms_moved (f ∷ fs) = ap (more_forms (renumbered n f)) (forms_moved fs)

  module _ (connect : CoreForms → CoreForm) (through : (fs : CoreForms) → connect (renumbered_each n fs) ≡ renumbered n (connect fs)) where
    connected_moved : (fs : List CoreForm) → connected connect (map (renumbered n) fs) ≡ renumbered n (connected connect fs)
    connected_moved [] = through no_forms
    connected_moved (f ∷ []) = refl
    connected_moved (f ∷ g ∷ fs) = ap (λ hs. connect (more_forms (renumbered n f) (more_forms (renumbered n g) hs))) (forms_moved fs) ∙ through (core_forms (f ∷ g ∷ fs))

    behind_moved : (first : CoreForm) (before : List CoreForm) (fs : CoreForms) → steps_of_list connect (map (renumbered n) (first ∷ before)) (renumbered_each n fs) ≡ map moved_step (steps_of_list connect (first ∷ before) fs)
    behind_moved first before no_forms = refl
    behind_moved first before (more_forms f fs) =
        ap₂ (λ (h : CoreForm) (steps : List Step). connective h (renumbered n f) ∷ steps) (connected_moved (first ∷ before))
        (ap (λ (hs : List CoreForm). steps_of_list connect (renumbered n first ∷ hs) (renumbered_each n fs)) (sym (map_push (renumbered n) before f)) ∙ behind_moved first (before ++ f ∷ []) fs)

    list_moved : (fs : CoreForms) → steps_of_list connect [] (renumbered_each n fs) ≡ map moved_step (steps_of_list connect [] fs)
    list_moved no_forms = ap (λ f. constant f ∷ []) (through no_forms)
    list_moved (more_forms f fs) = behind_moved f [] fs

  mutual
    pub steps_moved : (f : CoreForm) → steps_of (renumbered n f) ≡ map moved_step (steps_of f)
    steps_moved truth = refl
    steps_moved falsity = refl
    steps_moved (basic b) = refl
    steps_moved (negation f) = ap (λ steps. of_one (negation (renumbered n f)) (renumbered n f) ∷ steps) (steps_moved f)
    steps_moved (conjunction fs) =
        ap₂ (λ (one other : List Step). one ++ other) (list_moved conjunction (λ gs. refl) fs) (among_moved fs) ∙ sym (map-append moved_step (steps_of_list conjunction [] fs) (steps_among fs))
    steps_moved (disjunction fs) =
        ap₂ (λ (one other : List Step). one ++ other) (list_moved disjunction (λ gs. refl) fs) (among_moved fs) ∙ sym (map-append moved_step (steps_of_list disjunction [] fs) (steps_among fs))
    steps_moved (implication f g) =
        ap (λ steps. connective (renumbered n f) (renumbered n g) ∷ steps)
        (ap₂ (λ (one other : List Step). one ++ other) (steps_moved f) (steps_moved g) ∙ sym (map-append moved_step (steps_of f) (steps_of g)))
    steps_moved (equivalence f g) =
        ap (λ steps. connective (renumbered n f) (renumbered n g) ∷ steps)
        (ap₂ (λ (one other : List Step). one ++ other) (steps_moved f) (steps_moved g) ∙ sym (map-append moved_step (steps_of f) (steps_of g)))
    steps_moved (restrict f) = ap (λ steps. of_one (restrict (renumbered n f)) (renumbered n f) ∷ steps) (steps_moved f)
    steps_moved (imported i xs) = refl
    steps_moved (quantified q o x d f) =
        ap (λ steps. binding (variable (n.number o x) o) (renumbered_in n d) (renumbered n f) ∷ steps)
        (ap₂ (λ (one other : List Step). one ++ other) (range_moved d) (steps_moved f) ∙ sym (map-append moved_step (steps_in d) (steps_of f)))

    among_moved : (fs : CoreForms) → steps_among (renumbered_each n fs) ≡ map moved_step (steps_among fs)
    among_moved no_forms = refl
    among_moved (more_forms f fs) = ap₂ (λ (one other : List Step). one ++ other) (steps_moved f) (among_moved fs) ∙ sym (map-append moved_step (steps_of f) (steps_among fs))

    range_moved : (d : CoreRestriction) → steps_in (renumbered_in n d) ≡ map moved_step (steps_in d)
    range_moved unrestricted = refl
    range_moved (restricted d) = steps_moved d
