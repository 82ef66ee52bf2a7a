-- The steps of a formula are the own steps of its subformulas.
use Rattle.std.proofs.Common.{[], ◌∷◌, ◌++◌, Contains, refl, subst, inl, inr, ⊎_elim}
use Rattle.std.proofs.lemmas.List.Elements.{Contains-append_cases, Contains-append_left, Contains-append_right}
use Rattle.ms_diagram.proofs.ListLemmas.{Contains-cases, Contains-none, Contains-rest}
use Rattle.ms_logic_core.specs.CoreForm.{CoreForm, truth, falsity, basic, negation, conjunction, disjunction, implication, equivalence, restrict, imported, quantified, CoreForms, no_forms, more_forms, CoreRestriction, unrestricted, restricted}
use Rattle.ms_logic_core.specs.Operands.{variable}
use Rattle.ms_logic_measures.specs.Steps.{Step, connective, constant, steps_among, steps_in, steps_of, steps_of_list}
use Rattle.ms_logic_measures.specs.Steps as step
use Rattle.ms_dag_steps.specs.Laws.{StepsAreOwnSteps}
use Rattle.ms_dag_steps.specs.OwnSteps.{own_steps}
use Rattle.ms_dag_steps.specs.Subformulas.{IsSubformula, IsSubformulaOfOne, IsSubformulaOfRestriction}
use Rattle.ms_dag_steps.specs.inner.Parts.{forms_of, parts_of, restrictions_of}
use Rattle.ms_dag_steps.proofs.SubformulaLemmas.{goes_down, one_of_two, only}

module _ (s : Step) where
  of_one_operand : (fs : CoreForms) (f : CoreForm) → Contains (forms_of fs) f → Contains (steps_of f) s → Contains (steps_among fs) s
  of_one_operand no_forms f there is = absurd (Contains-none f there)
  of_one_operand (more_forms g gs) f there is =
      ⊎_elim (λ same. Contains-append_left (steps_of g) (steps_among gs) s (subst (λ h. Contains (steps_of h) s) same is))
      (λ later. Contains-append_right (steps_of g) (steps_among gs) s (of_one_operand gs f later is)) (Contains-cases g (forms_of gs) f there)

  of_restriction : (d : CoreRestriction) (f : CoreForm) → Contains (restrictions_of d) f → Contains (steps_of f) s → Contains (steps_in d) s
  of_restriction unrestricted f there is = absurd (Contains-none f there)
  of_restriction (restricted d) f there is = subst (λ h. Contains (steps_of h) s) (only f d there) is

  of_two : (g h : CoreForm) (first : Step) (f : CoreForm) → Contains (g ∷ h ∷ []) f → Contains (steps_of f) s → Contains (first ∷ steps_of g ++ steps_of h) s
  of_two g h first f there is = Contains-rest first (steps_of g ++ steps_of h) s
      (⊎_elim (λ same. Contains-append_left (steps_of g) (steps_of h) s (subst (λ k. Contains (steps_of k) s) same is))
      (λ same. Contains-append_right (steps_of g) (steps_of h) s (subst (λ k. Contains (steps_of k) s) same is)) (one_of_two f g h there))

  -- the steps of a part are steps of the whole
  step_of_part : (h f : CoreForm) → Contains (parts_of h) f → Contains (steps_of f) s → Contains (steps_of h) s
  step_of_part truth f there is = absurd (Contains-none f there)
  step_of_part falsity f there is = absurd (Contains-none f there)
  step_of_part (basic b) f there is = absurd (Contains-none f there)
  step_of_part (negation h) f there is = Contains-rest (step.of_one (negation h) h) (steps_of h) s (subst (λ k. Contains (steps_of k) s) (only f h there) is)
  step_of_part (conjunction hs) f there is = Contains-append_right (steps_of_list conjunction [] hs) (steps_among hs) s (of_one_operand hs f there is)
  step_of_part (disjunction hs) f there is = Contains-append_right (steps_of_list disjunction [] hs) (steps_among hs) s (of_one_operand hs f there is)
  step_of_part (implication g h) f there is = of_two g h (connective g h) f there is
  step_of_part (equivalence g h) f there is = of_two g h (connective g h) f there is
  step_of_part (restrict h) f there is = Contains-rest (step.of_one (restrict h) h) (steps_of h) s (subst (λ k. Contains (steps_of k) s) (only f h there) is)
  step_of_part (imported i xs) f there is = absurd (Contains-none f there)
  step_of_part (quantified q o x d h) f there is = Contains-rest (step.binding (variable x o) d h) (steps_in d ++ steps_of h) s
      (⊎_elim (λ above. Contains-append_left (steps_in d) (steps_of h) s (of_restriction d f above is))
      (λ below. Contains-append_right (steps_in d) (steps_of h) s (subst (λ k. Contains (steps_of k) s) (only f h below) is)) (Contains-append_cases (restrictions_of d) (h ∷ []) f there))

-- the steps of a subformula are steps of the whole
pub step_of_subformula : (h f : CoreForm) → IsSubformula f h → (s : Step) → Contains (steps_of f) s → Contains (steps_of h) s
step_of_subformula h f is =
    goes_down (λ k. (s : Step) → Contains (steps_of k) s → Contains (steps_of h) s) (λ k part at there s inside. at s (step_of_part s k part there inside)) h f (λ s inside. inside) is

module _ (s : Step) where
  -- the steps of a list of operands are own steps of its connective
  pub own_of_conjunction : (fs : CoreForms) → Contains (steps_of_list conjunction [] fs) s → Contains (own_steps (conjunction fs)) s
  own_of_conjunction no_forms there = there
  own_of_conjunction (more_forms f no_forms) there = absurd (Contains-none s there)
  own_of_conjunction (more_forms f (more_forms g gs)) there = there

  pub own_of_disjunction : (fs : CoreForms) → Contains (steps_of_list disjunction [] fs) s → Contains (own_steps (disjunction fs)) s
  own_of_disjunction no_forms there = there
  own_of_disjunction (more_forms f no_forms) there = absurd (Contains-none s there)
  own_of_disjunction (more_forms f (more_forms g gs)) there = there

  -- the own steps of a formula are steps of it
  pub own_is_step : (f : CoreForm) → Contains (own_steps f) s → Contains (steps_of f) s
  own_is_step truth there = there
  own_is_step falsity there = there
  own_is_step (basic b) there = there
  own_is_step (negation f) there = Contains-append_left (step.of_one (negation f) f ∷ []) (steps_of f) s there
  own_is_step (conjunction no_forms) there = there
  own_is_step (conjunction (more_forms f no_forms)) there = Contains-append_left (steps_of f) [] s (own_is_step f there)
  own_is_step (conjunction (more_forms f (more_forms g gs))) there =
      Contains-append_left (steps_of_list conjunction [] (more_forms f (more_forms g gs))) (steps_among (more_forms f (more_forms g gs))) s there
  own_is_step (disjunction no_forms) there = there
  own_is_step (disjunction (more_forms f no_forms)) there = Contains-append_left (steps_of f) [] s (own_is_step f there)
  own_is_step (disjunction (more_forms f (more_forms g gs))) there =
      Contains-append_left (steps_of_list disjunction [] (more_forms f (more_forms g gs))) (steps_among (more_forms f (more_forms g gs))) s there
  own_is_step (implication f g) there = Contains-append_left (connective f g ∷ []) (steps_of f ++ steps_of g) s there
  own_is_step (equivalence f g) there = Contains-append_left (connective f g ∷ []) (steps_of f ++ steps_of g) s there
  own_is_step (restrict f) there = Contains-append_left (step.of_one (restrict f) f ∷ []) (steps_of f) s there
  own_is_step (imported i xs) there = there
  own_is_step (quantified q o x d f) there = Contains-append_left (step.binding (variable x o) d f ∷ []) (steps_in d ++ steps_of f) s there

  -- and each step of a formula is an own step of some subformula
  abbrev IsOwnBelow : CoreForm → Type 0
  IsOwnBelow whole = (f : CoreForm) × IsSubformula f whole × Contains (own_steps f) s

  abbrev IsOwnAmong : CoreForms → Type 0
  IsOwnAmong fs = (f : CoreForm) × IsSubformulaOfOne f fs × Contains (own_steps f) s

  abbrev IsOwnIn : CoreRestriction → Type 0
  IsOwnIn d = (f : CoreForm) × IsSubformulaOfRestriction f d × Contains (own_steps f) s

  mutual
    own_below : (whole : CoreForm) → Contains (steps_of whole) s → IsOwnBelow whole
    own_below truth there = (truth, refl, there)
    own_below falsity there = (falsity, refl, there)
    own_below (basic b) there = (basic b, refl, there)
    own_below (negation f) there = ⊎_elim
        (λ own. (negation f, inl refl, own))
        (λ later. let below = own_below f later in (below.0, inr below.1, below.2))
        (Contains-append_cases (step.of_one (negation f) f ∷ []) (steps_of f) s there)
    own_below (conjunction fs) there = ⊎_elim
        (λ own. (conjunction fs, inl refl, own_of_conjunction fs own))
        (λ later. let below = own_among fs later in (below.0, inr below.1, below.2))
        (Contains-append_cases (steps_of_list conjunction [] fs) (steps_among fs) s there)
    own_below (disjunction fs) there = ⊎_elim
        (λ own. (disjunction fs, inl refl, own_of_disjunction fs own))
        (λ later. let below = own_among fs later in (below.0, inr below.1, below.2))
        (Contains-append_cases (steps_of_list disjunction [] fs) (steps_among fs) s there)
    own_below (implication f g) there = ⊎_elim
        (λ own. (implication f g, inl refl, own))
        (λ later. ⊎_elim
        (λ left. let below = own_below f left in (below.0, inr (inl below.1), below.2))
        (λ right. let below = own_below g right in (below.0, inr (inr below.1), below.2))
        (Contains-append_cases (steps_of f) (steps_of g) s later))
        (Contains-append_cases (connective f g ∷ []) (steps_of f ++ steps_of g) s there)
    own_below (equivalence f g) there = ⊎_elim
        (λ own. (equivalence f g, inl refl, own))
        (λ later. ⊎_elim
        (λ left. let below = own_below f left in (below.0, inr (inl below.1), below.2))
        (λ right. let below = own_below g right in (below.0, inr (inr below.1), below.2))
        (Contains-append_cases (steps_of f) (steps_of g) s later))
        (Contains-append_cases (connective f g ∷ []) (steps_of f ++ steps_of g) s there)
    own_below (restrict f) there = ⊎_elim
        (λ own. (restrict f, inl refl, own))
        (λ later. let below = own_below f later in (below.0, inr below.1, below.2))
        (Contains-append_cases (step.of_one (restrict f) f ∷ []) (steps_of f) s there)
    own_below (imported i xs) there = (imported i xs, refl, there)
    own_below (quantified q o x d f) there = ⊎_elim
        (λ own. (quantified q o x d f, inl refl, own))
        (λ later. ⊎_elim
        (λ above. let below = own_in d above in (below.0, inr (inl below.1), below.2))
        (λ inside. let below = own_below f inside in (below.0, inr (inr below.1), below.2))
        (Contains-append_cases (steps_in d) (steps_of f) s later))
        (Contains-append_cases (step.binding (variable x o) d f ∷ []) (steps_in d ++ steps_of f) s there)

    own_among : (fs : CoreForms) → Contains (steps_among fs) s → IsOwnAmong fs
    own_among no_forms there = absurd (Contains-none s there)
    own_among (more_forms f fs) there = ⊎_elim
        (λ first. let below = own_below f first in (below.0, inl below.1, below.2))
        (λ later. let below = own_among fs later in (below.0, inr below.1, below.2))
        (Contains-append_cases (steps_of f) (steps_among fs) s there)

    own_in : (d : CoreRestriction) → Contains (steps_in d) s → IsOwnIn d
    own_in unrestricted there = absurd (Contains-none s there)
    own_in (restricted f) there = own_below f there

-- the own steps of a subformula are steps of the whole
pub own_step_of_subformula : (whole f : CoreForm) → IsSubformula f whole → (s : Step) → Contains (own_steps f) s → Contains (steps_of whole) s
own_step_of_subformula whole f is s own = step_of_subformula whole f is s (own_is_step s f own)

pub steps_are_own_steps : StepsAreOwnSteps
steps_are_own_steps whole s = (λ there. own_below s whole there, λ own. own_step_of_subformula whole own.0 own.1 s own.2)
