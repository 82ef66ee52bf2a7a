-- A limit below 16 is below each budget of some own step of each formula.
use Rattle.std.proofs.Common.{◌≡◌, ℕ, ◌+◌, ◌*◌, ◌≤◌, List, [], ◌∷◌, Contains, arith}
use Rattle.ms_dag_steps.specs.OwnSteps.{own_steps}
use Rattle.ms_diagram.proofs.ListLemmas.{Contains-first}
use Rattle.ms_logic_core.specs.CoreForm.{CoreForm, truth, falsity, basic, negation, conjunction, disjunction, implication, equivalence, restrict, imported, quantified, no_forms, more_forms}
use Rattle.ms_logic_core.specs.Operands.{variable}
use Rattle.ms_logic_measures.specs.Budgets.{budget}
use Rattle.ms_logic_measures.specs.Steps.{Step, constant, of_one, relation, connective, binding, import_at, steps_of_list}
use Rattle.ms_build_steps.specs.Laws.{SmallLimitsAreBelowSteps}
use Rattle.ms_build_steps.proofs.StepKinds.{some_kind}

abbrev HasStep : List Step → Type 0
HasStep steps = (step : Step) × Contains steps step

first_step : (step : Step) (steps : List Step) → HasStep (step ∷ steps)
first_step step steps = (step, Contains-first step steps)

some_step : (f : CoreForm) → HasStep (own_steps f)
some_step truth = first_step (constant truth) []
some_step falsity = first_step (constant falsity) []
some_step (basic b) = first_step (relation b) []
some_step (negation f) = first_step (of_one (negation f) f) []
some_step (conjunction no_forms) = first_step (constant (conjunction no_forms)) []
some_step (conjunction (more_forms f no_forms)) = some_step f
some_step (conjunction (more_forms f (more_forms g gs))) = first_step (connective f g) (steps_of_list conjunction (f ∷ g ∷ []) gs)
some_step (disjunction no_forms) = first_step (constant (disjunction no_forms)) []
some_step (disjunction (more_forms f no_forms)) = some_step f
some_step (disjunction (more_forms f (more_forms g gs))) = first_step (connective f g) (steps_of_list disjunction (f ∷ g ∷ []) gs)
some_step (implication f g) = first_step (connective f g) []
some_step (equivalence f g) = first_step (connective f g) []
some_step (restrict f) = first_step (of_one (restrict f) f) []
some_step (imported i xs) = first_step (import_at i xs) []
some_step (quantified q o x d f) = first_step (binding (variable x o) d f) []

-- each budget is 1,024 at least
large : (m r : ℕ) → 16 ≤ budget m r
large m r =
    let square : (m + r + 2) * (m + r + 2) ≡ (m + r) * (m + r) + 4 * (m + r) + 4 = grind arith in
    omega (arith, square)

pub small_limits_are_below_steps : SmallLimitsAreBelowSteps
small_limits_are_below_steps imports mode f limit small =
    let one = some_step f in
    let kind = some_kind one.0 in
    (one.0, one.1, record { kind = kind.0; has = kind.1; below = λ files m r measure. let enough = large m r in omega (arith, small, enough) })
