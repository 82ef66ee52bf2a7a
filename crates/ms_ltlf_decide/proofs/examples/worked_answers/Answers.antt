use Rattle.std.proofs.Common.{[], ◌∷◌, refl, arith}
use Rattle.ms_ltlf.specs.inner.Examples.{trace}
use Rattle.ms_ltlf_decide.proofs.WorkedTraces.{bare, first-holds, not-the-first, still, two-positions}
use Rattle.ms_ltlf_decide.proofs.examples.worked_answers.Goals as goal

pub returns-clause-valid : goal.returns-clause-valid
returns-clause-valid c = λ t is. tt

pub returns-clause-unsatisfiable : goal.returns-clause-unsatisfiable
returns-clause-unsatisfiable c = λ t is never. never

pub returns-clause-contingent : goal.returns-clause-contingent
returns-clause-contingent c = ((trace 1 (0 ∷ []) [], first-holds, refl), (still 1, bare 1 1 (omega arith), λ member. let never : ⊥ = cc in never))

pub returns-clause-not_valid : goal.returns-clause-not_valid
returns-clause-not_valid c = λ always. let member = always (still 1) (bare 1 1 (omega arith)) in let never : ⊥ = cc in never

pub returns-clause-not_unsatisfiable : goal.returns-clause-not_unsatisfiable
returns-clause-not_unsatisfiable c = λ never. never (still 2) (bare 0 2 (omega arith)) (omega arith, tt)

pub returns-clause-never_vacuous : goal.returns-clause-never_vacuous
returns-clause-never_vacuous c = λ never. never

pub returns-clause-two_positions : goal.returns-clause-two_positions
returns-clause-two_positions c = two-positions

pub returns-clause-not_the_first : goal.returns-clause-not_the_first
returns-clause-not_the_first c = not-the-first

pub returns-clause-not_shown : goal.returns-clause-not_shown
returns-clause-not_shown c = λ none. none (still 1) (bare 0 1 (omega arith)) tt

pub returns-clause-none_shown : goal.returns-clause-none_shown
returns-clause-none_shown c = λ t is never. never
