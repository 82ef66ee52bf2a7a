use Rattle.std.proofs.Common.{refl, arith}
use Rattle.ms_presburger.specs.inner.Examples.{at}
use Rattle.ms_presburger_decide.proofs.WorkedNumbers.{not-its-digits, not-the-first, not-the-first-pair}
use Rattle.ms_presburger_decide.proofs.examples.worked_answers.Goals as goal

pub returns-clause-contingent : goal.returns-clause-contingent
returns-clause-contingent c = ((at 1 2, (refl, (omega arith, tt))), (at 0 0, λ held. omega (arith, held.0)))

pub returns-clause-not_valid : goal.returns-clause-not_valid
returns-clause-not_valid c = λ always. omega (arith, (always (at 0 0)).0)

pub returns-clause-not_unsatisfiable : goal.returns-clause-not_unsatisfiable
returns-clause-not_unsatisfiable c = λ never. never (at 5 0) refl

pub returns-clause-not_the_first_pair : goal.returns-clause-not_the_first_pair
returns-clause-not_the_first_pair c = not-the-first-pair

pub returns-clause-not_the_first : goal.returns-clause-not_the_first
returns-clause-not_the_first c = not-the-first

pub returns-clause-not_its_digits : goal.returns-clause-not_its_digits
returns-clause-not_its_digits c = not-its-digits

pub returns-clause-not_shown : goal.returns-clause-not_shown
returns-clause-not_shown c = λ none. none (at 0 0) tt
