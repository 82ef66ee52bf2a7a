use Rattle.std.proofs.Common.{refl}
use Rattle.ms_logic.proofs.Views.{formula_of-False, formula_of-True}
use Rattle.ms_logic.proofs.examples.verdicts.worked_questions.Goals as goal

pub returns-clause-main : goal.returns-clause-main
returns-clause-main c = rw (formula_of-True) refl

pub returns-clause-goal : goal.returns-clause-goal
returns-clause-goal c = rw (formula_of-False) refl

pub returns-clause-all : goal.returns-clause-all
returns-clause-all c = rw (formula_of-True, formula_of-False) refl
