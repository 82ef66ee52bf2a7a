use Rattle.ms_include_laws.proofs.of_loads.Typing.{one_main_question, one_problem, same_goals_asked}
use Rattle.ms_include_laws.proofs.of_loads.Verdicts.{no_first_fault, not_too_deep, not_too_large}
use Rattle.ms_include_laws.proofs.loads.laws.laws_of_checks.Goals as goal

pub returns-clause-faultless : goal.returns-clause-faultless
returns-clause-faultless c = no_first_fault

pub returns-clause-shallow : goal.returns-clause-shallow
returns-clause-shallow c = not_too_deep

pub returns-clause-small : goal.returns-clause-small
returns-clause-small c = not_too_large

pub returns-clause-problem : goal.returns-clause-problem
returns-clause-problem c = one_problem

pub returns-clause-questions : goal.returns-clause-questions
returns-clause-questions c = λ loaded one other answers is is'. (one_main_question loaded one other answers is is', same_goals_asked loaded one other answers is is')
