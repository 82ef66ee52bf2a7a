use Rattle.ms_build_source.proofs.ExampleSolutions.{solved, wrong_goal}
use Rattle.ms_build_source.proofs.examples.worked_solutions.Goals as goal

pub returns-clause-solved : goal.returns-clause-solved
returns-clause-solved c = solved

pub returns-clause-wrong_goal : goal.returns-clause-wrong_goal
returns-clause-wrong_goal c = wrong_goal
