use Rattle.std.proofs.Common.{⊎_elim}
use Rattle.ms_presburger.specs.View.{arithmetic_of}
use Rattle.ms_presburger_decide.specs.Problem.{no_memory, unsolved}
use Rattle.ms_presburger_decide.proofs.decide.decide_problem.Goals as goal

pub returns-in-Err-clause-refused : goal.returns-in-Err-clause-refused
returns-in-Err-clause-refused g c = c.in-Err.ensures.refused c.args.limit

pub returns-in-Err-problem_answer-clause-refused : goal.returns-in-Err-problem_answer-clause-refused
returns-in-Err-problem_answer-clause-refused g c =
    let problem = c.in-Ok.problem in
    ⊎_elim (λ memory. no_memory memory) (λ why. unsolved (arithmetic_of problem.formula) c.in-Ok.ensures.problem why c.in-Ok.ensures.noted) c.in-Err-problem_answer.ensures.refused
