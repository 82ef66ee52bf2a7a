use Rattle.std.proofs.Common.{◌≡◌, ◌⊎◌, []}
use Rattle.std.proofs.lemmas.Result.{IfErr-weaker, IfOk-weaker}
use Rattle.ms_app_answer.specs.Answer.{IsAnswer}
use Rattle.ms_app_solved.specs.Alone.{IsUnsolvedAlone}
use Rattle.ms_build_source.specs.Limits.{IsWithinLimits}
use Rattle.ms_edge.specs.declared.refusal.Refusal.TheVariants.{Memory}
use Rattle.ms_logic.specs.View.{main_question, problem_of}
use Rattle.ms_presburger.specs.Source.{set_problem}
use Rattle.ms_presburger.specs.Tree.{free_names}
use Rattle.ms_presburger.specs.View.{arithmetic_of}
use Rattle.ms_presburger_decide.specs.Answer.{IsNumberAnswer}
use Rattle.ms_presburger_decide.specs.Problem.{IsUnsolvedProblem}
use Rattle.ms_presburger_decide.proofs.Answered.{answered, answered-by-sets, refused-for, set-source, within-limits}
use Rattle.ms_report.specs.Numbers.{AreSets, number_answer_of}
use Rattle.ms_presburger_decide.proofs.answer.problem_answer.Goals as goal

pub returns-clause-answer : goal.returns-clause-answer
returns-clause-answer c =
    let f = arithmetic_of c.args.problem.now.formula in
    let is = set-source c.args.problem.now c.requires.well_formed c.in-Ok.source c.in-Ok.ensures.source in
    IfOk-weaker c.solved_answer.result (IsAnswer (main_question c.in-Ok.source [])) (λ answer. IsNumberAnswer f (number_answer_of answer))
    (answered f c.in-Ok.source is) c.solved_answer.ensures.answer

pub returns-clause-example : goal.returns-clause-example
returns-clause-example c =
    let is = set-source c.args.problem.now c.requires.well_formed c.in-Ok.source c.in-Ok.ensures.source in
    IfOk-weaker c.solved_answer.result (IsAnswer (main_question c.in-Ok.source [])) (λ answer. AreSets answer.example)
    (λ answer answers. (answered-by-sets (arithmetic_of c.args.problem.now.formula) c.in-Ok.source is answer answers).0) c.solved_answer.ensures.answer

pub returns-clause-counterexample : goal.returns-clause-counterexample
returns-clause-counterexample c =
    let is = set-source c.args.problem.now c.requires.well_formed c.in-Ok.source c.in-Ok.ensures.source in
    IfOk-weaker c.solved_answer.result (IsAnswer (main_question c.in-Ok.source [])) (λ answer. AreSets answer.counterexample)
    (λ answer answers. (answered-by-sets (arithmetic_of c.args.problem.now.formula) c.in-Ok.source is answer answers).1) c.solved_answer.ensures.answer

pub returns-clause-within : goal.returns-clause-within
returns-clause-within c =
    let f = arithmetic_of c.args.problem.now.formula in
    let is = set-source c.args.problem.now c.requires.well_formed c.in-Ok.source c.in-Ok.ensures.source in
    IfOk-weaker c.solved_answer.result (λ answer. IsWithinLimits (problem_of c.in-Ok.source [])) (λ answer. IsWithinLimits (set_problem (free_names f) f))
    (λ answer. within-limits f c.in-Ok.source is) c.solved_answer.ensures.within

pub returns-clause-refused : goal.returns-clause-refused
returns-clause-refused c =
    let f = arithmetic_of c.args.problem.now.formula in
    let is = set-source c.args.problem.now c.requires.well_formed c.in-Ok.source c.in-Ok.ensures.source in
    IfErr-weaker c.solved_answer.result (λ refusal. (refusal ≡ Memory) ⊎ IsUnsolvedAlone c.in-Ok.source c.args.limit refusal)
    (λ refusal. (refusal ≡ Memory) ⊎ IsUnsolvedProblem f c.args.limit refusal)
    (λ refusal. refused-for f c.in-Ok.source is c.args.limit refusal) c.solved_answer.ensures.refused
