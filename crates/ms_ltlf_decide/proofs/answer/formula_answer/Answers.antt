use Rattle.std.proofs.Common.{◌≡◌, ◌⊎◌, [], length}
use Rattle.std.proofs.lemmas.Result.{IfErr-weaker, IfOk-weaker}
use Rattle.ms_app_answer.specs.Answer.{IsAnswer}
use Rattle.ms_app_solved.specs.Alone.{IsUnsolvedAlone}
use Rattle.ms_build_source.specs.Limits.{IsWithinLimits}
use Rattle.ms_edge.specs.declared.refusal.Refusal.TheVariants.{Memory}
use Rattle.ms_logic.specs.View.{main_question, problem_of}
use Rattle.ms_ltlf.specs.Source.{string_problem}
use Rattle.ms_ltlf.specs.View.{temporal_of}
use Rattle.ms_ltlf_decide.specs.Answer.{IsTraceAnswer}
use Rattle.ms_ltlf_decide.specs.Formula.{IsUnsolvedFormula}
use Rattle.ms_ltlf_decide.proofs.Answered.{answered, refused-for, within-limits}
use Rattle.ms_ltlf_decide.proofs.answer.formula_answer.Goals as goal

pub returns-clause-answer : goal.returns-clause-answer
returns-clause-answer c =
    let trace = c.args.trace.now in
    let f = temporal_of trace.formula in
    IfOk-weaker c.solved_answer.result (IsAnswer (main_question c.in-Ok.source [])) (IsTraceAnswer (length trace.names) f)
    (answered trace.names f c.in-Ok.source c.in-Ok.ensures.source) c.solved_answer.ensures.answer

pub returns-clause-within : goal.returns-clause-within
returns-clause-within c =
    let trace = c.args.trace.now in
    let f = temporal_of trace.formula in
    IfOk-weaker c.solved_answer.result (λ answer. IsWithinLimits (problem_of c.in-Ok.source [])) (λ answer. IsWithinLimits (string_problem trace.names f))
    (λ answer. within-limits trace.names f c.in-Ok.source c.in-Ok.ensures.source) c.solved_answer.ensures.within

pub returns-clause-refused : goal.returns-clause-refused
returns-clause-refused c =
    let trace = c.args.trace.now in
    let f = temporal_of trace.formula in
    IfErr-weaker c.solved_answer.result (λ refusal. (refusal ≡ Memory) ⊎ IsUnsolvedAlone c.in-Ok.source c.args.limit refusal)
    (λ refusal. (refusal ≡ Memory) ⊎ IsUnsolvedFormula trace.names f c.args.limit refusal)
    (λ refusal. refused-for trace.names f c.in-Ok.source c.in-Ok.ensures.source c.args.limit refusal) c.solved_answer.ensures.refused
