use Rattle.std.proofs.Common.{ap₂, sym, subst, ◌∙◌}
use Rattle.ms_app_answer.specs.Answer.{IsVerdict, verdict_by}
use Rattle.ms_app_answer.proofs.VerdictLemmas.{verdict_is}
use Rattle.ms_app_answer.proofs.question.answer.Goals as goal

pub returns : goal.returns
returns c = λ problem value.
    let example = c.in_ok-example.ensures problem value in
    let counterexample = c.in_ok-counterexample.ensures problem value in
    record {
      verdict = subst (IsVerdict problem) (ap₂ verdict_by (sym c.is_some.ensures) (sym c.is_some-2.ensures) ∙ sym c.verdict.ensures)
          (verdict_is problem c.in_ok-example.example c.in_ok-counterexample.counterexample example counterexample);
      example = example;
      counterexample = counterexample;
    }
