use Rattle.std.proofs.Common.{Bool, sym, subst}
use Rattle.std.proofs.lemmas.Result.{IfErr-weaker, IfOk-weaker}
use Rattle.ms_app_words.specs.declared.command.Command.TheVariants.{Gen}
use Rattle.ms_app.specs.Answer.{IsGivenFor, IsRefusedFor}
use Rattle.ms_app.specs.inner.Files.{pairs_of}
use Rattle.ms_app.proofs.text.generation.Goals as goal

pub returns-then-decide-clause-given : goal.returns-then-decide-clause-given
returns-then-decide-clause-given c =
    IfOk-weaker c.generation_summary.result _ _
    (λ given is seen. subst (λ (decide : Bool). IsGivenFor (Gen c.args.number decide) seen given.text (pairs_of given.files)) (sym c.if-decide.true) (is seen))
    c.generation_summary.ensures.given

pub returns-then-decide-clause-refused : goal.returns-then-decide-clause-refused
returns-then-decide-clause-refused c =
    IfErr-weaker c.generation_summary.result _ _
    (λ refusal why seen. subst (λ (decide : Bool). IsRefusedFor (Gen c.args.number decide) seen refusal c.generation_summary.new.names) (sym c.if-decide.true) (why seen))
    c.generation_summary.ensures.refused
