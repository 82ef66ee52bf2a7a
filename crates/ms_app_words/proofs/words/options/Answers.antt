use Rattle.std.proofs.Common.{sym, subst, ◌∙◌}
use Rattle.std.proofs.lemmas.Result.{IfOk-weaker}
use Rattle.ms_app_words.specs.Command.{IsCommand}
use Rattle.ms_app_words.proofs.OneCommand.{command_by}
use Rattle.ms_app_words.proofs.words.options.Goals as goal

pub returns-in-Some-clause-command : goal.returns-in-Some-clause-command
returns-in-Some-clause-command c = IfOk-weaker c.asked.result _ _
    (λ command is.
    subst (λ words. IsCommand words command) c.slice-words.ensures
    (command_by c.slice-words.result.now c.in-Some.verb command (sym c.first_verb.ensures ∙ c.in-Some.is) is.0 is.1)) c.asked.ensures.command
