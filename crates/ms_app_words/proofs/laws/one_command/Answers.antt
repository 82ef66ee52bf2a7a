use Rattle.ms_app_words.proofs.OneCommand.{one_command}
use Rattle.ms_app_words.proofs.laws.one_command.Goals as goal

pub returns : goal.returns
returns c = one_command
