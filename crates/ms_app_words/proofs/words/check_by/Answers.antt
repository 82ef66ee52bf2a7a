use Rattle.std.proofs.Common.{refl}
use Rattle.clap.specs.Words.{found_of, rows_of}
use Rattle.ms_app_words.proofs.Matches.{no_name}
use Rattle.ms_app_words.proofs.words.check_by.Goals as goal

pub returns-in-Ok-clause-command : goal.returns-in-Ok-clause-command
returns-in-Ok-clause-command c = (refl, c.in-Ok.ensures.text)

pub returns-in-Err-clause-usage : goal.returns-in-Err-clause-usage
returns-in-Err-clause-usage c = λ is_usage. no_name (rows_of (found_of c.args.matches.now)) (c.in-Err.ensures.usage is_usage)
