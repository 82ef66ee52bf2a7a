use Rattle.std.proofs.Common.{refl}
use Rattle.clap.specs.Words.{found_of, rows_of}
use Rattle.ms_app_words.proofs.Matches.{no_file_to_certify, no_name_to_certify}
use Rattle.ms_app_words.proofs.words.certify_by.Goals as goal

pub returns-in-Err-clause-usage : goal.returns-in-Err-clause-usage
returns-in-Err-clause-usage c = λ is_usage. no_file_to_certify (rows_of (found_of c.args.matches.now)) (c.in-Err.ensures.usage is_usage)

pub returns-in-Ok-text_of-clause-command : goal.returns-in-Ok-text_of-clause-command
returns-in-Ok-text_of-clause-command c = (refl, (c.in-Ok.ensures.named, c.in-Ok-text_of.ensures.text))

pub returns-in-Err-text_of-clause-usage : goal.returns-in-Err-text_of-clause-usage
returns-in-Err-text_of-clause-usage c = λ is_usage. no_name_to_certify (rows_of (found_of c.args.matches.now)) (c.in-Err-text_of.ensures.usage is_usage)
