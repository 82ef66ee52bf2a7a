use Rattle.std.proofs.Common.{refl}
use Rattle.std.proofs.lemmas.Option.{MatchOption-at_none, MatchOption-at_some}
use Rattle.clap.specs.Words.{found_of, rows_of}
use Rattle.ms_app_words.proofs.Matches.{no_left, no_limit_to_compare, no_right}
use Rattle.ms_app_words.proofs.words.same_by.Goals as goal

pub returns-in_default-clause-usage : goal.returns-in_default-clause-usage
returns-in_default-clause-usage c = λ is_usage. no_limit_to_compare (rows_of (found_of c.args.matches.now)) (MatchOption-at_none _ _ c.in_default.is c.limit_of.ensures)

pub returns-in-Err-clause-usage : goal.returns-in-Err-clause-usage
returns-in-Err-clause-usage c = λ is_usage. no_left (rows_of (found_of c.args.matches.now)) (c.in-Err.ensures.usage is_usage)

pub returns-in-Err-text_of-clause-usage : goal.returns-in-Err-text_of-clause-usage
returns-in-Err-text_of-clause-usage c = λ is_usage. no_right (rows_of (found_of c.args.matches.now)) (c.in-Err-text_of.ensures.usage is_usage)

pub returns-clause-command : goal.returns-clause-command
returns-clause-command c =
    (refl, (c.in-Ok.ensures.text, c.in-Ok-text_of.ensures.text, MatchOption-at_some _ _ c.in-Some.max_nodes c.in-Some.is c.limit_of.ensures))
