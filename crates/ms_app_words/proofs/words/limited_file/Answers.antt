use Rattle.std.proofs.lemmas.Option.{MatchOption-at_none, MatchOption-at_some}
use Rattle.clap.specs.Words.{found_of, rows_of}
use Rattle.ms_app_words.proofs.Matches.{no_file_limit, no_limited_file}
use Rattle.ms_app_words.proofs.words.limited_file.Goals as goal

pub returns-in_default-clause-usage : goal.returns-in_default-clause-usage
returns-in_default-clause-usage c = λ is_usage. no_file_limit (rows_of (found_of c.args.matches.now)) (MatchOption-at_none _ _ c.in_default.is c.limit_of.ensures)

pub returns-in-Err-clause-usage : goal.returns-in-Err-clause-usage
returns-in-Err-clause-usage c = λ is_usage. no_limited_file (rows_of (found_of c.args.matches.now)) (c.in-Err.ensures.usage is_usage)

pub returns-clause-named : goal.returns-clause-named
returns-clause-named c = (c.in-Ok.ensures.text, MatchOption-at_some _ _ c.in-Some.max_nodes c.in-Some.is c.limit_of.ensures)
