use Rattle.std.proofs.Common.{refl}
use Rattle.std.proofs.lemmas.Option.{MatchOption-at_none, MatchOption-at_some}
use Rattle.clap.specs.Words.{found_of, rows_of}
use Rattle.ms_app_words.proofs.Matches.{no_file_to_decide, no_format}
use Rattle.ms_app_words.proofs.words.decide_by.Goals as goal

pub returns-in_default-clause-usage : goal.returns-in_default-clause-usage
returns-in_default-clause-usage c = λ is_usage. no_format (rows_of (found_of c.args.matches.now)) (MatchOption-at_none _ _ c.in_default.is c.format_of.ensures)

pub returns-in-Err-clause-usage : goal.returns-in-Err-clause-usage
returns-in-Err-clause-usage c = λ is_usage. no_file_to_decide (rows_of (found_of c.args.matches.now)) (c.in-Err.ensures.usage is_usage)

pub returns-clause-command : goal.returns-clause-command
returns-clause-command c = (
  refl,
  (
    c.in-Ok.ensures.named.0,
    c.in-Ok-option_of.ensures,
    c.in-Ok.ensures.named.1,
    c.is_given-stats.ensures,
    MatchOption-at_some _ _ c.in-Some.format c.in-Some.is c.format_of.ensures,
  ),
)
