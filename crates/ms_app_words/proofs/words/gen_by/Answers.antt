use Rattle.std.proofs.Common.{refl}
use Rattle.std.proofs.lemmas.Option.{MatchOption-at_none, MatchOption-at_some}
use Rattle.clap.specs.Words.{found_of, rows_of}
use Rattle.ms_app_words.proofs.Matches.{no_number}
use Rattle.ms_app_words.proofs.words.gen_by.Goals as goal

pub returns-in_default-clause-usage : goal.returns-in_default-clause-usage
returns-in_default-clause-usage c = λ is_usage. no_number (rows_of (found_of c.args.matches.now)) (MatchOption-at_none _ _ c.in_default.is c.number_of.ensures)

pub returns-clause-command : goal.returns-clause-command
returns-clause-command c = (refl, (MatchOption-at_some _ _ c.in-Some.number c.in-Some.is c.number_of.ensures, c.is_given-decide.ensures))
