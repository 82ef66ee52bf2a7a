use Rattle.std.proofs.Common.{sym, ◌∙◌, []}
use Rattle.ms_minim.proofs.ExampleLemmas.{stay_yes}
use Rattle.ms_minim.proofs.examples.worked_residuals.Goals as goal

pub returns-clause-equal : goal.returns-clause-equal
returns-clause-equal c letters are = let both = stay_yes letters in both.0 ∙ sym both.1

pub returns-clause-different : goal.returns-clause-different
returns-clause-different c equal = let same = equal [] tt in cc
