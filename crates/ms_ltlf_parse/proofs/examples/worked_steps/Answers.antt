use Rattle.std.proofs.Common.{[], ◌∷◌, lit≤}
use Rattle.ms_ltlf_parse.specs.inner.Examples.{a, b}
use Rattle.ms_ltlf_parse.proofs.Readings.{follows, follows_deeper, goes_on}
use Rattle.ms_ltlf_parse.proofs.examples.worked_steps.Goals as goal

pub returns-clause-stops_at : goal.returns-clause-stops_at
returns-clause-stops_at c = (follows (a ∷ []) tt (lit≤ tt), goes_on (a ∷ b ∷ []))

pub returns-clause-stops_later : goal.returns-clause-stops_later
returns-clause-stops_later c stops = stops.1 (follows_deeper (a ∷ []) tt)
