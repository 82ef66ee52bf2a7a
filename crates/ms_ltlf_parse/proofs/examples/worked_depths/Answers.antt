use Rattle.std.proofs.Common.{refl}
use Rattle.ms_ltlf_parse.specs.inner.Examples.{bracketed}
use Rattle.ms_parse_stack.proofs.Trials.{too_deep_at_the_end}
use Rattle.ms_ltlf_parse.proofs.Readings.{recognises}
use Rattle.ms_ltlf_parse.proofs.examples.worked_depths.Goals as goal

pub returns-clause-too_deep : goal.returns-clause-too_deep
returns-clause-too_deep c names f reads = too_deep_at_the_end recognises (bracketed 300) refl (names, f, reads)
