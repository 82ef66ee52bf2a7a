use Rattle.std.proofs.Common.{[], ◌∷◌, refl}
use Rattle.ms_presburger_parse.specs.Symbol.{word_true}
use Rattle.ms_presburger_parse.specs.inner.Examples.{a, bracketed}
use Rattle.ms_parse_stack.proofs.Trials.{too_deep_at_the_end}
use Rattle.ms_presburger_parse.proofs.Readings.{recognises}
use Rattle.ms_presburger_parse.proofs.examples.worked_depths.Goals as goal

pub returns-clause-comparison_too_deep : goal.returns-clause-comparison_too_deep
returns-clause-comparison_too_deep c f reads = too_deep_at_the_end recognises (bracketed 299 a) refl (f, reads)

pub returns-clause-word_too_deep : goal.returns-clause-word_too_deep
returns-clause-word_too_deep c f reads = too_deep_at_the_end recognises (bracketed 300 (word_true ∷ [])) refl (f, reads)
