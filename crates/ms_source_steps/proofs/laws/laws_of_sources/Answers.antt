use Rattle.ms_source_steps.proofs.OwnSteps.{lacking_sources_are_below_their_steps, lacking_steps_are_below_their_budgets, numbered_steps_are_steps_of_source}
use Rattle.ms_source_steps.proofs.laws.laws_of_sources.Goals as goal

pub returns : goal.returns
returns c = record { numbered = lacking_steps_are_below_their_budgets; steps = numbered_steps_are_steps_of_source; below = lacking_sources_are_below_their_steps }
