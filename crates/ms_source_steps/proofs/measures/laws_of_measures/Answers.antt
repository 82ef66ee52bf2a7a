use Rattle.ms_source_steps.proofs.KnownSteps.{known_steps_are_measured}
use Rattle.ms_source_steps.proofs.EnoughSteps.{enough_is_not_below}
use Rattle.ms_source_steps.proofs.measures.laws_of_measures.Goals as goal

pub returns : goal.returns
returns c = record { measured = known_steps_are_measured; enough = enough_is_not_below }
