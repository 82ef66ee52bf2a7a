use Rattle.std.proofs.Common.{refl}
use Rattle.ms_parse.proofs.Trials.{reads_by_trial, refused_by_trial}
use Rattle.ms_parse.proofs.examples.example_depths.Goals as goal

pub returns-clause-deepest : goal.returns-clause-deepest
returns-clause-deepest c = reads_by_trial 700 _ _ refl

pub returns-clause-too_deep : goal.returns-clause-too_deep
returns-clause-too_deep c = refused_by_trial 700 _ refl
