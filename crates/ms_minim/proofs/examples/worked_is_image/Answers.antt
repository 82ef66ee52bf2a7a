use Rattle.std.proofs.Common.{[], ◌∷◌}
use Rattle.ms_minim.proofs.ExampleImages.{earlier_variable, leaf_image, no_leaf_image, node_image}
use Rattle.ms_minim.proofs.examples.worked_is_image.Goals as goal

pub returns-clause-same : goal.returns-clause-same
returns-clause-same c = node_image 0 1 (0 ∷ 1 ∷ 1 ∷ [])

pub returns-clause-turned_round : goal.returns-clause-turned_round
returns-clause-turned_round c = node_image 0 1 (1 ∷ 0 ∷ 0 ∷ [])

pub returns-clause-one_class : goal.returns-clause-one_class
returns-clause-one_class c = leaf_image

pub returns-clause-two_classes : goal.returns-clause-two_classes
returns-clause-two_classes c = no_leaf_image 1

pub returns-clause-earlier : goal.returns-clause-earlier
returns-clause-earlier c = earlier_variable
