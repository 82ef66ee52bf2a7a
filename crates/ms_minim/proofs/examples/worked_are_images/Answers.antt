use Rattle.std.proofs.Common.{refl, lit<}
use Rattle.ms_arena.specs.declared.node.Ref.TheVariants.{Leaf}
use Rattle.ms_minim.proofs.ExampleImages.{leaf_images, no_leaf_image, node_images}
use Rattle.ms_minim.proofs.examples.worked_are_images.Goals as goal

pub returns-clause-same : goal.returns-clause-same
returns-clause-same c = node_images

pub returns-clause-one_class : goal.returns-clause-one_class
returns-clause-one_class c = leaf_images

pub returns-clause-other : goal.returns-clause-other
returns-clause-other c are = no_leaf_image 0 (are.each 0 (Leaf 0) (lit< tt) refl)

pub returns-clause-equal_ends : goal.returns-clause-equal_ends
returns-clause-equal_ends c are = are.store.reduced.ends_differ 0 (record { var = 0; low = Leaf 3; high = Leaf 3 }) refl refl
