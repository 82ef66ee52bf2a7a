use Rattle.std.proofs.Common.{◌≡◌, ◌≤◌, length}
use Rattle.ms_diagram.specs.Store.{IsStore}
use Rattle.ms_minim.specs.inner.Image.{HaveImages}
use Rattle.ms_minim.proofs.images.images_of.Given as goal

-- the images of the nodes so far
abbrev pub invariant-loop-place : goal.invariant-loop-place
invariant-loop-place l =
    (length l.list ≡ l.place)
    × IsStore l.store.nodes l.store.limit
    × HaveImages l.store.nodes l.reached.store.now.nodes l.reached.classes.now l.reached.origins.now l.list
    × (length l.store.nodes ≤ l.place)
