use Rattle.std.proofs.Common.{◌≡◌, length}
use Rattle.ms_diagram.specs.Store.{IsStore}
use Rattle.ms_rename.specs.inner.Image.{AreImages}
use Rattle.ms_rename.proofs.images.images.Given as goal

-- the images of the nodes so far
abbrev pub invariant-loop-place : goal.invariant-loop-place
invariant-loop-place l =
    (length l.made ≡ l.place)
    × IsStore l.scratch.nodes l.scratch.limit
    × AreImages l.scratch.nodes l.from.nodes l.places l.made
