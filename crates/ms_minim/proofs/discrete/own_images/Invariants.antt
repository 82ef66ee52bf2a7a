use Rattle.ms_minim.specs.inner.Discrete.{AreOwnImages}
use Rattle.ms_minim.proofs.discrete.own_images.Given as goal

-- the references so far
abbrev pub invariant-loop-place : goal.invariant-loop-place
invariant-loop-place l = AreOwnImages l.place l.list
