use Rattle.std.proofs.Common.{◌≡◌, length}
use Rattle.ms_minim.specs.inner.Hash.{HaveHashes}
use Rattle.ms_minim.proofs.hashes.hashes.Given as goal

-- the nodes so far have their hashes
abbrev pub invariant-loop-place : goal.invariant-loop-place
invariant-loop-place l = (length l.made ≡ l.place) × HaveHashes l.store.nodes l.classes l.made
