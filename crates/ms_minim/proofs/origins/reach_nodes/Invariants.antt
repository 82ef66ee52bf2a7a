use Rattle.std.proofs.Common.{ℕ, ◌<◌, slice_index}
use Rattle.ms_minim.specs.inner.Origin.{nowhere}
use Rattle.ms_minim.proofs.origins.reach_nodes.Given as goal

-- the nodes so far are
abbrev pub invariant-loop-place : goal.invariant-loop-place
invariant-loop-place l = (place : ℕ) → place < l.place → slice_index l.origins.nodes.items place < nowhere
