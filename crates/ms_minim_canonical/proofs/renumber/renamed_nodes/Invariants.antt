use Rattle.std.proofs.Common.{take}
use Rattle.ms_minim_canonical.specs.inner.Renumbering.{ArePaired, IsNodeOf}
use Rattle.ms_minim_canonical.proofs.renumber.renamed_nodes.Given as goal

-- the nodes so far
abbrev pub invariant-loop-place : goal.invariant-loop-place
invariant-loop-place l = ArePaired (IsNodeOf l.store.nodes l.seen.states.keys l.seen.places.keys) (take l.place-index l.seen.places.keys) l.made
