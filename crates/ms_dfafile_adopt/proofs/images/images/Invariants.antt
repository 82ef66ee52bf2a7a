use Rattle.std.proofs.Common.{◌≡◌, ◌≤◌, length}
use Rattle.ms_diagram.specs.Store.{IsStore}
use Rattle.ms_dfafile_adopt.specs.inner.Images.{HaveBecome}
use Rattle.ms_dfafile_adopt.proofs.images.images.Given as goal

-- what the nodes so far have become
abbrev pub invariant-loop-node : goal.invariant-loop-node
invariant-loop-node l =
    (length l.made ≡ l.node-index)
    × IsStore l.store.nodes l.store.limit
    × HaveBecome l.store.nodes l.nodes l.made
    × (l.store.limit ≡ l.initial.store.limit)
    × (length l.store.nodes ≤ l.node-index)
