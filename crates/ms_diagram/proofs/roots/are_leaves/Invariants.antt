use Rattle.std.specs.List.{AllWithin}
use Rattle.ms_arena.specs.Halves.{IsLeaf}
use Rattle.ms_diagram.proofs.roots.are_leaves.Given as goal

abbrev pub invariant-loop-root : goal.invariant-loop-root
invariant-loop-root l = AllWithin IsLeaf l.roots 0 l.root-index
