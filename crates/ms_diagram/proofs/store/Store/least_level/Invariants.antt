use Rattle.std.proofs.Common.{◌≡◌, ◌≤◌, min, drop}
use Rattle.std.specs.List.{AllWithin}
use Rattle.ms_arena.specs.Halves.{IsLeaf}
use Rattle.ms_diagram.specs.Collect.{least_level}
use Rattle.ms_diagram.proofs.store.Store.least_level.Given as goal

abbrev pub invariant-loop-root : goal.invariant-loop-root
invariant-loop-root l =
    (min l.least (least_level l.self.nodes (drop l.root-index l.roots)) ≡ least_level l.self.nodes l.roots)
    × (l.least ≤ 4294967296) × (l.least ≡ 4294967296 → AllWithin IsLeaf l.roots 0 l.root-index)
