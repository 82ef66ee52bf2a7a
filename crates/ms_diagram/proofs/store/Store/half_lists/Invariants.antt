use Rattle.std.proofs.Common.{◌≡◌, ◌++◌, false, true, map, drop}
use Rattle.ms_arena.specs.Halves.{half_of}
use Rattle.ms_diagram.proofs.store.Store.half_lists.Given as goal

abbrev pub invariant-loop-root : goal.invariant-loop-root
invariant-loop-root l =
    (l.low.items ++ map (half_of l.self.nodes l.var false) (drop l.root-index l.roots) ≡ map (half_of l.self.nodes l.var false) l.roots)
    × (l.high.items ++ map (half_of l.self.nodes l.var true) (drop l.root-index l.roots) ≡ map (half_of l.self.nodes l.var true) l.roots)
