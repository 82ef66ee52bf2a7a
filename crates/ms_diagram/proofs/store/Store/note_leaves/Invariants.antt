use Rattle.std.proofs.Common.{length, fold, reverse}
use Rattle.ms_arena.specs.Leaves.{leaves_within}
use Rattle.ms_diagram.specs.Leaves.{noted}
use Rattle.ms_diagram.proofs.Noting.{IsNoting}
use Rattle.ms_diagram.proofs.store.Store.note_leaves.Given as goal

abbrev pub invariant-loop : goal.invariant-loop
invariant-loop l = IsNoting l.self.nodes (fold noted l.fn.leaves.keys (leaves_within l.self.nodes (length l.self.nodes) l.fn.root)) l.leaves.keys l.places.keys (reverse l.tasks.items)
