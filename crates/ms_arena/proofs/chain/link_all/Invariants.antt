use Rattle.std.proofs.Common.{◌≡◌}
use Rattle.ms_arena.specs.inner.Chain.{nodes_of, AreLinked}
use Rattle.ms_arena.proofs.chain.link_all.Given as goal

abbrev pub invariant-loop-place : goal.invariant-loop-place
invariant-loop-place l =
    AreLinked l.cells.cells l.heads l.place × (nodes_of l.cells.cells ≡ nodes_of l.initial.cells.cells) × (l.cells.spare ≡ l.initial.cells.spare)
