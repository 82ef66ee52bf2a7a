use Rattle.std.proofs.Common.{◌≡◌}
use Rattle.ms_diagram.specs.inner.Listed.{lists_of, AreChained}
use Rattle.ms_diagram.proofs.listed.link_all.Given as goal

abbrev pub invariant-loop-place : goal.invariant-loop-place
invariant-loop-place l = AreChained l.cells l.heads l.place × (lists_of l.cells ≡ lists_of l.initial.cells)
