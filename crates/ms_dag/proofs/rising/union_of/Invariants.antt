use Rattle.std.proofs.Common.{◌≡◌, ◌++◌, drop}
use Rattle.ms_dag.specs.Dag.{places_in_maps}
use Rattle.ms_dag.proofs.rising.union_of.Given as goal

abbrev pub invariant-loop-child : goal.invariant-loop-child
invariant-loop-child l = l.numbers.items ++ places_in_maps (drop l.child-index l.children) ≡ places_in_maps l.children
