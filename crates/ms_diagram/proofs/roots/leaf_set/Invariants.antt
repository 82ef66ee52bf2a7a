use Rattle.std.proofs.Common.{◌≡◌, ◌++◌, drop}
use Rattle.ms_diagram.specs.Collect.{leaf_values}
use Rattle.ms_diagram.proofs.roots.leaf_set.Given as goal

abbrev pub invariant-loop-root : goal.invariant-loop-root
invariant-loop-root l = l.values.items ++ leaf_values (drop l.root-index l.roots) ≡ leaf_values l.roots
