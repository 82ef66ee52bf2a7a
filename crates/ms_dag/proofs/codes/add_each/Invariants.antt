use Rattle.std.proofs.Common.{◌≡◌, ◌++◌, ◌∷◌, length, drop}
use Rattle.ms_dag.specs.inner.Codes.{codes_of_each}
use Rattle.ms_dag.proofs.codes.add_each.Given as goal

abbrev pub invariant-loop-child : goal.invariant-loop-child
invariant-loop-child l = l.codes ++ codes_of_each (drop l.child-index l.children) ≡ l.fn.codes ++ length l.children ∷ codes_of_each l.children
