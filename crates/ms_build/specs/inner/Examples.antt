-- The roots of a graph for worked examples.
use Rattle.std.specs.Prelude.{List, [], ◌∷◌}
use Rattle.ms_dag.specs.declared.node.Child.{Child}
use Rattle.ms_dag.specs.inner.Examples.{child}

-- x < y & y < z, over variables 0, 4 and 6
abbrev pub between_alone : List Child
between_alone = child 1 (0 ∷ 4 ∷ 6 ∷ []) ∷ []
