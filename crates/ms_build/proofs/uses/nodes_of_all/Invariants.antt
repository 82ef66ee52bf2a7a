use Rattle.std.proofs.Common.{◌≡◌, map, take}
use Rattle.ms_dag.specs.declared.node.Child.{Child}
use Rattle.ms_build.proofs.uses.nodes_of_all.Given as goal

-- the nodes of the children so far
abbrev pub invariant-loop-child : goal.invariant-loop-child
invariant-loop-child l = l.nodes.items ≡ map (λ (c : Child). c.node) (take l.child-index l.children)
