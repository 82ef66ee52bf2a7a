use Rattle.std.proofs.Common.{inl, inr, ⊎_elim, refl, arith}
use Rattle.ms_dag.specs.inner.Examples.{between}
use Rattle.ms_build.proofs.ExampleLemmas.{node_of_root, two_nodes, no_third}
use Rattle.ms_build.proofs.examples.worked_uses.Goals as goal

pub returns-clause-child : goal.returns-clause-child
returns-clause-child c = inr (1, between, omega arith, refl, (0, omega arith, refl))

pub returns-clause-behind_its_last_use : goal.returns-clause-behind_its_last_use
returns-clause-behind_its_last_use c = λ used. ⊎_elim
    (λ root. let is = node_of_root 0 root in omega (arith, is))
    (λ node. let low = node.2 in let high = two_nodes node.0 node.1 node.3 in omega (arith, low, high))
    used

pub returns-clause-root : goal.returns-clause-root
returns-clause-root c = inl (0, omega arith, refl)

pub returns-clause-no_node : goal.returns-clause-no_node
returns-clause-no_node c = λ used. ⊎_elim
    (λ root. let is = node_of_root 2 root in omega (arith, is))
    (λ node. no_third node.0 node.1 node.3 node.4)
    used
