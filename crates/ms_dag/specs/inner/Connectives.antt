-- Nodes by their connectives.
use Rattle.std.specs.Prelude.{List}
use Rattle.ms_dag.specs.declared.node.Child.{Child}
use Rattle.ms_dag.specs.declared.node.DagNode.{DagNode}
use Rattle.ms_dag.specs.declared.node.DagNode.TheVariants as node
use Rattle.ms_dag.specs.declared.connectives.Unary.{Unary}
use Rattle.ms_dag.specs.declared.connectives.Unary.TheVariants.{Not, Restrict}
use Rattle.ms_dag.specs.declared.connectives.Binary.{Binary}
use Rattle.ms_dag.specs.declared.connectives.Binary.TheVariants.{Implies, Iff}
use Rattle.ms_dag.specs.declared.connectives.Nary.{Nary}
use Rattle.ms_dag.specs.declared.connectives.Nary.TheVariants.{And, Or}

abbrev pub node_of_one : Unary → Child → DagNode
node_of_one Not c = node.Not c
node_of_one Restrict c = node.Restrict c

abbrev pub node_of_two : Binary → Child → Child → DagNode
node_of_two Implies c d = node.Implies c d
node_of_two Iff c d = node.Iff c d

abbrev pub node_of_each : Nary → List Child → DagNode
node_of_each And cs = node.And cs
node_of_each Or cs = node.Or cs
