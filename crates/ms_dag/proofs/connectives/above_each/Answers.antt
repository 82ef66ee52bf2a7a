use Rattle.std.proofs.Common.{◌≡◌, List, ℕ, sym, subst}
use Rattle.ms_dag.specs.declared.node.Child.{Child}
use Rattle.ms_dag.specs.declared.node.DagNode.{DagNode}
use Rattle.ms_dag.specs.inner.Connectives.{node_of_each}
use Rattle.ms_dag.specs.Dag.{places_in_maps}
use Rattle.ms_dag.specs.inner.Maps.{AreTheSameIn}
use Rattle.ms_dag.specs.Places.{AreAmong}
use Rattle.ms_dag.specs.inner.Shared.{IsMade}
use Rattle.ms_dag.specs.declared.connectives.Nary.{Nary}
use Rattle.ms_dag.specs.declared.connectives.Nary.TheVariants.{And, Or}
use Rattle.ms_dag.specs.Dag.{children_of}
use Rattle.ms_dag.proofs.Results.{if_ok}
use Rattle.ms_dag.proofs.UnionLemmas.{union_there, above_union}
use Rattle.ms_dag.proofs.connectives.above_each.Goals as goal

pub placed_each-requires-clause-there : goal.placed_each-requires-clause-there
placed_each-requires-clause-there c =
    subst (λ list. AreAmong list (places_in_maps c.args.parts.now)) (sym c.slice.ensures) (union_there c.args.parts.now c.in_ok-names.names c.in_ok-names.ensures.same)

children_of_each : (names : List ℕ) (parts placed : List Child) (nary : Nary) (node : DagNode) → node ≡ node_of_each nary placed → AreTheSameIn names parts placed → AreTheSameIn names parts (children_of (node_of_each nary placed))
children_of_each names parts placed And node is same = same
children_of_each names parts placed Or node is same = same

pub returns-clause-above : goal.returns-clause-above
returns-clause-above c =
    let names = c.in_ok-names.names in
    let node = c.node_of_each.result in
    let is : node ≡ node_of_each c.args.nary c.in_ok-children.children = c.node_of_each.ensures in
    let same : AreTheSameIn names c.args.parts.now c.in_ok-children.children =
    subst (λ list. AreTheSameIn list c.args.parts.now c.in_ok-children.children) c.slice.ensures c.in_ok-children.ensures in
    if_ok c.number_node.result _ _
    (λ child made. (
      c.in_ok-children.children,
      above_union c.args.parts.now names c.in_ok-names.ensures.same _ _ _ _ child c.in_ok-names.ensures.rising
          (children_of_each names c.args.parts.now c.in_ok-children.children c.args.nary node is same)
          (subst (λ n. IsMade c.args.orders.now c.args.nodes.now.entries c.number_node.new.nodes.entries n names child) is made),
    ))
    c.number_node.ensures.made
