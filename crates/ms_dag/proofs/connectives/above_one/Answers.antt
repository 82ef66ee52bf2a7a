use Rattle.std.proofs.Common.{◌≡◌, ◌∷◌, [], List, ℕ, Contains, sym, subst, arith}
use Rattle.ms_dag.specs.declared.node.Child.{Child}
use Rattle.ms_dag.specs.inner.Connectives.{node_of_one}
use Rattle.ms_dag.specs.inner.Maps.{AreTheSameIn}
use Rattle.ms_dag.specs.Places.{AreAmong}
use Rattle.ms_dag.specs.inner.Shared.{IsMade}
use Rattle.ms_dag.specs.declared.connectives.Unary.{Unary}
use Rattle.ms_dag.specs.declared.connectives.Unary.TheVariants.{Not, Restrict}
use Rattle.ms_dag.specs.Dag.{children_of}
use Rattle.ms_dag.proofs.Members.{All-map_of}
use Rattle.ms_dag.proofs.Results.{if_ok}
use Rattle.ms_dag.proofs.UnionLemmas.{union_there, above_union}
use Rattle.ms_dag.proofs.connectives.above_one.Goals as goal

pub placed-requires-clause-there : goal.placed-requires-clause-there
placed-requires-clause-there c =
    subst (λ list. AreAmong list c.args.part.map) (sym c.slice.ensures)
    (All-map_of (Contains c.in_ok-names.names) (c.args.part ∷ []) 0 c.args.part (omega arith) (union_there (c.args.part ∷ []) c.in_ok-names.names c.in_ok-names.ensures.same))

children_of_one : (names : List ℕ) (part placed : Child) (unary : Unary) → AreTheSameIn names (part ∷ []) (placed ∷ []) → AreTheSameIn names (part ∷ []) (children_of (node_of_one unary placed))
children_of_one names part placed Not same = same
children_of_one names part placed Restrict same = same

pub returns-clause-above : goal.returns-clause-above
returns-clause-above c =
    let parts : List Child = c.args.part ∷ [] in
    let names = c.in_ok-names.names in
    let is : c.node_of_one.result ≡ node_of_one c.args.unary c.in_ok-child.child = c.node_of_one.ensures in
    let same : AreTheSameIn names parts (c.in_ok-child.child ∷ []) =
    subst (λ list. AreTheSameIn list parts (c.in_ok-child.child ∷ [])) c.slice.ensures (c.in_ok-child.ensures, tt) in
    if_ok c.number_node.result _ _
    (λ child made. (
      c.in_ok-child.child,
      above_union parts names c.in_ok-names.ensures.same _ _ _ _ child c.in_ok-names.ensures.rising
          (children_of_one names c.args.part c.in_ok-child.child c.args.unary same)
          (subst (λ n. IsMade c.args.orders.now c.args.nodes.now.entries c.number_node.new.nodes.entries n names child) is made),
    ))
    c.number_node.ensures.made
