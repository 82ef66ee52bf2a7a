use Rattle.std.proofs.Common.{◌≡◌, ◌∷◌, [], List, ℕ, Contains, sym, subst, arith}
use Rattle.ms_dag.specs.declared.node.Child.{Child}
use Rattle.ms_dag.specs.inner.Connectives.{node_of_two}
use Rattle.ms_dag.specs.inner.Maps.{AreTheSameIn, IsPlaced}
use Rattle.ms_dag.specs.Places.{AreAmong}
use Rattle.ms_dag.specs.inner.Shared.{IsMade}
use Rattle.ms_dag.specs.declared.connectives.Binary.{Binary}
use Rattle.ms_dag.specs.declared.connectives.Binary.TheVariants.{Implies, Iff}
use Rattle.ms_dag.specs.Dag.{children_of}
use Rattle.ms_dag.proofs.Members.{All-map_of}
use Rattle.ms_dag.proofs.Results.{if_ok}
use Rattle.ms_dag.proofs.UnionLemmas.{union_there, above_union}
use Rattle.ms_dag.proofs.connectives.above_two.Goals as goal

pub placed-requires-clause-there : goal.placed-requires-clause-there
placed-requires-clause-there c =
    let parts : List Child = c.args.left ∷ c.args.right ∷ [] in
    subst (λ list. AreAmong list c.args.left.map) (sym c.slice.ensures)
    (All-map_of (Contains c.in_ok-names.names) parts 0 c.args.left (omega arith) (union_there parts c.in_ok-names.names c.in_ok-names.ensures.same))

pub placed-requires-2-clause-there : goal.placed-requires-2-clause-there
placed-requires-2-clause-there c =
    let parts : List Child = c.args.left ∷ c.args.right ∷ [] in
    subst (λ list. AreAmong list c.args.right.map) (sym c.slice-2.ensures)
    (All-map_of (Contains c.in_ok-names.names) parts 1 c.args.right (omega arith) (union_there parts c.in_ok-names.names c.in_ok-names.ensures.same))

children_of_two : (names : List ℕ) (parts : List Child) (one two : Child) (binary : Binary) → AreTheSameIn names parts (one ∷ two ∷ []) → AreTheSameIn names parts (children_of (node_of_two binary one two))
children_of_two names parts one two Implies same = same
children_of_two names parts one two Iff same = same

pub returns-clause-above : goal.returns-clause-above
returns-clause-above c =
    let parts : List Child = c.args.left ∷ c.args.right ∷ [] in
    let names = c.in_ok-names.names in
    let one = c.in_ok-first.first in
    let two = c.in_ok-second.second in
    let is : c.node_of_two.result ≡ node_of_two c.args.binary one two = c.node_of_two.ensures in
    let same : AreTheSameIn names parts (one ∷ two ∷ []) =
    (subst (λ list. IsPlaced list c.args.left one) c.slice.ensures c.in_ok-first.ensures, (subst (λ list. IsPlaced list c.args.right two) c.slice-2.ensures c.in_ok-second.ensures, tt)) in
    if_ok c.number_node.result _ _
    (λ child made. (
      one,
      two,
      above_union parts names c.in_ok-names.ensures.same _ _ _ _ child c.in_ok-names.ensures.rising
          (children_of_two names parts one two c.args.binary same)
          (subst (λ n. IsMade c.args.orders.now c.args.nodes.now.entries c.number_node.new.nodes.entries n names child) is made),
    ))
    c.number_node.ensures.made
