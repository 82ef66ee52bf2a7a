use Rattle.std.proofs.Common.{◌≡◌, ◌∷◌, [], List, ℕ, length, Contains, None, sym, ap, subst, ◌∙◌, arith}
use Rattle.std.proofs.lemmas.List.{length_push}
use Rattle.ms_dag.specs.declared.node.Child.{Child}
use Rattle.ms_dag.specs.declared.node.DagNode.TheVariants.{Bind}
use Rattle.ms_dag.specs.inner.Maps.{AreTheSameIn}
use Rattle.ms_dag.specs.Places.{AreAmong}
use Rattle.ms_dag.specs.inner.Shared.{IsMade}
use Rattle.ms_dag.proofs.BinderLemmas.{bound_there, above_bound}
use Rattle.ms_dag.proofs.Members.{All-map_of}
use Rattle.ms_dag.proofs.Results.{if_ok}
use Rattle.ms_dag.proofs.UnionLemmas.{union_below}
use Rattle.ms_dag.proofs.binders.above_body.Goals as goal

pub with_bound-requires-clause-greatest : goal.with_bound-requires-clause-greatest
with_bound-requires-clause-greatest c = union_below (c.args.body ∷ []) c.in_ok-names.names c.in_ok-names.ensures.same _ c.requires.greatest

pub overflow_cast-node : goal.overflow_cast-node
overflow_cast-node c =
    let ends = c.in_ok-all.ensures.ends in
    let whole = ap length ends.ends ∙ length_push ends.own c.args.binder.variable in
    let own = ap length (c.without_last-own.ensures ends.own c.args.binder.variable ends.ends) in
    omega (arith, c.in_ok-all.ensures.few, whole, own, c.len.ensures)

pub placed-requires-clause-there : goal.placed-requires-clause-there
placed-requires-clause-there c =
    subst (λ list. AreAmong list c.args.body.map) (sym c.slice.ensures)
    (All-map_of (Contains c.in_ok-all.all) (c.args.body ∷ []) 0 c.args.body (omega arith)
    (bound_there c.in_ok-names.names c.args.binder.variable c.in_ok-all.all c.in_ok-all.ensures.ends (c.args.body ∷ []) c.in_ok-names.ensures.same))

pub returns-clause-above : goal.returns-clause-above
returns-clause-above c =
    let parts : List Child = c.args.body ∷ [] in
    let ends = c.in_ok-all.ensures.ends in
    let x = c.args.binder.variable in
    let one = c.in_ok-child.child in
    let own_is = c.without_last-own.ensures ends.own x ends.ends in
    let same : AreTheSameIn c.in_ok-all.all parts (one ∷ []) = subst (λ list. AreTheSameIn list parts (one ∷ [])) c.slice.ensures (c.in_ok-child.ensures, tt) in
    if_ok c.number_node.result _ _
    (λ child made.
    let long : c.len.result ≡ length child.map = c.len.ensures ∙ ap length (sym made.map) in
    let R : ℕ → Type 0 = λ k. IsMade c.args.orders.now c.args.nodes.now.entries c.number_node.new.nodes.entries (Bind c.args.binder.quant c.args.binder.order k None one) c.without_last-own.result child in
    let S : List ℕ → Type 0 = λ list. IsMade c.args.orders.now c.args.nodes.now.entries c.number_node.new.nodes.entries (Bind c.args.binder.quant c.args.binder.order (length child.map) None one) list child in
    (one, above_bound c.in_ok-names.names x c.in_ok-all.all ends parts c.in_ok-names.ensures.same _ _ _ _ child same (subst S own_is (subst R long made))))
    c.number_node.ensures.made
