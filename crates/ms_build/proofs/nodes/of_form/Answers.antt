use Rattle.std.proofs.Common.{IfOk, All, length, sym, subst, inl, inr, refl}
use Rattle.ms_dag.specs.declared.node.DagNode.TheVariants.{And, Or, Not, Implies, Iff, Restrict}
use Rattle.ms_dag.specs.Dag.{HasOwnOrders, IsChild, children_of, orders_inside}
use Rattle.ms_build.specs.Built.{IsMadeOf, IsQuantifiedOf, entries_of}
use Rattle.ms_build.proofs.FormLemmas.{binder_read, child_there, operands_one_order, readable, child_rises, each_rises}
use Rattle.ms_build.proofs.nodes.of_form.Goals as goal
use Rattle.std.proofs.lemmas.Result.{IfOk-weaker}
use Rattle.ms_dfa_explore.specs.Explored.{OnRefused}
use Rattle.ms_build.specs.Short.{FormLacks, QuantifierLacks}
use Rattle.ms_build.proofs.RefusalLemmas.{refused_more}
use Rattle.ms_logic.specs.Assignment.{Variable}

pub relation-requires-clause-orders : goal.relation-requires-clause-orders
relation-requires-clause-orders c =
    operands_one_order c.args.entry.now.orders c.in-Basic.form (subst (λ n. HasOwnOrders n c.args.entry.now.orders) c.in-Basic.is c.requires.node.own)

pub many-requires-clause-readable : goal.many-requires-clause-readable
many-requires-clause-readable c =
    let plan = c.args.plan.now in
    let built = c.args.built.now in
    let orders = c.args.entry.now.orders in
    readable plan built orders c.in-And.children
    (child_there plan (length built) c.args.entry.now c.requires.held c.requires.node (And c.in-And.children) c.in-And.is)
    (subst (λ n. All (IsChild (entries_of plan) (length built) (orders_inside n orders)) (children_of n)) c.in-And.is c.requires.node.children)

pub many-requires-in-Or-clause-readable : goal.many-requires-in-Or-clause-readable
many-requires-in-Or-clause-readable c =
    let plan = c.args.plan.now in
    let built = c.args.built.now in
    let orders = c.args.entry.now.orders in
    readable plan built orders c.in-Or.children
    (child_there plan (length built) c.args.entry.now c.requires.held c.requires.node (Or c.in-Or.children) c.in-Or.is)
    (subst (λ n. All (IsChild (entries_of plan) (length built) (orders_inside n orders)) (children_of n)) c.in-Or.is c.requires.node.children)

pub returns-in-Implies-clause-made : goal.returns-in-Implies-clause-made
returns-in-Implies-clause-made c = subst (λ n. IfOk c.pair.result (IsMadeOf c.args.plan.now c.args.entry.now n)) (sym c.in-Implies.is) c.pair.ensures.pair

pub returns-in-Iff-clause-made : goal.returns-in-Iff-clause-made
returns-in-Iff-clause-made c = subst (λ n. IfOk c.pair-in-Iff.result (IsMadeOf c.args.plan.now c.args.entry.now n)) (sym c.in-Iff.is) c.pair-in-Iff.ensures.pair

pub returns-in-Bind-clause-made : goal.returns-in-Bind-clause-made
returns-in-Bind-clause-made c = subst (λ n. IfOk c.quantified.result (IsMadeOf c.args.plan.now c.args.entry.now n)) (sym c.in-Bind.is)
    (subst (λ orders. IfOk c.quantified.result (IsQuantifiedOf c.args.plan.now orders (record { quant = c.in-Bind.quant; track = record { variable = c.in-Bind.variable; order = c.in-Bind.order } }) c.in-Bind.domain c.in-Bind.body))
    c.slice-orders.ensures c.quantified.ensures.quantified)

pub quantified-requires-clause-binder : goal.quantified-requires-clause-binder
quantified-requires-clause-binder c =
    binder_read c.args.plan.now (length c.args.built.now) c.args.entry.now c.requires.held c.requires.node c.in-Bind.quant _ c.slice-orders.result.now c.slice-orders.ensures c.in-Bind.is

pub returns-in-True-clause-nodes : goal.returns-in-True-clause-nodes
returns-in-True-clause-nodes c =
    refused_more (λ refused. ⊥) (λ refused. FormLacks c.args.plan.now c.args.entry.now.orders c.args.entry.now.node) c.truth.result (λ refused never. absurd never) c.truth.ensures.nodes

pub returns-in-True-clause-within : goal.returns-in-True-clause-within
returns-in-True-clause-within c = IfOk-weaker c.truth.result _ _ (λ made within. inr within) c.truth.ensures.few

pub returns-in-False-clause-nodes : goal.returns-in-False-clause-nodes
returns-in-False-clause-nodes c =
    refused_more (λ refused. ⊥) (λ refused. FormLacks c.args.plan.now c.args.entry.now.orders c.args.entry.now.node) c.falsity.result (λ refused never. absurd never) c.falsity.ensures.nodes

pub returns-in-False-clause-within : goal.returns-in-False-clause-within
returns-in-False-clause-within c = IfOk-weaker c.falsity.result _ _ (λ made within. inr within) c.falsity.ensures.few

pub returns-in-Basic-clause-nodes : goal.returns-in-Basic-clause-nodes
returns-in-Basic-clause-nodes c = subst (λ n. OnRefused c.relation.result (λ refused. FormLacks c.args.plan.now c.args.entry.now.orders n)) (sym c.in-Basic.is) c.relation.ensures.nodes

pub returns-in-Basic-clause-within : goal.returns-in-Basic-clause-within
returns-in-Basic-clause-within c = IfOk-weaker c.relation.result _ _ (λ made within. inl within) c.relation.ensures.within

pub returns-in-Not-clause-nodes : goal.returns-in-Not-clause-nodes
returns-in-Not-clause-nodes c =
    refused_more (λ refused. ⊥) (λ refused. FormLacks c.args.plan.now c.args.entry.now.orders c.args.entry.now.node) c.negation.result (λ refused never. absurd never) c.negation.ensures.nodes

pub returns-in-Not-clause-within : goal.returns-in-Not-clause-within
returns-in-Not-clause-within c = IfOk-weaker c.negation.result _ _ (λ made within. inl within) c.negation.ensures.within

pub returns-in-And-clause-nodes : goal.returns-in-And-clause-nodes
returns-in-And-clause-nodes c = subst (λ n. OnRefused c.many.result (λ refused. FormLacks c.args.plan.now c.args.entry.now.orders n)) (sym c.in-And.is) c.many.ensures.nodes

pub returns-in-Or-clause-nodes : goal.returns-in-Or-clause-nodes
returns-in-Or-clause-nodes c = subst (λ n. OnRefused c.many-in-Or.result (λ refused. FormLacks c.args.plan.now c.args.entry.now.orders n)) (sym c.in-Or.is) c.many-in-Or.ensures.nodes

pub returns-in-Implies-clause-nodes : goal.returns-in-Implies-clause-nodes
returns-in-Implies-clause-nodes c = subst (λ n. OnRefused c.pair.result (λ refused. FormLacks c.args.plan.now c.args.entry.now.orders n)) (sym c.in-Implies.is) c.pair.ensures.nodes

pub returns-in-Implies-clause-within : goal.returns-in-Implies-clause-within
returns-in-Implies-clause-within c = IfOk-weaker c.pair.result _ _ (λ made within. inl within) c.pair.ensures.within

pub returns-in-Iff-clause-nodes : goal.returns-in-Iff-clause-nodes
returns-in-Iff-clause-nodes c = subst (λ n. OnRefused c.pair-in-Iff.result (λ refused. FormLacks c.args.plan.now c.args.entry.now.orders n)) (sym c.in-Iff.is) c.pair-in-Iff.ensures.nodes

pub returns-in-Iff-clause-within : goal.returns-in-Iff-clause-within
returns-in-Iff-clause-within c = IfOk-weaker c.pair-in-Iff.result _ _ (λ made within. inl within) c.pair-in-Iff.ensures.within

pub returns-in-Restrict-clause-nodes : goal.returns-in-Restrict-clause-nodes
returns-in-Restrict-clause-nodes c =
    refused_more (λ refused. ⊥) (λ refused. FormLacks c.args.plan.now c.args.entry.now.orders c.args.entry.now.node) c.restriction.result (λ refused never. absurd never) c.restriction.ensures.nodes

pub returns-in-Restrict-clause-within : goal.returns-in-Restrict-clause-within
returns-in-Restrict-clause-within c = IfOk-weaker c.restriction.result _ _ (λ made within. inl within) c.restriction.ensures.within

pub returns-in-Import-clause-nodes : goal.returns-in-Import-clause-nodes
returns-in-Import-clause-nodes c = subst (λ n. OnRefused c.imported.result (λ refused. FormLacks c.args.plan.now c.args.entry.now.orders n)) (sym c.in-Import.is) c.imported.ensures.nodes

pub returns-in-Import-clause-within : goal.returns-in-Import-clause-within
returns-in-Import-clause-within c = IfOk-weaker c.imported.result _ _ (λ made within. inl within) c.imported.ensures.within

pub returns-in-Bind-clause-within : goal.returns-in-Bind-clause-within
returns-in-Bind-clause-within c = IfOk-weaker c.quantified.result _ _ (λ made within. inl within) c.quantified.ensures.within

pub returns-in-Bind-clause-nodes : goal.returns-in-Bind-clause-nodes
returns-in-Bind-clause-nodes c =
    let bound : Variable = record { name = c.in-Bind.variable; order = c.in-Bind.order } in
    subst (λ n. OnRefused c.quantified.result (λ refused. FormLacks c.args.plan.now c.args.entry.now.orders n)) (sym c.in-Bind.is)
    (subst (λ orders. OnRefused c.quantified.result (λ refused. QuantifierLacks c.args.plan.now orders bound c.in-Bind.domain c.in-Bind.body)) c.slice-orders.ensures c.quantified.ensures.nodes)

pub negation-requires-clause-rising : goal.negation-requires-clause-rising
negation-requires-clause-rising c = child_rises c.args.plan.now (length c.args.built.now) c.args.entry.now c.requires.node (Not c.in-Not.child) c.in-Not.is 0 c.in-Not.child refl

pub restriction-requires-clause-rising : goal.restriction-requires-clause-rising
restriction-requires-clause-rising c = child_rises c.args.plan.now (length c.args.built.now) c.args.entry.now c.requires.node (Restrict c.in-Restrict.child) c.in-Restrict.is 0 c.in-Restrict.child refl

pub pair-requires-clause-left_rises : goal.pair-requires-clause-left_rises
pair-requires-clause-left_rises c = child_rises c.args.plan.now (length c.args.built.now) c.args.entry.now c.requires.node (Implies c.in-Implies.left c.in-Implies.right) c.in-Implies.is 0 c.in-Implies.left refl

pub pair-requires-clause-right_rises : goal.pair-requires-clause-right_rises
pair-requires-clause-right_rises c = child_rises c.args.plan.now (length c.args.built.now) c.args.entry.now c.requires.node (Implies c.in-Implies.left c.in-Implies.right) c.in-Implies.is 1 c.in-Implies.right refl

pub pair-requires-in-Iff-clause-left_rises : goal.pair-requires-in-Iff-clause-left_rises
pair-requires-in-Iff-clause-left_rises c = child_rises c.args.plan.now (length c.args.built.now) c.args.entry.now c.requires.node (Iff c.in-Iff.left c.in-Iff.right) c.in-Iff.is 0 c.in-Iff.left refl

pub pair-requires-in-Iff-clause-right_rises : goal.pair-requires-in-Iff-clause-right_rises
pair-requires-in-Iff-clause-right_rises c = child_rises c.args.plan.now (length c.args.built.now) c.args.entry.now c.requires.node (Iff c.in-Iff.left c.in-Iff.right) c.in-Iff.is 1 c.in-Iff.right refl

pub many-requires-clause-rising : goal.many-requires-clause-rising
many-requires-clause-rising c =
    each_rises (entries_of c.args.plan.now) (length c.args.built.now) c.args.entry.now.orders c.in-And.children
    (subst (λ n. All (IsChild (entries_of c.args.plan.now) (length c.args.built.now) (orders_inside n c.args.entry.now.orders)) (children_of n)) c.in-And.is c.requires.node.children)

pub many-requires-in-Or-clause-rising : goal.many-requires-in-Or-clause-rising
many-requires-in-Or-clause-rising c =
    each_rises (entries_of c.args.plan.now) (length c.args.built.now) c.args.entry.now.orders c.in-Or.children
    (subst (λ n. All (IsChild (entries_of c.args.plan.now) (length c.args.built.now) (orders_inside n c.args.entry.now.orders)) (children_of n)) c.in-Or.is c.requires.node.children)
