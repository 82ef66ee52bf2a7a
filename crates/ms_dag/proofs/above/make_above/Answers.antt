use Rattle.std.proofs.Common.{[], ◌∷◌, ◌++◌, length, refl, sym, ap, subst, ◌∙◌, arith}
use Rattle.std.proofs.lemmas.List.{length-append}
use Rattle.ms_logic_core.specs.declared.core_formula.Core.TheVariants as code
use Rattle.ms_logic_core.specs.CoreForm.{core_form_of}
use Rattle.ms_logic_core.specs.Calls.{filled, filled_each}
use Rattle.ms_logic_core.proofs.CoreViews.{core_form_of-True, core_form_of-False}
use Rattle.ms_dag.specs.declared.node.DagNode.TheVariants.{True, False}
use Rattle.ms_dag.specs.inner.Scope.{IsInScope, forms_of}
use Rattle.ms_dag.specs.inner.Shared.{IsMade}
use Rattle.ms_dag.specs.inner.Tasks.{AreSharedInTurn, IsMadeAbove, parts_of}
use Rattle.ms_dag.proofs.AboveLemmas.{length-listed, parts_long, some_part, last_one, last_two, made_leaf, made_negation, made_restrict, made_unrestricted, made_implication, made_equivalence, made_restricted, made_conjunction, made_disjunction}
use Rattle.ms_dag.proofs.Growth.{Keeps-numbers}
use Rattle.ms_dag.proofs.Results.{both_ok, if_ok, on_ok}
use Rattle.ms_dag.proofs.ShareSteps.{form-Basic, form-Not, form-Restrict, form-And, form-Or, form-Implies, form-Iff, form-Bind-none, form-Bind-some, basic_ordered, body_greatest, both_greatest}
use Rattle.ms_dag.proofs.SharedRelations.{shared_truth, shared_falsity, shared_basic}
use Rattle.ms_dag.proofs.above.make_above.Goals as goal

pub above_last-requires-clause-there : goal.above_last-requires-clause-there
above_last-requires-clause-there g c =
    let calls = g.B.Bodies.calls c.args.source.now.bodies.now in
    let orders = c.args.source.now.orders.now in
    let old = c.args.nodes.now.entries in
    let parts = c.args.parts.now.items in
    let shared = c.requires.shared in
    let form = form-And calls c.args.core.now c.in-And.operands c.in-And.is in
    let are = subst (λ f. AreSharedInTurn orders shared.0 old (parts_of f) shared.2) form shared.4 in
    let long = parts_long orders old shared.0 _ parts shared.1 shared.2 shared.3 are in
    let many = length-listed calls c.in-And.operands in
    omega (arith, long, many, c.len.ensures)

pub above_last-requires-in-Or-clause-there : goal.above_last-requires-in-Or-clause-there
above_last-requires-in-Or-clause-there g c =
    let calls = g.B.Bodies.calls c.args.source.now.bodies.now in
    let orders = c.args.source.now.orders.now in
    let old = c.args.nodes.now.entries in
    let parts = c.args.parts.now.items in
    let shared = c.requires.shared in
    let form = form-Or calls c.args.core.now c.in-Or.operands c.in-Or.is in
    let are = subst (λ f. AreSharedInTurn orders shared.0 old (parts_of f) shared.2) form shared.4 in
    let long = parts_long orders old shared.0 _ parts shared.1 shared.2 shared.3 are in
    let many = length-listed calls c.in-Or.operands in
    omega (arith, long, many, c.len-in-Or.ensures)

pub take_last-right-requires : goal.take_last-right-requires
take_last-right-requires g c =
    let calls = g.B.Bodies.calls c.args.source.now.bodies.now in
    let orders = c.args.source.now.orders.now in
    let old = c.args.nodes.now.entries in
    let parts = c.args.parts.now.items in
    let shared = c.requires.shared in
    let form = form-Implies calls c.args.core.now c.in-Implies.field-0 c.in-Implies.field-1 c.in-Implies.is in
    let are = subst (λ f. AreSharedInTurn orders shared.0 old (parts_of f) shared.2) form shared.4 in
    let long = parts_long orders old shared.0 (filled calls (core_form_of c.in-Implies.field-0) ∷ filled calls (core_form_of c.in-Implies.field-1) ∷ []) parts shared.1 shared.2 shared.3 are in
    omega (arith, long)

pub take_last-left-requires : goal.take_last-left-requires
take_last-left-requires g c =
    let calls = g.B.Bodies.calls c.args.source.now.bodies.now in
    let orders = c.args.source.now.orders.now in
    let old = c.args.nodes.now.entries in
    let parts = c.args.parts.now.items in
    let shared = c.requires.shared in
    let form = form-Implies calls c.args.core.now c.in-Implies.field-0 c.in-Implies.field-1 c.in-Implies.is in
    let are = subst (λ f. AreSharedInTurn orders shared.0 old (parts_of f) shared.2) form shared.4 in
    let long = parts_long orders old shared.0 (filled calls (core_form_of c.in-Implies.field-0) ∷ filled calls (core_form_of c.in-Implies.field-1) ∷ []) parts shared.1 shared.2 shared.3 are in
    let all = ap length c.take_last-right.ensures ∙ length-append c.take_last-right.new.items.items (c.take_last-right.result ∷ []) in
    omega (arith, long, all)

pub take_last-right-requires-in-Iff : goal.take_last-right-requires-in-Iff
take_last-right-requires-in-Iff g c =
    let calls = g.B.Bodies.calls c.args.source.now.bodies.now in
    let orders = c.args.source.now.orders.now in
    let old = c.args.nodes.now.entries in
    let parts = c.args.parts.now.items in
    let shared = c.requires.shared in
    let form = form-Iff calls c.args.core.now c.in-Iff.field-0 c.in-Iff.field-1 c.in-Iff.is in
    let are = subst (λ f. AreSharedInTurn orders shared.0 old (parts_of f) shared.2) form shared.4 in
    let long = parts_long orders old shared.0 (filled calls (core_form_of c.in-Iff.field-0) ∷ filled calls (core_form_of c.in-Iff.field-1) ∷ []) parts shared.1 shared.2 shared.3 are in
    omega (arith, long)

pub take_last-left-requires-in-Iff : goal.take_last-left-requires-in-Iff
take_last-left-requires-in-Iff g c =
    let calls = g.B.Bodies.calls c.args.source.now.bodies.now in
    let orders = c.args.source.now.orders.now in
    let old = c.args.nodes.now.entries in
    let parts = c.args.parts.now.items in
    let shared = c.requires.shared in
    let form = form-Iff calls c.args.core.now c.in-Iff.field-0 c.in-Iff.field-1 c.in-Iff.is in
    let are = subst (λ f. AreSharedInTurn orders shared.0 old (parts_of f) shared.2) form shared.4 in
    let long = parts_long orders old shared.0 (filled calls (core_form_of c.in-Iff.field-0) ∷ filled calls (core_form_of c.in-Iff.field-1) ∷ []) parts shared.1 shared.2 shared.3 are in
    let all = ap length c.take_last-right-in-Iff.ensures ∙ length-append c.take_last-right-in-Iff.new.items.items (c.take_last-right-in-Iff.result ∷ []) in
    omega (arith, long, all)

pub take_last-body-requires : goal.take_last-body-requires
take_last-body-requires g c =
    let calls = g.B.Bodies.calls c.args.source.now.bodies.now in
    let arm = c.in-Bind in
    let shared = c.requires.shared in
    let long = parts_long c.args.source.now.orders.now c.args.nodes.now.entries shared.0 (parts_of (filled calls (core_form_of c.args.core.now))) c.args.parts.now.items shared.1 shared.2 shared.3 shared.4 in
    let some = some_part calls c.args.core.now arm.quant arm.order arm.variable arm.domain arm.field-4 arm.is in
    omega (arith, long, some)

pub above_body-requires-clause-greatest : goal.above_body-requires-clause-greatest
above_body-requires-clause-greatest g c =
    let calls = g.B.Bodies.calls c.args.source.now.bodies.now in
    let orders = c.args.source.now.orders.now in
    let old = c.args.nodes.now.entries in
    let shared = c.requires.shared in
    let arm = c.in-Bind in
    let form = form-Bind-none calls c.args.core.now arm.quant arm.order arm.variable arm.field-4 (arm.is ∙ ap (λ d. code.Bind arm.quant arm.order arm.variable d arm.field-4) c.in-None.is) in
    let are = subst (λ f. AreSharedInTurn orders shared.0 old (parts_of f) shared.2) form shared.4 in
    let scope = c.requires.scoped.0 in
    let scoped = subst (λ f. IsInScope orders scope f) form c.requires.scoped.1 in
    let body = c.take_last-body in
    let last = last_one orders old shared.0 _ body.new.items.items shared.1 shared.2 body.result are (sym body.ensures ∙ shared.3) in
    body_greatest orders shared.0 old scope arm.quant arm.order arm.variable (filled calls (core_form_of arm.field-4)) body.result scoped last.1

pub take_last-requires-in-Some : goal.take_last-requires-in-Some
take_last-requires-in-Some g c =
    let calls = g.B.Bodies.calls c.args.source.now.bodies.now in
    let orders = c.args.source.now.orders.now in
    let old = c.args.nodes.now.entries in
    let parts = c.args.parts.now.items in
    let shared = c.requires.shared in
    let arm = c.in-Bind in
    let form = form-Bind-some calls c.args.core.now arm.quant arm.order arm.variable c.in-Some.field-0 arm.field-4 (arm.is ∙ ap (λ d. code.Bind arm.quant arm.order arm.variable d arm.field-4) c.in-Some.is) in
    let are = subst (λ f. AreSharedInTurn orders shared.0 old (parts_of f) shared.2) form shared.4 in
    let long = parts_long orders old shared.0 (filled calls (core_form_of c.in-Some.field-0) ∷ filled calls (core_form_of arm.field-4) ∷ []) parts shared.1 shared.2 shared.3 are in
    let all = ap length c.take_last-body.ensures ∙ length-append c.take_last-body.new.items.items (c.take_last-body.result ∷ []) in
    omega (arith, long, all)

pub above_restricted-requires-clause-greatest : goal.above_restricted-requires-clause-greatest
above_restricted-requires-clause-greatest g c =
    let calls = g.B.Bodies.calls c.args.source.now.bodies.now in
    let orders = c.args.source.now.orders.now in
    let old = c.args.nodes.now.entries in
    let shared = c.requires.shared in
    let arm = c.in-Bind in
    let form = form-Bind-some calls c.args.core.now arm.quant arm.order arm.variable c.in-Some.field-0 arm.field-4 (arm.is ∙ ap (λ d. code.Bind arm.quant arm.order arm.variable d arm.field-4) c.in-Some.is) in
    let are = subst (λ f. AreSharedInTurn orders shared.0 old (parts_of f) shared.2) form shared.4 in
    let scope = c.requires.scoped.0 in
    let scoped = subst (λ f. IsInScope orders scope f) form c.requires.scoped.1 in
    let took = c.take_last-body.ensures ∙ ap (λ list. list ++ c.take_last-body.result ∷ []) c.take_last-in-Some.ensures in
    let left = c.take_last-in-Some.new.items.items in
    let last = last_two orders old shared.0 _ _ left shared.1 shared.2 c.take_last-in-Some.result c.take_last-body.result are (sym took ∙ shared.3) in
    both_greatest orders shared.0 last.1 old scope arm.quant arm.order arm.variable (filled calls (core_form_of c.in-Some.field-0)) (filled calls (core_form_of arm.field-4)) c.take_last-in-Some.result c.take_last-body.result scoped last.2 last.3

pub returns-in-True-clause-kept : goal.returns-in-True-clause-kept
returns-in-True-clause-kept g c = on_ok c.number_node.result _ _ (λ child made. Keeps-numbers _ _ _ made.numbers) c.number_node.ensures.made

pub returns-in-True-clause-above : goal.returns-in-True-clause-above
returns-in-True-clause-above g c =
    let calls = g.B.Bodies.calls c.args.source.now.bodies.now in
    let orders = c.args.source.now.orders.now in
    let old = c.args.nodes.now.entries in
    let parts = c.args.parts.now.items in
    let form = ap (filled calls) (ap core_form_of c.in-True.is ∙ core_form_of-True) in
    let new = c.number_node.new.nodes.entries in
    if_ok c.number_node.result _ _
    (λ child made.
    subst (λ f. IsMadeAbove orders old new parts parts f child) (sym form)
    (made_leaf orders old new c.requires.nodes _ child parts refl (shared_truth orders old new child c.requires.nodes (subst (λ names. IsMade orders old new True names child) c.new.ensures made))))
    c.number_node.ensures.made

pub returns-in-False-clause-kept : goal.returns-in-False-clause-kept
returns-in-False-clause-kept g c = on_ok c.number_node-in-False.result _ _ (λ child made. Keeps-numbers _ _ _ made.numbers) c.number_node-in-False.ensures.made

pub returns-in-False-clause-above : goal.returns-in-False-clause-above
returns-in-False-clause-above g c =
    let calls = g.B.Bodies.calls c.args.source.now.bodies.now in
    let orders = c.args.source.now.orders.now in
    let old = c.args.nodes.now.entries in
    let parts = c.args.parts.now.items in
    let form = ap (filled calls) (ap core_form_of c.in-False.is ∙ core_form_of-False) in
    let new = c.number_node-in-False.new.nodes.entries in
    if_ok c.number_node-in-False.result _ _
    (λ child made.
    subst (λ f. IsMadeAbove orders old new parts parts f child) (sym form)
    (made_leaf orders old new c.requires.nodes _ child parts refl (shared_falsity orders old new child c.requires.nodes (subst (λ names. IsMade orders old new False names child) c.new-in-False.ensures made))))
    c.number_node-in-False.ensures.made

pub returns-in-Basic-clause-kept : goal.returns-in-Basic-clause-kept
returns-in-Basic-clause-kept g c = on_ok c.share_basic.result _ _ (λ child made. Keeps-numbers _ _ _ made.made.numbers) c.share_basic.ensures.made

pub returns-in-Basic-clause-above : goal.returns-in-Basic-clause-above
returns-in-Basic-clause-above g c =
    let calls = g.B.Bodies.calls c.args.source.now.bodies.now in
    let orders = c.args.source.now.orders.now in
    let old = c.args.nodes.now.entries in
    let parts = c.args.parts.now.items in
    let b = c.in-Basic.basic in
    let form = form-Basic calls c.args.core.now b c.in-Basic.is in
    let new = c.share_basic.new.nodes.entries in
    let scope = c.requires.scoped.0 in
    let scoped = subst (λ f. IsInScope orders scope f) form c.requires.scoped.1 in
    if_ok c.share_basic.result _ _
    (λ child made.
    subst (λ f. IsMadeAbove orders old new parts parts f child) (sym form)
    (made_leaf orders old new c.requires.nodes _ child parts refl (shared_basic orders old new child c.requires.nodes b (basic_ordered orders scope b scoped) made)))
    c.share_basic.ensures.made

pub returns-in-Not-clause-kept : goal.returns-in-Not-clause-kept
returns-in-Not-clause-kept g c = on_ok c.above_one.result _ _ (λ child above. Keeps-numbers _ _ _ above.1.made.numbers) c.above_one.ensures.above

pub returns-in-Not-clause-above : goal.returns-in-Not-clause-above
returns-in-Not-clause-above g c =
    let calls = g.B.Bodies.calls c.args.source.now.bodies.now in
    let orders = c.args.source.now.orders.now in
    let old = c.args.nodes.now.entries in
    let parts = c.args.parts.now.items in
    let form = form-Not calls c.args.core.now c.in-Not.field-0 c.in-Not.is in
    let new = c.above_one.new.nodes.entries in
    let left = c.take_last.new.items.items in
    if_ok c.above_one.result _ _
    (λ child above.
    subst (λ f. IsMadeAbove orders old new parts left f child) (sym form)
    (made_negation orders old new c.requires.nodes parts left c.take_last.result c.take_last.ensures (filled calls (core_form_of c.in-Not.field-0)) above.0 child above.1))
    c.above_one.ensures.above

pub returns-in-Restrict-clause-kept : goal.returns-in-Restrict-clause-kept
returns-in-Restrict-clause-kept g c = on_ok c.above_one-in-Restrict.result _ _ (λ child above. Keeps-numbers _ _ _ above.1.made.numbers) c.above_one-in-Restrict.ensures.above

pub returns-in-Restrict-clause-above : goal.returns-in-Restrict-clause-above
returns-in-Restrict-clause-above g c =
    let calls = g.B.Bodies.calls c.args.source.now.bodies.now in
    let orders = c.args.source.now.orders.now in
    let old = c.args.nodes.now.entries in
    let parts = c.args.parts.now.items in
    let form = form-Restrict calls c.args.core.now c.in-Restrict.field-0 c.in-Restrict.is in
    let new = c.above_one-in-Restrict.new.nodes.entries in
    let left = c.take_last-in-Restrict.new.items.items in
    if_ok c.above_one-in-Restrict.result _ _
    (λ child above.
    subst (λ f. IsMadeAbove orders old new parts left f child) (sym form)
    (made_restrict orders old new c.requires.nodes parts left c.take_last-in-Restrict.result c.take_last-in-Restrict.ensures (filled calls (core_form_of c.in-Restrict.field-0)) above.0 child above.1))
    c.above_one-in-Restrict.ensures.above

pub returns-in-And-clause-kept : goal.returns-in-And-clause-kept
returns-in-And-clause-kept g c = on_ok c.above_last.result _ _ (λ child above. Keeps-numbers _ _ _ above.1.made.numbers) c.above_last.ensures.above

pub returns-in-And-clause-above : goal.returns-in-And-clause-above
returns-in-And-clause-above g c =
    let calls = g.B.Bodies.calls c.args.source.now.bodies.now in
    let orders = c.args.source.now.orders.now in
    let old = c.args.nodes.now.entries in
    let parts = c.args.parts.now.items in
    let operands = c.in-And.operands in
    let form = form-And calls c.args.core.now c.in-And.operands c.in-And.is in
    let new = c.above_last.new.nodes.entries in
    let left = c.above_last.new.parts.items in
    let count = c.len.ensures ∙ sym (length-listed calls operands) in
    both_ok c.above_last.result _ _ _
    (λ child taken above.
    subst (λ f. IsMadeAbove orders old new parts left f child) (sym form)
    (made_conjunction orders old new c.requires.nodes (filled_each calls (forms_of operands)) parts left above.0 child c.len.result count taken above.1))
    c.above_last.ensures.taken c.above_last.ensures.above

pub returns-in-Or-clause-kept : goal.returns-in-Or-clause-kept
returns-in-Or-clause-kept g c = on_ok c.above_last-in-Or.result _ _ (λ child above. Keeps-numbers _ _ _ above.1.made.numbers) c.above_last-in-Or.ensures.above

pub returns-in-Or-clause-above : goal.returns-in-Or-clause-above
returns-in-Or-clause-above g c =
    let calls = g.B.Bodies.calls c.args.source.now.bodies.now in
    let orders = c.args.source.now.orders.now in
    let old = c.args.nodes.now.entries in
    let parts = c.args.parts.now.items in
    let operands = c.in-Or.operands in
    let form = form-Or calls c.args.core.now c.in-Or.operands c.in-Or.is in
    let new = c.above_last-in-Or.new.nodes.entries in
    let left = c.above_last-in-Or.new.parts.items in
    let count = c.len-in-Or.ensures ∙ sym (length-listed calls operands) in
    both_ok c.above_last-in-Or.result _ _ _
    (λ child taken above.
    subst (λ f. IsMadeAbove orders old new parts left f child) (sym form)
    (made_disjunction orders old new c.requires.nodes (filled_each calls (forms_of operands)) parts left above.0 child c.len-in-Or.result count taken above.1))
    c.above_last-in-Or.ensures.taken c.above_last-in-Or.ensures.above

pub returns-in-Implies-clause-kept : goal.returns-in-Implies-clause-kept
returns-in-Implies-clause-kept g c = on_ok c.above_two.result _ _ (λ child above. Keeps-numbers _ _ _ above.2.made.numbers) c.above_two.ensures.above

pub returns-in-Implies-clause-above : goal.returns-in-Implies-clause-above
returns-in-Implies-clause-above g c =
    let calls = g.B.Bodies.calls c.args.source.now.bodies.now in
    let orders = c.args.source.now.orders.now in
    let old = c.args.nodes.now.entries in
    let parts = c.args.parts.now.items in
    let form = form-Implies calls c.args.core.now c.in-Implies.field-0 c.in-Implies.field-1 c.in-Implies.is in
    let new = c.above_two.new.nodes.entries in
    let left = c.take_last-left.new.items.items in
    let took = c.take_last-right.ensures ∙ ap (λ list. list ++ c.take_last-right.result ∷ []) c.take_last-left.ensures in
    if_ok c.above_two.result _ _
    (λ child above.
    subst (λ f. IsMadeAbove orders old new parts left f child) (sym form)
    (made_implication orders old new c.requires.nodes parts left c.take_last-left.result c.take_last-right.result took (filled calls (core_form_of c.in-Implies.field-0)) (filled calls (core_form_of c.in-Implies.field-1)) above.0 above.1 child above.2))
    c.above_two.ensures.above

pub returns-in-Iff-clause-kept : goal.returns-in-Iff-clause-kept
returns-in-Iff-clause-kept g c = on_ok c.above_two-in-Iff.result _ _ (λ child above. Keeps-numbers _ _ _ above.2.made.numbers) c.above_two-in-Iff.ensures.above

pub returns-in-Iff-clause-above : goal.returns-in-Iff-clause-above
returns-in-Iff-clause-above g c =
    let calls = g.B.Bodies.calls c.args.source.now.bodies.now in
    let orders = c.args.source.now.orders.now in
    let old = c.args.nodes.now.entries in
    let parts = c.args.parts.now.items in
    let form = form-Iff calls c.args.core.now c.in-Iff.field-0 c.in-Iff.field-1 c.in-Iff.is in
    let new = c.above_two-in-Iff.new.nodes.entries in
    let left = c.take_last-left-in-Iff.new.items.items in
    let took = c.take_last-right-in-Iff.ensures ∙ ap (λ list. list ++ c.take_last-right-in-Iff.result ∷ []) c.take_last-left-in-Iff.ensures in
    if_ok c.above_two-in-Iff.result _ _
    (λ child above.
    subst (λ f. IsMadeAbove orders old new parts left f child) (sym form)
    (made_equivalence orders old new c.requires.nodes parts left c.take_last-left-in-Iff.result c.take_last-right-in-Iff.result took (filled calls (core_form_of c.in-Iff.field-0)) (filled calls (core_form_of c.in-Iff.field-1)) above.0 above.1 child above.2))
    c.above_two-in-Iff.ensures.above

pub returns-in-None-clause-kept : goal.returns-in-None-clause-kept
returns-in-None-clause-kept g c = on_ok c.above_body.result _ _ (λ child above. Keeps-numbers _ _ _ above.1.made.numbers) c.above_body.ensures.above

pub returns-in-None-clause-above : goal.returns-in-None-clause-above
returns-in-None-clause-above g c =
    let calls = g.B.Bodies.calls c.args.source.now.bodies.now in
    let orders = c.args.source.now.orders.now in
    let old = c.args.nodes.now.entries in
    let parts = c.args.parts.now.items in
    let arm = c.in-Bind in
    let form = form-Bind-none calls c.args.core.now arm.quant arm.order arm.variable arm.field-4 (arm.is ∙ ap (λ d. code.Bind arm.quant arm.order arm.variable d arm.field-4) c.in-None.is) in
    let scope = c.requires.scoped.0 in
    let scoped = subst (λ f. IsInScope orders scope f) form c.requires.scoped.1 in
    let new = c.above_body.new.nodes.entries in
    let body = c.take_last-body in
    let left = body.new.items.items in
    if_ok c.above_body.result _ _
    (λ child above.
    subst (λ f. IsMadeAbove orders old new parts left f child) (sym form)
    (made_unrestricted orders old new c.requires.nodes parts left body.result body.ensures (filled calls (core_form_of arm.field-4)) above.0 child arm.quant arm.order arm.variable scoped.1 above.1))
    c.above_body.ensures.above

pub returns-in-Some-clause-kept : goal.returns-in-Some-clause-kept
returns-in-Some-clause-kept g c = on_ok c.above_restricted.result _ _ (λ child above. Keeps-numbers _ _ _ above.2.made.numbers) c.above_restricted.ensures.above

pub returns-in-Some-clause-above : goal.returns-in-Some-clause-above
returns-in-Some-clause-above g c =
    let calls = g.B.Bodies.calls c.args.source.now.bodies.now in
    let orders = c.args.source.now.orders.now in
    let old = c.args.nodes.now.entries in
    let parts = c.args.parts.now.items in
    let arm = c.in-Bind in
    let form = form-Bind-some calls c.args.core.now arm.quant arm.order arm.variable c.in-Some.field-0 arm.field-4 (arm.is ∙ ap (λ d. code.Bind arm.quant arm.order arm.variable d arm.field-4) c.in-Some.is) in
    let scope = c.requires.scoped.0 in
    let scoped = subst (λ f. IsInScope orders scope f) form c.requires.scoped.1 in
    let took = c.take_last-body.ensures ∙ ap (λ list. list ++ c.take_last-body.result ∷ []) c.take_last-in-Some.ensures in
    let new = c.above_restricted.new.nodes.entries in
    let left = c.take_last-in-Some.new.items.items in
    if_ok c.above_restricted.result _ _
    (λ child above.
    subst (λ f. IsMadeAbove orders old new parts left f child) (sym form)
    (made_restricted orders old new c.requires.nodes parts left c.take_last-in-Some.result c.take_last-body.result took (filled calls (core_form_of c.in-Some.field-0)) (filled calls (core_form_of arm.field-4)) above.0 above.1 child arm.quant arm.order arm.variable scoped.1 above.2))
    c.above_restricted.ensures.above
