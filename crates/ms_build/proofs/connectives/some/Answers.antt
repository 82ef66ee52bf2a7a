use Rattle.std.proofs.Common.{◌+◌, take, take_all, sym, subst, arith, ◌≡◌, rules}
use Rattle.ms_product.specs.Combined.{combined}
use Rattle.ms_dfa.specs.Values.{HasValues, own_meaning}
use Rattle.ms_dag.specs.Dag.{places_in_maps}
use Rattle.ms_build.specs.Built.{AreReadAt, HasOnly, IsManyOf, entries_of}
use Rattle.ms_build.proofs.ManyLemmas.{IsManyOf-one, IsManyOf-same, IsPart-more, modes_equal, only_first, only_more, only_same, orders_equal, read_first, take_next}
use Rattle.ms_build.proofs.connectives.some.Goals as goal
use Rattle.ms_build.proofs.RefusalLemmas.{fault_more}
use Rattle.ms_product.specs.Pairing.{AreAtLeast, operands_of}
use Rattle.ms_build.specs.Short.{IsOperand, ManyLacks}
use Rattle.ms_logic_words.specs.Content.{Content}
use Rattle.ms_logic_words.specs.declared.sign.Sign.{Sign}

pub loop-place-init : goal.loop-place-init
loop-place-init c =
    let plan = c.args.plan.now in
    let child = c.get.result.now in (
      subst (λ cs. IsManyOf plan c.args.many cs c.in-Ok.made) (sym (take_next c.args.children.now 0 child c.get.ensures)) (IsManyOf-one plan c.args.many child c.in-Ok.made c.in-Ok.ensures.part),
      c.in-Ok.ensures.within,
      subst (λ cs. HasOnly (places_in_maps cs) c.in-Ok.made) (sym (take_next c.args.children.now 0 child c.get.ensures)) (only_first child c.in-Ok.made c.in-Ok.ensures.only),
      λ one. (child, c.get.ensures, c.in-Ok.ensures.operand),
    )

pub combine-requires-clause-mode : goal.combine-requires-clause-mode
combine-requires-clause-mode c =
    let plan = c.args.plan.now in
    let children = c.args.children.now in
    let place = c.loop-place.place in
    let child = c.get-in-loop-place.result.now in
    let before = IsManyOf-same plan c.args.many (take place children) c.loop-place.made c.in-Ok-of_first.first c.in-Ok-of_first.ensures.mode c.in-Ok-of_first.ensures.variables c.in-Ok-of_first.ensures.signs c.loop-place.invariant.0 in
    let read = c.requires.readable.1 in
    let are = subst (AreReadAt (entries_of plan) read.0) (take_next children place child c.get-in-loop-place.ensures) (read_first (entries_of plan) read.0 children (place + 1) read.1) in
    modes_equal plan c.args.many (take place children) child c.in-Ok-of_first.first c.in-Ok-brought.next c.states.ensures.automaton c.states-in-loop-place.ensures.automaton before c.in-Ok-brought.ensures.part read.0 are

pub combine-requires-clause-orders : goal.combine-requires-clause-orders
combine-requires-clause-orders c =
    let plan = c.args.plan.now in
    let children = c.args.children.now in
    let place = c.loop-place.place in
    let child = c.get-in-loop-place.result.now in
    let before = IsManyOf-same plan c.args.many (take place children) c.loop-place.made c.in-Ok-of_first.first c.in-Ok-of_first.ensures.mode c.in-Ok-of_first.ensures.variables c.in-Ok-of_first.ensures.signs c.loop-place.invariant.0 in
    let read = c.requires.readable.1 in
    let are = subst (AreReadAt (entries_of plan) read.0) (take_next children place child c.get-in-loop-place.ensures) (read_first (entries_of plan) read.0 children (place + 1) read.1) in
    orders_equal plan c.args.many (take place children) child c.in-Ok-of_first.first c.in-Ok-brought.next c.states.ensures.automaton c.states-in-loop-place.ensures.automaton before c.in-Ok-brought.ensures.part read.0 are

pub loop-place-preserved : goal.loop-place-preserved
loop-place-preserved c =
    let plan = c.args.plan.now in
    let children = c.args.children.now in
    let place = c.loop-place.place in
    let child = c.get-in-loop-place.result.now in
    let before = IsManyOf-same plan c.args.many (take place children) c.loop-place.made c.in-Ok-of_first.first c.in-Ok-of_first.ensures.mode c.in-Ok-of_first.ensures.variables c.in-Ok-of_first.ensures.signs c.loop-place.invariant.0 in
    let made = c.in_ok-made.ensures in
    let values = subst (λ op. HasValues (combined op (own_meaning c.in-Ok-of_first.first) (own_meaning c.in-Ok-brought.next)) c.in_ok-made.made) c.op_of.ensures made.values in
    let some = c.loop-place.auto.place in (
      subst (λ cs. IsManyOf plan c.args.many cs c.in_ok-made.made) (sym (take_next children place child c.get-in-loop-place.ensures))
          (λ orders are.
          IsPart-more plan c.args.many (take place children) child c.in-Ok-of_first.first c.in-Ok-brought.next c.states.ensures.automaton c.states-in-loop-place.ensures.automaton before c.in-Ok-brought.ensures.part
          orders are c.in_ok-made.made made.mode made.variables values),
      made.within,
      subst (λ cs. HasOnly (places_in_maps cs) c.in_ok-made.made) (sym (take_next c.args.children.now place child c.get-in-loop-place.ensures))
          (only_more (take place children) child c.in-Ok-of_first.first c.in-Ok-brought.next c.in_ok-made.made
          (only_same (places_in_maps (take place children)) c.loop-place.made c.in-Ok-of_first.first c.in-Ok-of_first.ensures.variables c.loop-place.invariant.2) c.in-Ok-brought.ensures.only made.variables),
      λ one. absurd (omega (arith, one, some)),
    )

pub returns-clause-many : goal.returns-clause-many
returns-clause-many c =
    let past = c.loop-place-test.false in
    let end = c.len-place-end.ensures in
    let bound = c.loop-place.auto.place-end in
    subst (λ cs. IsManyOf c.args.plan.now c.args.many cs c.loop-place.made) (take_all c.loop-place.place c.args.children.now (omega (arith, past, end))) c.loop-place.invariant.0

pub returns-in_err-made-clause-nodes : goal.returns-in_err-made-clause-nodes
returns-in_err-made-clause-nodes c =
    let plan = c.args.plan.now in
    let children = c.args.children.now in
    let place = c.loop-place.place in
    let child = c.get-in-loop-place.result.now in
    let first = c.in-Ok-of_first.first in
    let next = c.in-Ok-brought.next in
    let some = c.loop-place.auto.place in
    let before = IsManyOf-same plan c.args.many (take place children) c.loop-place.made first c.in-Ok-of_first.ensures.mode c.in-Ok-of_first.ensures.variables c.in-Ok-of_first.ensures.signs c.loop-place.invariant.0 in
    fault_more (Content Sign) (λ refused. (refused ≡ plan.limit) × AreAtLeast plan.limit c.op_of.result (operands_of first next)) (λ refused. ManyLacks plan c.args.many children) c.in_err-made.field-0.0 c.from_residual.result (search rules)
    (λ refused why.
    record {
      count = place;
      child = child;
      one = first;
      other = next;
      some = omega (arith, some);
      here = c.get-in-loop-place.ensures;
      is_first = record {
        automaton = c.states.ensures.automaton;
        value = before;
        only = only_same (places_in_maps (take place children)) c.loop-place.made first c.in-Ok-of_first.ensures.variables c.loop-place.invariant.2;
        alone = λ one. let is = c.loop-place.invariant.3 one in (is.0, is.1, subst (IsOperand plan is.0) (sym (c.in-Ok-of_first.ensures.same one)) is.2);
        least = c.in-Ok-of_first.ensures.least;
      };
      is_next = c.in-Ok-brought.ensures.operand;
      short = subst (λ op. AreAtLeast plan.limit op (operands_of first next)) c.op_of.ensures why.1;
    })
    c.in_err-made.ensures.nodes
