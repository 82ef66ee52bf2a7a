use Rattle.std.proofs.Common.{◌≡◌, sym, ◌∙◌}
use Rattle.ms_product.specs.Pairing.{AreAtLeast, operands_of}
use Rattle.ms_build.specs.Short.{PairLacks}
use Rattle.ms_build.proofs.RefusalLemmas.{refused_more}
use Rattle.ms_build.specs.Built.{ChildNo, ChildYes, entries_of, imports_for}
use Rattle.ms_build.proofs.PartLemmas.{combined_by, equal_orders, pair_by}
use Rattle.ms_build.proofs.connectives.pair.Goals as goal

pub combine-requires-clause-mode : goal.combine-requires-clause-mode
combine-requires-clause-mode c =
    let read = c.requires.read in
    (c.in-Ok.ensures.part read.0 read.1).mode_is ∙ sym (c.in-Ok-brought.ensures.part read.0 read.2).mode_is

pub combine-requires-clause-orders : goal.combine-requires-clause-orders
combine-requires-clause-orders c =
    let read = c.requires.read in
    let plan = c.args.plan.now in
    let left = c.args.left.now in
    let right = c.args.right.now in
    equal_orders plan.mode read.0 left.map right.map (ChildYes (imports_for plan) (entries_of plan) left) (ChildNo (imports_for plan) (entries_of plan) left)
    (ChildYes (imports_for plan) (entries_of plan) right) (ChildNo (imports_for plan) (entries_of plan) right) c.in-Ok.one c.in-Ok-brought.other c.states.ensures.automaton c.states-2.ensures.automaton
    (c.in-Ok.ensures.part read.0 read.1) (c.in-Ok-brought.ensures.part read.0 read.2)

pub returns-clause-pair : goal.returns-clause-pair
returns-clause-pair c =
    let plan = c.args.plan.now in
    let left = c.args.left.now in
    let right = c.args.right.now in
    pair_by plan c.args.op left right c.combine.result (λ orders read also.
    combined_by plan.mode orders left.map right.map (ChildYes (imports_for plan) (entries_of plan) left) (ChildNo (imports_for plan) (entries_of plan) left)
    (ChildYes (imports_for plan) (entries_of plan) right) (ChildNo (imports_for plan) (entries_of plan) right) c.in-Ok.one c.in-Ok-brought.other c.states.ensures.automaton c.states-2.ensures.automaton
    (c.in-Ok.ensures.part orders read) (c.in-Ok-brought.ensures.part orders also) c.args.op c.combine.result c.combine.ensures.mode c.combine.ensures.variables c.combine.ensures.values)

pub returns-clause-nodes : goal.returns-clause-nodes
returns-clause-nodes c =
    let plan = c.args.plan.now in
    let one = c.in-Ok.one in
    let other = c.in-Ok-brought.other in
    refused_more (λ refused. (refused ≡ plan.limit) × AreAtLeast plan.limit c.args.op (operands_of one other)) (λ refused. PairLacks plan c.args.op c.args.left.now c.args.right.now) c.combine.result
    (λ refused why. record { one = one; other = other; is_left = c.in-Ok.ensures.operand; is_right = c.in-Ok-brought.ensures.operand; short = why.1 }) c.combine.ensures.nodes
