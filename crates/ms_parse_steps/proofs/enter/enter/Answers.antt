use Rattle.std.proofs.Common.{◌<◌, ◌≤◌, ◌+◌, suc, max, length, subst, sym, ap, ◌∙◌, arith}
use Rattle.std.proofs.lemmas.Bool.{le-leb, lt-leb}
use Rattle.ms_parse_grammar.specs.Grammar.{greatest_depth}
use Rattle.ms_parse_steps.specs.inner.Machine.{frame_depth, wanted, took}
use Rattle.ms_parse_steps.specs.inner.Frames.{frame_of}
use Rattle.ms_parse_steps.specs.inner.Stack.{stack_of}
use Rattle.ms_parse_steps.specs.inner.Terminals.{behind}
use Rattle.ms_parse_steps.proofs.Frames.{chosen_yes, chosen_no}
use Rattle.ms_parse_steps.proofs.Stacks.{stack_length}
use Rattle.ms_parse_steps.proofs.Taking.{stops_as}
use Rattle.ms_parse_steps.proofs.enter.enter.Goals as goal

pub returns-then-not-has_room : goal.returns-then-not-has_room
returns-then-not-has_room c context file lexed stuck stops =
    let n = suc (length (stack_of c.args.stack.now.items)) + max 1 (frame_depth (frame_of c.args.frame)) in
    let room : greatest_depth < suc (suc (length (stack_of c.args.stack.now.items))) = subst (λ x. greatest_depth < suc (suc (length (stack_of x)))) c.deref.ensures.value (c.has_room.ensures.no c.if-not-has_room.true) in
    let full : greatest_depth < n = omega arith in
    stops_as file lexed _ stuck c.args.otherwise (chosen_no _ _ _ (lt-leb n greatest_depth full)) stops

pub returns-then-len-inside-gt-GREATEST_DEPTH : goal.returns-then-len-inside-gt-GREATEST_DEPTH
returns-then-len-inside-gt-GREATEST_DEPTH c context file lexed stuck stops =
    let n = suc (length (stack_of c.args.stack.now.items)) + max 1 (frame_depth (frame_of c.args.frame)) in
    let full : greatest_depth < n = omega (arith, stack_length c.args.stack.now.items, c.args.stack.now.ok.0, c.len.ensures, c.height.ensures.measured) in
    stops_as file lexed _ stuck c.args.otherwise (chosen_no _ _ _ (lt-leb n greatest_depth full)) stops

pub returns : goal.returns
returns c context file lexed stuck stops =
    let n = suc (length (stack_of c.args.stack.now.items)) + max 1 (frame_depth (frame_of c.args.frame)) in
    let small : n ≤ greatest_depth = omega (arith, stack_length c.args.stack.now.items, c.args.stack.now.ok.0, c.len.ensures, c.height.ensures.measured) in
    chosen_yes _ _ _ (le-leb n greatest_depth small) ∙ ap (λ st. took (wanted context st) (behind file lexed c.args.i)) (sym c.in_ok-push_frame.ensures.ok)

pub overflow_cast-len : goal.overflow_cast-len
overflow_cast-len c =
    let room = subst (λ x. suc (suc (length (stack_of x))) ≤ greatest_depth) c.deref.ensures.value (c.has_room.ensures.yes c.if-not-has_room.false) in
    omega (arith, stack_length c.args.stack.now.items, c.len.ensures)

pub overflow_add-len : goal.overflow_add-len
overflow_add-len c =
    let room = subst (λ x. suc (suc (length (stack_of x))) ≤ greatest_depth) c.deref.ensures.value (c.has_room.ensures.yes c.if-not-has_room.false) in
    omega (arith, stack_length c.args.stack.now.items, c.len.ensures)

pub overflow_add-len-2 : goal.overflow_add-len-2
overflow_add-len-2 c =
    let room = subst (λ x. suc (suc (length (stack_of x))) ≤ greatest_depth) c.deref.ensures.value (c.has_room.ensures.yes c.if-not-has_room.false) in
    omega (arith, stack_length c.args.stack.now.items, c.len.ensures, c.max-inside.ensures, c.height.ensures.bounded)
