use Rattle.std.proofs.Common.{◌-◌, ◌∷◌, take, sym, ap, ◌∙◌, arith}
use Rattle.ms_parse_steps.specs.inner.Machine.{in_part}
use Rattle.ms_parse_steps.specs.inner.Frames.{frame_of}
use Rattle.ms_parse_steps.specs.inner.Stack.{stack_of}
use Rattle.ms_parse_steps.proofs.Stacks.{stack_frame}
use Rattle.ms_parse_steps.proofs.top.in_part.Goals as goal

pub returns-in-Some : goal.returns-in-Some
returns-in-Some c =
    let k = c.loop-left.left - 1 in
    sym (c.loop-left.invariant.1 ∙ ap in_part (stack_frame c.args.stack.now c.loop-left.left k c.index-stack-left.result (omega arith) (omega arith)) ∙ ap (λ f. in_part (frame_of f ∷ stack_of (take k c.args.stack.now))) (sym c.index-stack-left.is)
    ∙ c.in-Some.ensures (stack_of (take k c.args.stack.now)))

pub loop-left-preserved : goal.loop-left-preserved
loop-left-preserved c =
    let k = c.loop-left.left - 1 in (
      omega arith,
      c.loop-left.invariant.1 ∙ ap in_part (stack_frame c.args.stack.now c.loop-left.left k c.index-stack-left.result (omega arith) (omega arith)) ∙ ap (λ f. in_part (frame_of f ∷ stack_of (take k c.args.stack.now))) (sym c.index-stack-left.is)
          ∙ c.in_default.ensures (stack_of (take k c.args.stack.now)),
    )
