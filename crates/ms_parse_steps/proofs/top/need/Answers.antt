use Rattle.std.proofs.Common.{◌-◌, ◌<◌, ◌∷◌, length, take, sym, ap, ◌∙◌, arith}
use Rattle.std.proofs.lemmas.Grind.{common_steps}
use Rattle.ms_parse_steps.specs.inner.Machine.{need}
use Rattle.ms_parse_steps.specs.inner.Frames.{frame_of}
use Rattle.ms_parse_steps.specs.inner.Stack.{stack_of}
use Rattle.ms_parse_steps.proofs.Stacks.{stack_top}
use Rattle.ms_parse_steps.proofs.top.need.Goals as goal

pub returns : goal.returns
returns c =
    let frames = c.args.stack.now in
    let some : 0 < length frames = grind (arith, common_steps) in
    let k = length frames - 1 in
    c.need_in.ensures (stack_of (take k frames)) ∙ ap (λ f. need (frame_of f ∷ stack_of (take k frames))) c.index-stack-stack.is ∙ ap need (sym (stack_top frames k c.index-stack-stack.result (omega arith)))
