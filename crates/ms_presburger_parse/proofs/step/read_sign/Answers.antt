use Rattle.ms_parse_stack.specs.inner.Machine.{follows, performed, within}
use Rattle.ms_presburger_parse.specs.inner.Machine.{machine}
use Rattle.ms_presburger_parse.specs.inner.States.{place_of, stack_of}
use Rattle.ms_presburger_parse.proofs.step.read_sign.Goals as goal

pub returns : goal.returns
returns c =
    let p = place_of c.args.place in
    c.placed.ensures (performed machine (follows c.args.sign) (within (stack_of c.args.begun.now.frames) p)) c.follow.new.begun (c.follow.ensures p c.in_ok-operand.ensures)
