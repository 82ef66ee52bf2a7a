use Rattle.std.proofs.Common.{rules, ◌-◌}
use Rattle.ms_parse_steps.specs.inner.Machine.{too_deep}
use Rattle.ms_parse_steps.specs.inner.Terminals.{behind}
use Rattle.ms_parse_steps.proofs.enter.begin_frame.Goals as goal

pub returns : goal.returns
returns c context file lexed = c.enter.ensures context file lexed (too_deep (behind file lexed (c.args.i - 1))) (search rules)
