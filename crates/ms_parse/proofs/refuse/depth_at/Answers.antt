use Rattle.std.proofs.Common.{arith}
use Rattle.ms_parse.proofs.Faults.{end_not_deep, too_deep_at}
use Rattle.ms_parse_steps.proofs.Inputs.{at_end}
use Rattle.ms_parse.proofs.refuse.depth_at.Goals as goal

pub returns-then-i-len : goal.returns-then-i-len
returns-then-i-len c is = absurd (end_not_deep c.args.file c.args.tokens.now c.args.i (at_end c.args.file c.args.tokens.now c.args.i (omega arith)) is)

pub returns : goal.returns
returns c is = too_deep_at c.args.file c.args.tokens.now c.args.i c.get-token.result c.at_of-at.result c.get-token.ensures.token c.at_of-at.ensures is
