use Rattle.ms_parse_print.proofs.Lists.{first_order_is}
use Rattle.std.proofs.Common.{arith}
use Rattle.ms_parse_print.proofs.declaration.first_order.Goals as goal

pub returns-in-len1-up : goal.returns-in-len1-up
returns-in-len1-up c = first_order_is c.args.bounds.now c.first-item.result (omega arith) c.first-item.is
