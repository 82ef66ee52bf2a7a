use Rattle.std.proofs.Common.{rules, append_assoc}
use Rattle.ms_parse_print.specs.inner.Printed.{spelled}
use Rattle.ms_parse_print.proofs.Lists.{printed_parameters_more}
use Rattle.ms_parse_print.proofs.declaration.push_parameters.Goals as goal

pub loop-i-preserved : goal.loop-i-preserved
loop-i-preserved c =
    let more = printed_parameters_more spelled c.args.bounds.now c.loop-i.i c.index-bounds-i.result c.loop-i-test.true c.index-bounds-i.is in
    rw (more) (search (rules, append_assoc))
