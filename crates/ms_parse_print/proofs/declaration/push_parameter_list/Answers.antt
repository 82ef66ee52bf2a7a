use Rattle.std.proofs.Common.{rules, ◌<◌, length, append_assoc, arith}
use Rattle.std.proofs.lemmas.Bool.Decides.{nat_tests}
use Rattle.std.proofs.lemmas.Result.{IfOk-equal}
use Rattle.ms_parse_print.specs.inner.Printed.{spelled}
use Rattle.ms_parse_print.proofs.Lists.{parameters_in_brackets}
use Rattle.ms_parse_print.proofs.declaration.push_parameter_list.Goals as goal

pub returns : goal.returns
returns c =
    let some : 0 < length c.args.bounds.now = grind (arith, nat_tests) in
    rw (parameters_in_brackets spelled c.args.bounds.now some) (search (rules, append_assoc, IfOk-equal))
