use Rattle.std.proofs.Common.{◌≡◌, ◌+◌, ◌-◌, ◌<◌, length, sym, arith}
use Rattle.std.proofs.lemmas.Grind.{common_steps}
use Rattle.ms_parse_steps.proofs.ParameterSteps.{last_of}
use Rattle.ms_parse_steps.proofs.parameters.last_order.Goals as goal

pub returns : goal.returns
returns c =
    let xs = c.args.parameters.now in
    let some : 0 < length xs = grind (arith, common_steps) in
    let whole : (c.len.result - 1) + 1 ≡ length xs = omega (arith, c.len.ensures) in
    sym (last_of xs (c.len.result - 1) c.get.result.now whole c.get.ensures)
