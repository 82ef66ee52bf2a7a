use Rattle.std.proofs.Common.{◌<◌, length, arith, ◌∙◌}
use Rattle.std.proofs.lemmas.Bool.Decides.{nat_tests}
use Rattle.ms_parse_print.proofs.Prefixes.{last_open}
use Rattle.ms_parse_print.proofs.level.+end_of_expression.Goals as goal

pub last_ends_open-returns : goal.last_ends_open-returns
last_ends_open-returns t c =
    let some : 0 < length c.args.es.now = grind (arith, nat_tests) in
    c.ends_open.ensures ∙ last_open c.args.es.now c.index-es-es.result some c.index-es-es.is
