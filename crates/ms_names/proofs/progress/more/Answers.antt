use Rattle.std.proofs.Common.{ap, arith}
use Rattle.ms_names_rules.specs.Scope.{count_of_bounds}
use Rattle.ms_parse_grammar.specs.View.{declaration_of}
use Rattle.ms_names_rules.proofs.Lists.{count_of_bounds-length}
use Rattle.ms_names.proofs.Sources.{globals-counted}
use Rattle.ms_names.proofs.progress.more.Goals as goal

pub returns-in-Some : goal.returns-in-Some
returns-in-Some c =
    let counted = globals-counted (declaration_of c.args.decl.now) in
    let same = ap count_of_bounds c.globals.ensures in
    let long = count_of_bounds-length c.globals.result.now in
    omega (arith, counted, same, long)
