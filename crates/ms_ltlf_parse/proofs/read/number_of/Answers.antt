use Rattle.std.proofs.Common.{◌≡◌}
use Rattle.ms_ltlf_parse.specs.declared.terminal.Terminal.TheVariants.{Name}
use Rattle.ms_ltlf_parse.proofs.Comings.{number_is_place}
use Rattle.ms_ltlf_parse.proofs.read.number_of.Goals as goal

pub returns-in-Ok-clause-number : goal.returns-in-Ok-clause-number
returns-in-Ok-clause-number c =
    number_is_place c.number.result c.args.sights.now.names c.number.new.sights.names c.in-Ok.name.now c.args.slice.now (c.args.terminal ≡ Name)
    c.number.ensures.number c.number.ensures.names c.in-Ok.ensures.cases.0
