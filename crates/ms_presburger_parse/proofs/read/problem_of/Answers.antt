use Rattle.ms_presburger.specs.View.{arithmetic_of}
use Rattle.ms_presburger_parse.proofs.Faults.{few_parts, problem_well_formed}
use Rattle.ms_presburger_parse.proofs.read.problem_of.Goals as goal

pub free_names-requires : goal.free_names-requires
free_names-requires c = few_parts c.args.tokens.now (arithmetic_of c.args.formula) c.requires.read c.requires.few

pub returns-in-Ok-clause-well_formed : goal.returns-in-Ok-clause-well_formed
returns-in-Ok-clause-well_formed c =
    problem_well_formed c.args.tokens.now (record { names = c.in-Ok.names; formula = c.args.formula }) (record { reads = c.requires.read; names = c.in-Ok.ensures }) c.requires.few
