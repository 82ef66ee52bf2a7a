use Rattle.std.proofs.Common.{Some, refl}
use Rattle.ms_include_laws.proofs.of_loads.Files.{one_source_of_file, source_or_none}
use Rattle.ms_include_laws.proofs.of_loads.Loads.{load_or_refused, one_load}
use Rattle.ms_include_laws.proofs.loads.laws.laws_of_loads.Goals as goal

pub returns-clause-file : goal.returns-clause-file
returns-clause-file c holding number name one other = one_source_of_file holding (Some holding) (Some holding) number name one other refl refl

pub returns-clause-file_read : goal.returns-clause-file_read
returns-clause-file_read c holding number name source refusal = source_or_none holding (Some holding) (Some holding) number name source refusal refl refl

pub returns-clause-load : goal.returns-clause-load
returns-clause-load c = one_load

pub returns-clause-loadable : goal.returns-clause-loadable
returns-clause-loadable c = load_or_refused
