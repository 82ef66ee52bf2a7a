use Rattle.ms_build_source.proofs.EqualFiles.{exports_equal, main_equal, mixed_equal}
use Rattle.ms_build_source.proofs.export_laws.laws_of_exports.Goals as goal

pub returns-clause-exports : goal.returns-clause-exports
returns-clause-exports c = exports_equal

pub returns-clause-mixed : goal.returns-clause-mixed
returns-clause-mixed c = mixed_equal

pub returns-clause-main : goal.returns-clause-main
returns-clause-main c = main_equal
