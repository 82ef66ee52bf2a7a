use Rattle.ms_build_source.proofs.Exported.{sources_list_variables}
use Rattle.ms_build_source.proofs.ImportsOfExports.{all_roots_import}
use Rattle.ms_build_source.proofs.FilledRoots.{sources_have_roots}
use Rattle.ms_build_source.proofs.SharedRoots.{sources_are_shared}
use Rattle.ms_build_source.proofs.Unexported.{lists_variables}
use Rattle.ms_build_source.proofs.handover_laws.laws_of_handover.Goals as goal

pub returns-clause-lists_variables : goal.returns-clause-lists_variables
returns-clause-lists_variables c = sources_list_variables

pub returns-clause-lists_without_exports : goal.returns-clause-lists_without_exports
returns-clause-lists_without_exports c = lists_variables

pub returns-clause-roots : goal.returns-clause-roots
returns-clause-roots c = sources_have_roots

pub returns-clause-shared : goal.returns-clause-shared
returns-clause-shared c = sources_are_shared

pub returns-clause-imports : goal.returns-clause-imports
returns-clause-imports c = all_roots_import
