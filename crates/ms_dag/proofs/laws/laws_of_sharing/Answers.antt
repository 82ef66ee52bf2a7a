use Rattle.ms_dag.proofs.ImportLemmas.{nodes_import_as_roots_do}
use Rattle.ms_dag.proofs.NodeValues.{node_has_value_of_formula}
use Rattle.ms_dag.proofs.NodesByChildren.{node_has_value_by_children}
use Rattle.ms_dag.proofs.laws.laws_of_sharing.Goals as goal

pub returns-clause-of_formula : goal.returns-clause-of_formula
returns-clause-of_formula c = node_has_value_of_formula

pub returns-clause-by_children : goal.returns-clause-by_children
returns-clause-by_children c = node_has_value_by_children

pub returns-clause-imports : goal.returns-clause-imports
returns-clause-imports c = nodes_import_as_roots_do
