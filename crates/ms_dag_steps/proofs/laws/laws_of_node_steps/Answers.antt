use Rattle.ms_dag_steps.proofs.OccurrenceLemmas.{nodes_occur_in_roots}
use Rattle.ms_dag_steps.proofs.OwnLemmas.{own_variables_are_free}
use Rattle.ms_dag_steps.proofs.StepLemmas.{nodes_have_their_steps, prefixes_are_operands}
use Rattle.ms_dag_steps.proofs.SubformulaSteps.{steps_are_own_steps}
use Rattle.ms_dag_steps.proofs.laws.laws_of_node_steps.Goals as goal

pub returns-clause-occur : goal.returns-clause-occur
returns-clause-occur c = nodes_occur_in_roots

pub returns-clause-own : goal.returns-clause-own
returns-clause-own c = own_variables_are_free

pub returns-clause-prefixes : goal.returns-clause-prefixes
returns-clause-prefixes c = prefixes_are_operands

pub returns-clause-own_steps : goal.returns-clause-own_steps
returns-clause-own_steps c = steps_are_own_steps

pub returns-clause-steps : goal.returns-clause-steps
returns-clause-steps c = nodes_have_their_steps
