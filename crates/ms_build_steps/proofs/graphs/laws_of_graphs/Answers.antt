use Rattle.ms_build_steps.proofs.AnyNodes.{nodes_are_below_their_steps}
use Rattle.ms_build_steps.proofs.Graph.{below_its_steps_is_below_roots, lacking_is_below_its_steps, lacking_is_below_roots}
use Rattle.ms_build_steps.proofs.Roots.{roots_are_below_their_steps}
use Rattle.ms_build_steps.proofs.StepKinds.{measures_are_of_kinds}
use Rattle.ms_build_steps.proofs.graphs.laws_of_graphs.Goals as goal

pub returns-clause-kinds : goal.returns-clause-kinds
returns-clause-kinds c = measures_are_of_kinds

pub returns-clause-nodes : goal.returns-clause-nodes
returns-clause-nodes c = nodes_are_below_their_steps

pub returns-clause-roots : goal.returns-clause-roots
returns-clause-roots c = roots_are_below_their_steps

pub returns-clause-own : goal.returns-clause-own
returns-clause-own c = lacking_is_below_its_steps

pub returns-clause-of_roots : goal.returns-clause-of_roots
returns-clause-of_roots c = below_its_steps_is_below_roots

pub returns-clause-lacking : goal.returns-clause-lacking
returns-clause-lacking c = lacking_is_below_roots
