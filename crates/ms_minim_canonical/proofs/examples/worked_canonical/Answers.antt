use Rattle.ms_minim_canonical.proofs.ExampleLemmas.{nodes_swapped, states_swapped, subset-canonical}
use Rattle.ms_minim_canonical.proofs.examples.worked_canonical.Goals as goal

pub returns-clause-canonical : goal.returns-clause-canonical
returns-clause-canonical c = subset-canonical

pub returns-clause-states : goal.returns-clause-states
returns-clause-states c = states_swapped

pub returns-clause-nodes : goal.returns-clause-nodes
returns-clause-nodes c = nodes_swapped
