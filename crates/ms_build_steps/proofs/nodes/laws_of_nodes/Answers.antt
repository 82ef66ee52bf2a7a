use Rattle.ms_build.proofs.LawLemmas.{child_has_value}
use Rattle.ms_build.specs.Built.{node_meaning}
use Rattle.ms_build_steps.proofs.Imports.{imports_are_below_their_steps}
use Rattle.ms_build_steps.proofs.Lists.{lists_are_within_budget}
use Rattle.ms_build_steps.proofs.NodeSigns.{say_same}
use Rattle.ms_build_steps.proofs.PlainNodes.{plain_nodes_are_below_their_steps}
use Rattle.ms_build_steps.proofs.Pairs.{connectives_are_within_budget}
use Rattle.ms_build_steps.proofs.Quantifiers.{quantifiers_are_below_their_steps, variables_inside_are_own_and_bound}
use Rattle.ms_build_steps.proofs.Relations.{relations_are_below_their_steps}
use Rattle.ms_build_steps.proofs.SmallLimits.{small_limits_are_below_steps}
use Rattle.ms_build_steps.proofs.Widenings.{bodies_widen_within_budget, widenings_are_within_budget}
use Rattle.ms_build_steps.proofs.nodes.laws_of_nodes.Goals as goal

pub returns-clause-same : goal.returns-clause-same
returns-clause-same c = λ imports mode entries orders f names i own least content have unfolds rising long is full.
    say_same imports mode f own names long rising least content (node_meaning imports entries i) is.mode_is is.variables_are is.values full
    (λ e sign means. (child_has_value imports entries orders f (record { node = i; map = names }) e sign have unfolds).0 means)

pub returns-clause-connectives : goal.returns-clause-connectives
returns-clause-connectives c = connectives_are_within_budget

pub returns-clause-lists : goal.returns-clause-lists
returns-clause-lists c = lists_are_within_budget

pub returns-clause-relations : goal.returns-clause-relations
returns-clause-relations c = relations_are_below_their_steps

pub returns-clause-small : goal.returns-clause-small
returns-clause-small c = small_limits_are_below_steps

pub returns-clause-plain : goal.returns-clause-plain
returns-clause-plain c = plain_nodes_are_below_their_steps

pub returns-clause-of_imports : goal.returns-clause-of_imports
returns-clause-of_imports c = imports_are_below_their_steps

pub returns-clause-widenings : goal.returns-clause-widenings
returns-clause-widenings c = widenings_are_within_budget

pub returns-clause-bodies : goal.returns-clause-bodies
returns-clause-bodies c = bodies_widen_within_budget

pub returns-clause-inside : goal.returns-clause-inside
returns-clause-inside c = variables_inside_are_own_and_bound

pub returns-clause-quantifiers : goal.returns-clause-quantifiers
returns-clause-quantifiers c = quantifiers_are_below_their_steps
