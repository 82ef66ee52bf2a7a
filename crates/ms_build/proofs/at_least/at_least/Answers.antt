use Rattle.ms_build.proofs.AtLeastLemmas.{at_least_by}
use Rattle.ms_build.proofs.at_least.at_least.Goals as goal

pub returns-clause-at_least : goal.returns-clause-at_least
returns-clause-at_least c =
    at_least_by c.args.plan.now.mode c.in_ok-below.below c.in-Ok.not_below c.in_ok-number.number c.states.ensures.automaton c.states-2.ensures.automaton c.states-3.ensures.automaton c.args.n
    (record { mode_is = c.in_ok-below.ensures.mode; variables_are = c.in_ok-below.ensures.variables; values = c.in_ok-below.ensures.values }) c.in-Ok.ensures.same c.in-Ok.ensures.values
    (record { mode_is = c.in_ok-number.ensures.mode; variables_are = c.in_ok-number.ensures.variables; values = c.in_ok-number.ensures.values }) c.project.result c.project.ensures.mode
    c.project.ensures.variables c.project.ensures.values
