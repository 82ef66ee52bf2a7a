use Rattle.ms_project.specs.declared.projection.Projection.{Projection}
use Rattle.ms_project.proofs.SearchLemmas.{sets_refused}
use Rattle.ms_project.proofs.projection.search_reached.Goals as goal

pub returns-clause-nodes : goal.returns-clause-nodes
returns-clause-nodes c =
    let made = c.in-Ok.paired in
    sets_refused Projection c.args.body.now c.args.domain.now c.args.track.variable made.store made.pairs made.start made.states c.in-Ok.ensures.paired c.args.limit c.in-Ok.ensures.store c.in-Ok.ensures.reached
    c.search_behind.result c.search_behind.ensures.nodes
