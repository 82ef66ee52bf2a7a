use Rattle.ms_dfa.specs.Values.{own_meaning}
use Rattle.ms_rename.specs.Renamed.{renamed_meaning, renamed_places}
use Rattle.ms_rename.proofs.BesideLemmas.{made_beside, refused_beside}
use Rattle.ms_rename.proofs.DiagonalLemmas.{refused_by_itself}
use Rattle.ms_rename.proofs.RenamedLemmas.{HasValues-renamed, values_same}
use Rattle.ms_rename.proofs.renaming.rename.Goals as goal

pub returns-clause-values : goal.returns-clause-values
returns-clause-values c =
    let a = c.args.a.now in
    values_same (renamed_meaning c.args.map.now a.variables (own_meaning a)) c.in-Ok-renamed_in_scratch.scattered c.reached.result c.reached.ensures.mode c.reached.ensures.variables c.reached.ensures.signs
    (HasValues-renamed c.args.map.now a c.states.ensures.automaton c.requires.long c.requires.orders c.in-Ok-renamed_in_scratch.scattered c.in-Ok-renamed_in_scratch.ensures.mode c.in-Ok-renamed_in_scratch.ensures.variables
    c.in-Ok-renamed_in_scratch.ensures.images c.states-2.ensures.automaton.ordered c.states-2.ensures.automaton.reduced)

pub returns-clause-size : goal.returns-clause-size
returns-clause-size c =
    let a = c.args.a.now in
    λ falls. made_beside a c.in-Ok-renamed_in_scratch.scattered (renamed_places c.args.map.now a.variables) c.states-2.ensures.automaton c.in-Ok-renamed_in_scratch.ensures.images c.reached.result c.reached.ensures.size

pub returns-clause-nodes : goal.returns-clause-nodes
returns-clause-nodes c =
    let a = c.args.a.now in
    refused_by_itself a (renamed_places c.args.map.now a.variables) c.args.limit c.reached.result c.reached.ensures.limit
    (refused_beside a c.in-Ok-renamed_in_scratch.scattered (renamed_places c.args.map.now a.variables) c.states-2.ensures.automaton c.in-Ok-renamed_in_scratch.ensures.images c.args.limit c.reached.result c.reached.ensures.nodes)

pub returns-clause-reached_nodes : goal.returns-clause-reached_nodes
returns-clause-reached_nodes c =
    let a = c.args.a.now in
    refused_beside a c.in-Ok-renamed_in_scratch.scattered (renamed_places c.args.map.now a.variables) c.states-2.ensures.automaton c.in-Ok-renamed_in_scratch.ensures.images c.args.limit c.reached.result c.reached.ensures.nodes
