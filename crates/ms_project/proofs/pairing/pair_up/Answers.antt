use Rattle.std.proofs.Common.{◌≡◌, IfOk, sym, subst}
use Rattle.ms_dfa.specs.Automaton.{variables_of}
use Rattle.ms_logic.specs.Lists.{AreRising, IsAmong}
use Rattle.ms_dfa_explore.specs.Explored.{OnRefused}
use Rattle.ms_product.specs.declared.op.Op.TheVariants.{And}
use Rattle.ms_product.specs.Pairing.{Operands, AreAtLeast, AreReachedPairs, IsPairedIn, IsPairedStore, ReachedAreAtLeast}
use Rattle.ms_product.specs.declared.pairing.Paired.{Paired}
use Rattle.ms_product.proofs.CombineSteps.{operands_as}
use Rattle.ms_project.specs.Paired.{operands_for}
use Rattle.ms_project.proofs.SearchLemmas.{both_refused}
use Rattle.ms_project.proofs.pairing.pair_up.Goals as goal

pub over_tracks-requires-clause-rising : goal.over_tracks-requires-clause-rising
over_tracks-requires-clause-rising c = subst AreRising (sym c.tracks.ensures.variables) c.tracks.ensures.automaton.rising

pub over_tracks-requires-clause-among : goal.over_tracks-requires-clause-among
over_tracks-requires-clause-among c = λ v among. subst (λ vs. IsAmong vs v) (sym c.tracks.ensures.variables) among

pub over_tracks-requires-2-clause-rising : goal.over_tracks-requires-2-clause-rising
over_tracks-requires-2-clause-rising c = subst AreRising (sym c.tracks-2.ensures.variables) c.tracks-2.ensures.automaton.rising

pub over_tracks-requires-2-clause-among : goal.over_tracks-requires-2-clause-among
over_tracks-requires-2-clause-among c = λ v among. subst (λ vs. IsAmong vs v) (sym c.tracks-2.ensures.variables) (c.requires.domain.among v among)

pub returns-clause-paired : goal.returns-clause-paired
returns-clause-paired c =
    let a = c.args.body.now in
    let b = c.args.domain.now in
    let left = c.in-Ok.left in
    let right = c.in-Ok-over_tracks.right in
    let are = operands_as a b left.automaton.now right.automaton.now left.map right.map a.variables (variables_of c.tracks.result.now) (variables_of c.tracks-2.result.now)
    c.in-Ok.ensures.automaton c.in-Ok.ensures.map c.tracks.ensures.variables c.in-Ok-over_tracks.ensures.automaton c.in-Ok-over_tracks.ensures.map c.tracks-2.ensures.variables in
    subst (λ (o : Operands). IfOk c.pair_up.result (λ p. IsPairedIn p.store.nodes And o p.pairs p.start p.states)) are c.pair_up.ensures.paired

pub returns-clause-store : goal.returns-clause-store
returns-clause-store c =
    let a = c.args.body.now in
    let b = c.args.domain.now in
    let left = c.in-Ok.left in
    let right = c.in-Ok-over_tracks.right in
    let are = operands_as a b left.automaton.now right.automaton.now left.map right.map a.variables (variables_of c.tracks.result.now) (variables_of c.tracks-2.result.now)
    c.in-Ok.ensures.automaton c.in-Ok.ensures.map c.tracks.ensures.variables c.in-Ok-over_tracks.ensures.automaton c.in-Ok-over_tracks.ensures.map c.tracks-2.ensures.variables in
    subst (λ (o : Operands). IfOk c.pair_up.result (λ p. IsPairedStore p.store c.args.limit And o p.pairs)) are c.pair_up.ensures.store

pub returns-clause-reached : goal.returns-clause-reached
returns-clause-reached c =
    let a = c.args.body.now in
    let b = c.args.domain.now in
    let left = c.in-Ok.left in
    let right = c.in-Ok-over_tracks.right in
    let are = operands_as a b left.automaton.now right.automaton.now left.map right.map a.variables (variables_of c.tracks.result.now) (variables_of c.tracks-2.result.now)
    c.in-Ok.ensures.automaton c.in-Ok.ensures.map c.tracks.ensures.variables c.in-Ok-over_tracks.ensures.automaton c.in-Ok-over_tracks.ensures.map c.tracks-2.ensures.variables in
    subst (λ (o : Operands). IfOk c.pair_up.result (λ p. AreReachedPairs o p.pairs)) are c.pair_up.ensures.reached

pub returns-clause-nodes : goal.returns-clause-nodes
returns-clause-nodes c =
    let a = c.args.body.now in
    let b = c.args.domain.now in
    let left = c.in-Ok.left in
    let right = c.in-Ok-over_tracks.right in
    let are = operands_as a b left.automaton.now right.automaton.now left.map right.map a.variables (variables_of c.tracks.result.now) (variables_of c.tracks-2.result.now)
    c.in-Ok.ensures.automaton c.in-Ok.ensures.map c.tracks.ensures.variables c.in-Ok-over_tracks.ensures.automaton c.in-Ok-over_tracks.ensures.map c.tracks-2.ensures.variables in
    both_refused Paired (λ refused. (refused ≡ c.args.limit) × AreAtLeast c.args.limit And (operands_for a b)) c.args.limit (ReachedAreAtLeast c.args.limit And (operands_for a b)) c.pair_up.result (λ refused cause. cause.0)
    (subst (λ (o : Operands). OnRefused c.pair_up.result (λ refused. (refused ≡ c.args.limit) × AreAtLeast c.args.limit And o)) are c.pair_up.ensures.nodes)
    (subst (λ (o : Operands). OnRefused c.pair_up.result (λ refused. ReachedAreAtLeast c.args.limit And o)) are c.pair_up.ensures.reached_nodes)
