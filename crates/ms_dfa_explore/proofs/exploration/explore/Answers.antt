use Rattle.std.proofs.Common.{◌≡◌, ◌<◌, ◌≤◌, [], ◌∷◌, ◌+◌, ◌*◌, length, None, Some, ap, sym, ◌∙◌, subst, arith, length-append}
use Rattle.ms_dfa.specs.declared.state.State.{State}
use Rattle.ms_dfa_explore.specs.Explored.{Leads, Follows}
use Rattle.ms_dfa_explore.proofs.ExploredLemmas.{Follows-none, GrowsForSome-one, GrowsForSome-then, Leads-starts, Follows-more, Explores-refused, refused_by, too_many_by, one_more}
use Rattle.ms_dfa_explore.proofs.exploration.explore.Goals as goal

pub loop-state-init : goal.loop-state-init
loop-state-init g c =
    let builds = c.in_ok-start.ensures.builds in
    let all = g.M.Machine.findings c.start.new.self in (
      c.start.ensures.later,
      c.in_ok-start.ensures.ready,
      record {
        grows = GrowsForSome-one c.args.store.now c.start.new.store all None tt builds.grows;
        start = record { valid = builds.valid; meets = builds.function };
        count = ap length c.requires.empty;
        within = omega arith;
        follows = Follows-none c.start.new.store.nodes all c.args.states.now c.requires.empty;
        limited = omega (arith, ap length c.requires.empty, builds.grows.store.within);
        few = omega (arith, c.in_ok-start.ensures.few);
      },
    )

pub returns-in-Err-clause-explored : goal.returns-in-Err-clause-explored
returns-in-Err-clause-explored g c =
    let was = c.loop-state.invariant.2 in
    let early = g.M.Machine.findings c.loop-state.machine in
    let late = g.M.Machine.findings c.next.new.self in
    let more = g.met.M.Machine.later_findings c.loop-state.machine c.next.new.self c.in-Err.ensures.later in
    let found : c.loop-state.state < late.count = omega (arith, c.loop-state-test.true, c.count.ensures, more.count) in
    let few : length c.loop-state.store.nodes ≤ length c.args.store.now.nodes + late.most_nodes + c.loop-state.state * late.most_nodes
    = subst (λ most. length c.loop-state.store.nodes ≤ length c.args.store.now.nodes + most + c.loop-state.state * most) (sym more.most_nodes) was.few in
    let most = one_more c.args.store.now.nodes c.loop-state.store.nodes c.next.new.store.nodes c.loop-state.state late.count late.most_nodes found few c.in-Err.ensures.few in
    Explores-refused c.args.store.now c.next.new.store late c.loop-state.states c.in-Err.fault
    (GrowsForSome-then early late more c.args.store.now c.loop-state.store c.next.new.store (Some c.loop-state.state) was.grows found c.in-Err.ensures.builds.grows) most.1
    (refused_by c.args.store.now c.loop-state.store c.next.new.store late (Some c.loop-state.state) c.in-Err.fault found was.grows.limit c.in-Err.ensures.builds.nodes)

pub returns-in-Err-add_state-clause-explored : goal.returns-in-Err-add_state-clause-explored
returns-in-Err-add_state-clause-explored g c =
    let was = c.loop-state.invariant.2 in
    let early = g.M.Machine.findings c.loop-state.machine in
    let late = g.M.Machine.findings c.next.new.self in
    let more = g.met.M.Machine.later_findings c.loop-state.machine c.next.new.self c.in-Ok.ensures.later in
    let found : c.loop-state.state < late.count = omega (arith, c.loop-state-test.true, c.count.ensures, more.count) in
    let grows = c.in-Ok.ensures.builds.grows in
    let few : length c.loop-state.store.nodes ≤ length c.args.store.now.nodes + late.most_nodes + c.loop-state.state * late.most_nodes
    = subst (λ most. length c.loop-state.store.nodes ≤ length c.args.store.now.nodes + most + c.loop-state.state * most) (sym more.most_nodes) was.few in
    let most = one_more c.args.store.now.nodes c.loop-state.store.nodes c.next.new.store.nodes c.loop-state.state late.count late.most_nodes found few c.in-Ok.ensures.few in
    Explores-refused c.args.store.now c.next.new.store late c.add_state.new.states c.in-Err-add_state.fault
    (GrowsForSome-then early late more c.args.store.now c.loop-state.store c.next.new.store (Some c.loop-state.state) was.grows found grows) most.1
    (too_many_by c.args.store.now c.next.new.store late c.len-nodes.result c.limit.result (length c.loop-state.states) c.in-Err-add_state.fault
    c.len-nodes.ensures.len (c.limit.ensures ∙ grows.limit ∙ was.grows.limit) (grows.limit ∙ was.grows.limit) (omega (arith, found, was.count)) c.in-Err-add_state.ensures.full)

pub loop-state-preserved : goal.loop-state-preserved
loop-state-preserved g c =
    let was = c.loop-state.invariant.2 in
    let early = g.M.Machine.findings c.loop-state.machine in
    let late = g.M.Machine.findings c.next.new.self in
    let more = g.met.M.Machine.later_findings c.loop-state.machine c.next.new.self c.in-Ok.ensures.later in
    let builds = c.in-Ok.ensures.builds in
    let here : c.loop-state.state < early.count = omega (arith, c.loop-state-test.true, c.count.ensures) in
    let found : c.loop-state.state < late.count = omega (arith, here, more.count) in
    let few : length c.loop-state.store.nodes ≤ length c.args.store.now.nodes + late.most_nodes + c.loop-state.state * late.most_nodes
    = subst (λ most. length c.loop-state.store.nodes ≤ length c.args.store.now.nodes + most + c.loop-state.state * most) (sym more.most_nodes) was.few in
    let most = one_more c.args.store.now.nodes c.loop-state.store.nodes c.next.new.store.nodes c.loop-state.state late.count late.most_nodes found few c.in-Ok.ensures.few in
    let state : State = record { sign = c.sign-sign.result; next = c.in-Ok.next } in
    let added = c.in-Ok-add_state.ensures.added in
    let leads : Leads c.next.new.store.nodes (late.steps c.loop-state.state) c.in-Ok.next = record { valid = builds.valid; meets = builds.function } in (
      g.met.M.Machine.later_later c.args.machine.now c.loop-state.machine c.next.new.self c.loop-state.invariant.0 c.in-Ok.ensures.later,
      c.in-Ok.ensures.ready,
      record {
        grows = GrowsForSome-then early late more c.args.store.now c.loop-state.store c.next.new.store (Some c.loop-state.state) was.grows found builds.grows;
        start = Leads-starts early late more c.loop-state.store.nodes c.next.new.store.nodes c.in_ok-start.start was.grows.store.ordered builds.grows.extends was.start;
        count = ap length added ∙ length-append c.loop-state.states (state ∷ []) ∙ ap (λ n. n + 1) was.count;
        within = omega (arith, found);
        follows = subst (Follows c.next.new.store.nodes late) (sym added)
            (Follows-more early late more c.loop-state.store.nodes c.next.new.store.nodes c.loop-state.states state was.grows.store.ordered builds.grows.extends
            (omega (arith, here, was.count)) was.follows
            (subst (λ n. Leads c.next.new.store.nodes (late.steps n) c.in-Ok.next) (sym was.count) leads)
            (subst (λ n. c.sign-sign.result ≡ late.sign_of n) (sym was.count) c.sign-sign.ensures));
        limited = omega (arith, c.in-Ok-add_state.ensures.within, c.len-nodes.ensures.len, c.limit.ensures, builds.grows.limit, was.grows.limit);
        few = most.0;
      },
    )
