use Rattle.std.proofs.Common.{ap, sym, subst, ◌∙◌}
use Rattle.ms_dfa.specs.Automaton.{variables_of}
use Rattle.ms_logic.specs.Lists.{AreRising, IsAmong}
use Rattle.ms_build.specs.Built.{child_meaning, entries_of, imports_for}
use Rattle.ms_build.specs.Roots.{named}
use Rattle.ms_build.proofs.RootLemmas.{named-rising, orders_for, read_at_first, root-among}
use Rattle.ms_build.proofs.WiderLemmas.{least_still, over_by}
use Rattle.ms_build.specs.Short.{ChildLacks, WideningLacks}
use Rattle.ms_build.proofs.RefusalLemmas.{refused_more}
use Rattle.ms_build.proofs.roots.over_variables.Goals as goal

pub brought-requires-clause-read : goal.brought-requires-clause-read
brought-requires-clause-read c =
    let plan = c.args.plan.now in
    let orders = plan.dag.now.orders in
    (orders_for orders c.args.child.now.map, read_at_first orders (entries_of plan) c.args.child.now c.requires.read)

pub over_tracks-requires-clause-rising : goal.over_tracks-requires-clause-rising
over_tracks-requires-clause-rising c =
    subst AreRising (sym (ap variables_of c.slice.ensures ∙ c.in-Ok-root_tracks.ensures)) (named-rising c.args.plan.now.dag.now.orders c.args.variables.now c.requires.variables.rising)

pub over_tracks-requires-clause-among : goal.over_tracks-requires-clause-among
over_tracks-requires-clause-among c v there =
    let plan = c.args.plan.now in
    let orders = plan.dag.now.orders in
    subst (λ vs. IsAmong vs v) (sym (ap variables_of c.slice.ensures ∙ c.in-Ok-root_tracks.ensures))
    (root-among plan.mode orders c.args.child.now c.args.variables.now c.requires.variables (child_meaning (imports_for plan) (entries_of plan) c.args.child.now) c.in-Ok.part
    (c.in-Ok.ensures.part (orders_for orders c.args.child.now.map) (read_at_first orders (entries_of plan) c.args.child.now c.requires.read)) c.in-Ok.ensures.only v there)

pub returns-clause-root : goal.returns-clause-root
returns-clause-root c =
    let plan = c.args.plan.now in
    let orders = plan.dag.now.orders in
    let meaning = child_meaning (imports_for plan) (entries_of plan) c.args.child.now in
    let part = c.in-Ok.ensures.part (orders_for orders c.args.child.now.map) (read_at_first orders (entries_of plan) c.args.child.now c.requires.read) in
    over_by plan.mode (named orders c.args.variables.now) meaning c.in-Ok.part (variables_of c.slice.result.now) c.over_tracks.result c.states.ensures.automaton part.mode_is part.values
    (ap variables_of c.slice.ensures ∙ c.in-Ok-root_tracks.ensures) (root-among plan.mode orders c.args.child.now c.args.variables.now c.requires.variables meaning c.in-Ok.part part c.in-Ok.ensures.only)
    c.over_tracks.ensures.over

pub returns-clause-least : goal.returns-clause-least
returns-clause-least c = least_still c.in-Ok.part c.in-Ok.ensures.least c.over_tracks.result c.over_tracks.ensures.least

pub returns-clause-nodes : goal.returns-clause-nodes
returns-clause-nodes c =
    let plan = c.args.plan.now in
    refused_more (λ refused. WideningLacks plan.limit c.in-Ok.part (variables_of c.slice.result.now)) (λ refused. ChildLacks plan c.args.child.now (named plan.dag.now.orders c.args.variables.now))
    c.over_tracks.result
    (λ refused short.
    record {
      part = c.in-Ok.part;
      is_part = c.in-Ok.ensures.operand;
      short = subst (WideningLacks plan.limit c.in-Ok.part) (ap variables_of c.slice.ensures ∙ c.in-Ok-root_tracks.ensures) short;
    })
    c.over_tracks.ensures.nodes
