use Rattle.std.proofs.Common.{slice_index, ap, sym, ◌∙◌}
use Rattle.std.proofs.lemmas.List.{take_all}
use Rattle.ms_dfa.specs.Automaton.{variables_of}
use Rattle.ms_build.specs.Roots.{named}
use Rattle.ms_build.proofs.RootLemmas.{named-more}
use Rattle.ms_build.proofs.roots.root_tracks.Goals as goal

pub loop-variable-preserved : goal.loop-variable-preserved
loop-variable-preserved c =
    let i = c.loop-variable.variable-index in
    let x = slice_index c.args.variables.now i in
    ap variables_of c.in_ok-push.ensures.ok
    ∙ named-more c.args.plan.now.dag.now.orders c.args.variables.now c.loop-variable.made i x c.order.result c.loop-variable-test.true (λ k. x) (sym c.order.ensures) c.loop-variable.invariant

pub returns : goal.returns
returns c =
    let past = c.loop-variable-test.false in
    c.loop-variable.invariant ∙ ap (named c.args.plan.now.dag.now.orders) (take_all c.loop-variable.variable-index c.args.variables.now past)
