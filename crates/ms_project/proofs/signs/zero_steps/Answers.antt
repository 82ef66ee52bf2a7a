use Rattle.std.proofs.Common.{◌<◌, sym, subst, ◌∙◌}
use Rattle.ms_project.proofs.SubsetLemmas.{tested_at}
use Rattle.ms_project.proofs.signs.zero_steps.Goals as goal

pub eval-next-requires-clause-tested : goal.eval-next-requires-clause-tested
eval-next-requires-clause-tested c = λ var tested.
    subst (λ n. var < n) (sym (c.as_slice.ensures.len ∙ c.in-Ok.ensures.len))
    (tested_at c.args.store.now.nodes c.args.count c.args.states.now c.loop-state.state-index _ c.requires c.loop-state-test.true var tested)
