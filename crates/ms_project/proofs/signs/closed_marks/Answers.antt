use Rattle.std.proofs.Common.{◌∙◌}
use Rattle.ms_project.proofs.SubsetLemmas.{zero_steps-within}
use Rattle.ms_project.proofs.signs.closed_marks.Goals as goal

pub close_zeros-requires-clause-within : goal.close_zeros-requires-clause-within
close_zeros-requires-clause-within c =
    zero_steps-within c.args.stage.now.store.now.nodes c.args.stage.now.count c.args.stage.now.states.now c.slice.result.now c.requires.within (c.slice.ensures ∙ c.in_ok-next-in-Ws1s.ensures)
