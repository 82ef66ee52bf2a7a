use Rattle.std.proofs.Common.{[], ◌∷◌}
use Rattle.ms_dfa.specs.Automaton.{variable_of}
use Rattle.ms_rename.proofs.WholeLemmas.{values_widened}
use Rattle.ms_rename.proofs.whole.widen.Goals as goal

pub returns-clause-values : goal.returns-clause-values
returns-clause-values c =
    values_widened c.args.a.now c.in-Ok.other (variable_of c.args.track ∷ []) c.combine.result c.mode.result c.states-2.ensures.automaton c.in-Ok.ensures.whole.whole (c.mode.ensures) c.in-Ok.ensures.mode
    c.requires.orders c.combine.ensures.mode c.combine.ensures.variables c.combine.ensures.values
