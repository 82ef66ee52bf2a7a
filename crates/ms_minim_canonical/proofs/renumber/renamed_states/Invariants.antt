use Rattle.std.proofs.Common.{take}
use Rattle.ms_minim_canonical.specs.inner.Renumbering.{ArePaired, IsStateOf}
use Rattle.ms_minim_canonical.proofs.renumber.renamed_states.Given as goal

-- the states so far
abbrev pub invariant-loop-number : goal.invariant-loop-number
invariant-loop-number l = ArePaired (IsStateOf l.version l.states l.seen.states.keys l.seen.places.keys) (take l.number-index l.seen.states.keys) l.made
