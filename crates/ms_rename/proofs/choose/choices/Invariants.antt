use Rattle.std.proofs.Common.{◌≡◌, map, take}
use Rattle.ms_rename.specs.inner.Choice.{choice_of}
use Rattle.ms_rename.proofs.choose.choices.Given as goal

-- the ends that are chosen so far
abbrev pub invariant-loop-number : goal.invariant-loop-number
invariant-loop-number l = l.made ≡ map (choice_of l.ends) (take l.number l.pairs)
