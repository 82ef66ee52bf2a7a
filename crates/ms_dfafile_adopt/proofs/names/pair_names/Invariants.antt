use Rattle.std.proofs.Common.{◌≡◌, take}
use Rattle.ms_dfafile_adopt.specs.inner.Map.{pair_names}
use Rattle.ms_dfafile_adopt.proofs.names.pair_names.Given as goal

-- the names so far
abbrev pub invariant-loop-pair : goal.invariant-loop-pair
invariant-loop-pair l = l.made ≡ pair_names (take l.pair-index l.pairs)
