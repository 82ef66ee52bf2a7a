use Rattle.std.proofs.Common.{◌≡◌, take}
use Rattle.ms_basic.proofs.operands.list.Given as goal

-- the first tracks are in the list
abbrev pub invariant-loop-track : goal.invariant-loop-track
invariant-loop-track l = l.made ≡ take l.track-index l.tracks
