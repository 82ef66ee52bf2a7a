use Rattle.std.proofs.Common.{◌≡◌, ◌-◌, ◌≤◌, length, take}
use Rattle.ms_edge.specs.Sink.{grown}
use Rattle.ms_edge.proofs.sink.write_all.Given as goal

-- what was taken is the front of the bytes up to here
abbrev pub invariant-loop-done : goal.invariant-loop-done
invariant-loop-done g l = (l.done ≤ length l.bytes) × ((g.S.Sink.told l.out).taken ≡ grown (g.S.Sink.told l.initial.out).taken (take l.done l.bytes)) × ((g.S.Sink.told l.initial.out).faults ≤ (g.S.Sink.told l.out).faults)

abbrev pub decreases-loop-done : goal.decreases-loop-done
decreases-loop-done g l = length l.bytes - l.done
