use Rattle.std.proofs.Common.{◌-◌}
use Rattle.ms_minim_canonical.proofs.WalkOverLemmas.{AreSights}
use Rattle.ms_minim_canonical.proofs.order.sights.Given as goal

-- the start and so many states have been walked over
abbrev pub invariant-loop-done : goal.invariant-loop-done
invariant-loop-done l = AreSights l.store.nodes l.fn.start l.states l.seen.states.keys l.seen.places.keys l.done

abbrev pub decreases-loop-done : goal.decreases-loop-done
decreases-loop-done l = 18446744073709551616 - l.done
