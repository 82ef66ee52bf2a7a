use Rattle.std.proofs.Common.{◌≤◌, length}
use Rattle.ms_minim.specs.inner.Origin.{OriginsSoFar}
use Rattle.ms_minim.proofs.origins.origins_of.Given as goal

-- the ends of the nodes from a place on are noted
abbrev pub invariant-loop-left : goal.invariant-loop-left
invariant-loop-left l = OriginsSoFar l.automaton l.origins (length l.automaton.states) l.left × (l.left ≤ length l.automaton.nodes)

abbrev pub decreases-loop-left : goal.decreases-loop-left
decreases-loop-left l = l.left
