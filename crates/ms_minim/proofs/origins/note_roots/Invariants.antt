use Rattle.std.proofs.Common.{length}
use Rattle.ms_minim.specs.inner.Origin.{OriginsSoFar}
use Rattle.ms_minim.proofs.origins.note_roots.Given as goal

-- the start and the states so far are origins
abbrev pub invariant-loop-state : goal.invariant-loop-state
invariant-loop-state l = OriginsSoFar l.automaton l.origins l.state (length l.automaton.nodes)
