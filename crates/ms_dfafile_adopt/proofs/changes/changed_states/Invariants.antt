use Rattle.std.proofs.Common.{◌≡◌, length}
use Rattle.ms_dfafile_adopt.specs.inner.Open.{ChangesEach}
use Rattle.ms_dfafile_adopt.proofs.changes.changed_states.Given as goal

-- the states so far
abbrev pub invariant-loop-state : goal.invariant-loop-state
invariant-loop-state l = (length l.made ≡ l.state) × ChangesEach l.a l.made
