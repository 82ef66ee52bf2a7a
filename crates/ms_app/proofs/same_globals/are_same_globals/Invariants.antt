use Rattle.ms_app.proofs.GlobalLemmas.{AreSameUpTo}
use Rattle.ms_app.proofs.same_globals.are_same_globals.Given as goal

-- all globals so far are the same
abbrev pub invariant-loop-place : goal.invariant-loop-place
invariant-loop-place l = AreSameUpTo l.place l.left l.right
