use Rattle.std.proofs.Common.{◌≡◌, length}
use Rattle.ms_minim.specs.inner.Marks.{HaveSignMarks}
use Rattle.ms_minim.proofs.marking.sign_marks.Given as goal

-- the states so far have the marks of their signs
abbrev pub invariant-loop-state : goal.invariant-loop-state
invariant-loop-state l = HaveSignMarks l.automaton l.made × (length l.made ≡ l.state)
