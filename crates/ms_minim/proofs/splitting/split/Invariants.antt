use Rattle.std.proofs.Common.{◌≡◌, ◌++◌, length}
use Rattle.ms_minim.specs.inner.Split.{AreSplit, own_keys}
use Rattle.ms_minim.proofs.splitting.split.Given as goal

-- the states so far have their new classes
abbrev pub invariant-loop-state : goal.invariant-loop-state
invariant-loop-state l = AreSplit l.old.classes l.old.members l.marks (own_keys l.marks 0 l.old.members ++ l.keys) l.members l.classes × (length l.classes ≡ l.state)
