use Rattle.std.proofs.Common.{◌≡◌, take}
use Rattle.ms_dfafile_adopt.specs.inner.Map.{IsIndex}
use Rattle.ms_dfafile_adopt.proofs.names.index.Given as goal

-- a table of the names so far
abbrev pub invariant-loop-name : goal.invariant-loop-name
invariant-loop-name l = IsIndex (take l.name-index l.names) l.made × (l.place ≡ l.name-index)
