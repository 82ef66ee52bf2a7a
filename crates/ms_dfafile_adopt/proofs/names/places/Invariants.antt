use Rattle.std.proofs.Common.{take}
use Rattle.ms_dfafile_adopt.specs.inner.Map.{ArePlacesOf}
use Rattle.ms_dfafile_adopt.proofs.names.places.Given as goal

-- the places of the names so far
abbrev pub invariant-loop-name : goal.invariant-loop-name
invariant-loop-name l = ArePlacesOf l.names (take l.name-index l.wanted) l.made
