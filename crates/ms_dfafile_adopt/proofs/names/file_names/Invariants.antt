use Rattle.std.proofs.Common.{◌≡◌, take}
use Rattle.ms_dfafile_adopt.specs.inner.Map.{file_names}
use Rattle.ms_dfafile_adopt.proofs.names.file_names.Given as goal

-- the names so far
abbrev pub invariant-loop-variable : goal.invariant-loop-variable
invariant-loop-variable l = l.made ≡ file_names (take l.variable-index l.variables)
