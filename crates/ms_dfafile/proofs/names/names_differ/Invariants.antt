use Rattle.std.proofs.Common.{take}
use Rattle.ms_dfafile.proofs.NamesLemmas.{HasSeen, names_in}
use Rattle.ms_dfafile.proofs.names.names_differ.Given as goal

-- the names so far, all different
abbrev pub invariant-loop-variable : goal.invariant-loop-variable
invariant-loop-variable l = HasSeen l.seen (names_in (take l.variable-index l.variables))
