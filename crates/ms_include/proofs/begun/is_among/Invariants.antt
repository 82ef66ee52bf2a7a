use Rattle.std.proofs.Common.{◌≡◌, drop}
use Rattle.ms_include.specs.Include.{is_among}
use Rattle.ms_include.proofs.begun.is_among.Given as goal

-- the answer lies with the names that are left
abbrev pub invariant-loop-other : goal.invariant-loop-other
invariant-loop-other l = is_among l.name (drop l.other-index l.names) ≡ is_among l.name l.names
