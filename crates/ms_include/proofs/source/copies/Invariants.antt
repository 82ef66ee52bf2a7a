use Rattle.std.proofs.Common.{◌≡◌, ◌++◌, drop}
use Rattle.ms_include.proofs.source.copies.Given as goal

-- the copies so far and the names that are left are all names
abbrev pub invariant-loop-name : goal.invariant-loop-name
invariant-loop-name l = l.made ++ drop l.name-index l.names ≡ l.names
