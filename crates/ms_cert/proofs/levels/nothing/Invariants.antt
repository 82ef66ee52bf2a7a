use Rattle.std.proofs.Common.{◌≡◌, length}
use Rattle.ms_cert.proofs.levels.nothing.Given as goal

-- a word for each state so far
abbrev pub invariant-loop : goal.invariant-loop
invariant-loop l = length l.words.items ≡ l.index
