use Rattle.std.proofs.Common.{◌≡◌, ◌++◌, drop}
use Rattle.ms_include.specs.Include.{numbers}
use Rattle.ms_include.proofs.begun.numbers.Given as goal

-- the numbers so far and those that are left are all
abbrev pub invariant-loop-begun : goal.invariant-loop-begun
invariant-loop-begun l = l.made ++ numbers (drop l.begun-index l.chain) ≡ numbers l.chain
