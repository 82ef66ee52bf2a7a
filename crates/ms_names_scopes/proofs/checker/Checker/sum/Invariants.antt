use Rattle.std.proofs.Common.{◌≡◌, drop}
use Rattle.ms_names_rules.specs.Constant.{sum_from}
use Rattle.ms_names_scopes.proofs.checker.Checker.sum.Given as goal

-- the sum so far, and the numbers that are left
abbrev pub invariant-loop-int : goal.invariant-loop-int
invariant-loop-int l = sum_from l.self.scope l.sum (drop l.int-index l.ints) ≡ sum_from l.self.scope 0 l.ints
