use Rattle.std.proofs.Common.{◌≡◌, map, take}
use Rattle.ms_lower.specs.Numbering.{number_at}
use Rattle.ms_lower.specs.inner.Scope.{names_in}
use Rattle.ms_lower.proofs.calls.numbers_of.Given as goal

abbrev pub invariant-loop-param : goal.invariant-loop-param
invariant-loop-param l = l.numbers ≡ map (λ p. number_at l.tables.kept l.tables.globals p.order (names_in l.scope p.order p.variable)) (take l.param-index l.params)
