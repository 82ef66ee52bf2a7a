use Rattle.std.proofs.Common.{◌≡◌, [], map, take}
use Rattle.ms_lower.specs.NumberedRoots.{seen_over, with_orders}
use Rattle.ms_lower.specs.Numbering.{number_at}
use Rattle.ms_lower.proofs.exports.numbers_of.Given as goal

abbrev pub invariant-loop-variable : goal.invariant-loop-variable
invariant-loop-variable l =
    l.numbers ≡ map (λ v. number_at l.tables.kept l.tables.globals v.order v.name) (with_orders (seen_over [] l.seen) (take l.variable-index l.variables))
