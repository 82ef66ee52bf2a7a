use Rattle.std.proofs.Common.{max, sym, ap₂, ◌∙◌, arith}
use Rattle.ms_lower.proofs.NamedParams.{free_nowhere, free_there}
use Rattle.ms_lower.proofs.bodies.free_at.Goals as goal

pub returns-then-params-variables : goal.returns-then-params-variables
returns-then-params-variables c =
    c.max.ensures
    ∙ (ap₂ (λ m n. max m n) c.from.ensures c.spread_number.ensures ∙ sym (free_there c.args.globals c.args.params.now c.args.variables.now (omega (arith, c.if-params-variables.true))))

pub returns-else-params-variables : goal.returns-else-params-variables
returns-else-params-variables c =
    c.from-else-params-variables.ensures ∙ sym (free_nowhere c.args.globals c.args.params.now c.args.variables.now (omega (arith, c.if-params-variables.false)))
