use Rattle.std.proofs.Common.{sym, subst}
use Rattle.ms_build.specs.Built.{IsManyOf}
use Rattle.ms_build.proofs.connectives.many.Goals as goal

pub returns-in-Ok-clause-many : goal.returns-in-Ok-clause-many
returns-in-Ok-clause-many c =
    let none = c.is_empty.ensures.0 c.if-not-is_empty.false in
    subst (λ cs. IsManyOf c.args.plan.now c.args.many cs c.in-Ok.made) (sym none) c.in-Ok.ensures.many
