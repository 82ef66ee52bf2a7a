use Rattle.std.proofs.Common.{arith}
use Rattle.ms_lower.specs.inner.Scope.{names_in}
use Rattle.ms_lower.proofs.Defaults.{default_more}
use Rattle.ms_lower.proofs.truths.default_names.Goals as goal

pub loop-param-preserved : goal.loop-param-preserved
loop-param-preserved c =
    default_more c.loop-param.named c.push.new.list c.args.params.now c.loop-param.param-index c.param-item.result c.args.variable c.name_of-name.result (names_in c.args.scope.now) (omega arith) c.param-item.is
    c.loop-param.invariant c.name_of-name.ensures c.in_ok-push.ensures.ok
