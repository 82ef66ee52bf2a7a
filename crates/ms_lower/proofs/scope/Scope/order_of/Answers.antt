use Rattle.std.proofs.Common.{◌∙◌, arith}
use Rattle.ms_lower.proofs.SeenVariables.{order_here, order_not_here}
use Rattle.ms_lower.proofs.scope.Scope.order_of.Goals as goal

pub returns-then-variable-named : goal.returns-then-variable-named
returns-then-variable-named c =
    order_here c.args.self.now c.self.inside.variables.items c.loop-i.i c.index-named.result.now c.args.variable c.self.view_is c.loop-i-test.true c.loop-i.invariant.within c.index-named.ensures c.if-variable-named.true ∙ c.loop-i.invariant.same

pub loop-i-preserved : goal.loop-i-preserved
loop-i-preserved c = record {
  within = let w = c.loop-i.invariant.within in omega arith;
  same = order_not_here c.args.self.now c.self.inside.variables.items c.loop-i.i c.index-named.result.now c.args.variable c.self.view_is c.loop-i-test.true c.loop-i.invariant.within c.index-named.ensures c.if-variable-named.false ∙ c.loop-i.invariant.same;
}
