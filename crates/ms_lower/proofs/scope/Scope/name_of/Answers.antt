use Rattle.std.proofs.Common.{◌-◌, cond, take, sym, ap, ◌∙◌, arith}
use Rattle.ms_lower.specs.inner.Scope.{names_in}
use Rattle.ms_lower.proofs.Scopes.{name_before}
use Rattle.ms_lower.proofs.scope.Scope.name_of.Goals as goal

pub returns-then-stands_for : goal.returns-then-stands_for
returns-then-stands_for c =
    let before = names_in (take (c.loop-i.i - 1) c.args.self.now) c.args.order c.args.variable in
    sym (ap (λ b. cond b c.index.result.now.name before) c.if-stands_for.true)
    ∙ (sym (name_before c.args.self.now c.self.inside.variables.items c.loop-i.i c.index.result.now c.args.order c.args.variable c.stands_for.result c.self.view_is c.loop-i-test.true c.loop-i.invariant.within c.index.ensures c.stands_for.ensures)
    ∙ c.loop-i.invariant.same)

pub loop-i-preserved : goal.loop-i-preserved
loop-i-preserved c =
    let before = names_in (take (c.loop-i.i - 1) c.args.self.now) c.args.order c.args.variable in
    record {
      within = let w = c.loop-i.invariant.within in omega arith;
      same =
          sym (ap (λ b. cond b c.index.result.now.name before) c.if-stands_for.false)
          ∙ (sym (name_before c.args.self.now c.self.inside.variables.items c.loop-i.i c.index.result.now c.args.order c.args.variable c.stands_for.result c.self.view_is c.loop-i-test.true c.loop-i.invariant.within c.index.ensures c.stands_for.ensures)
          ∙ c.loop-i.invariant.same);
    }
