use Rattle.std.proofs.Common.{◌∙◌}
use Rattle.ms_presburger.proofs.Lookups.{bind-next, hide-next}
use Rattle.ms_presburger.proofs.scope.bind.Goals as goal

pub loop-i-preserved : goal.loop-i-preserved
loop-i-preserved c =
    let names = c.args.names.now in
    let i = c.loop-i.i in
    let name = c.index-names-i.result in
    let set = c.in_ok-set.ensures in
    record {
      scope = λ scope known. bind-next c.args.x scope names i name c.loop-i.bindings c.set.new.bindings c.loop-i-test.true c.index-names-i.is (c.loop-i.invariant.scope scope known) set;
      hidden = λ scope known.
          c.in_ok-push.ensures.ok
          ∙ hide-next c.args.x scope names i name c.loop-i.bindings c.loop-i.hidden c.variable_of.result c.loop-i-test.true c.index-names-i.is (c.loop-i.invariant.scope scope known) (c.loop-i.invariant.hidden scope known) c.variable_of.ensures;
    }
