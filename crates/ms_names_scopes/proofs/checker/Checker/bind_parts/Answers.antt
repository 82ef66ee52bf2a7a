use Rattle.std.proofs.Common.{arith}
use Rattle.ms_names_scopes.proofs.Lists.{names-next}
use Rattle.ms_names_scopes.proofs.checker.Checker.bind_parts.Goals as goal

pub loop-part-preserved : goal.loop-part-preserved
loop-part-preserved c =
    record {
      state =
          names-next c.args.self.now c.loop-part.self c.bind.new.self c.args.first c.loop-part.x c.args.order c.args.parts.now c.loop-part.part-index
          c.part-item.result (omega arith) c.part-item.is c.loop-part.invariant.state c.loop-part.invariant.number c.in_ok-bind.ensures;
      number = omega (arith, c.loop-part.invariant.number);
    }
