use Rattle.std.proofs.Common.{◌+◌, refl, ap, arith}
use Rattle.ms_lower.proofs.AllRoots.{global_seen}
use Rattle.ms_lower.proofs.all_roots.see_globals.Goals as goal

pub loop-global-preserved : goal.loop-global-preserved
loop-global-preserved c =
    let inv = c.loop-global.invariant in
    record {
      number = ap (λ k. k + 1) inv.number;
      seen = global_seen c.loop-global.seen c.enter.new.self c.args.globals.now c.loop-global.global-index c.loop-global.number c.global-item.result _ (omega arith) c.global-item.is inv.number refl refl inv.seen c.in_ok-enter.ensures;
    }
