use Rattle.std.proofs.Common.{arith}
use Rattle.ms_edge.proofs.Taking.{grown-take-piece}
use Rattle.ms_edge.proofs.sink.write_all.Goals as goal

pub loop-done-preserved : goal.loop-done-preserved
loop-done-preserved g c = (
  omega (arith, c.in-Ok.ensures.within),
  rw (c.in-Ok.ensures.took, c.loop-done.invariant.1) (grown-take-piece _ c.loop-done.done c.in-Ok.count c.args.bytes.now),
  omega (arith, c.write.ensures.faults_last),
)
