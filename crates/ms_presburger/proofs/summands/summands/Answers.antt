use Rattle.std.proofs.Common.{arith}
use Rattle.std.proofs.lemmas.Grind.{common_steps}
use Rattle.ms_presburger.proofs.summands.summands.Goals as goal

pub loop-part-preserved : goal.loop-part-preserved
loop-part-preserved c = record {
  made = λ scope known. (let before = c.loop-part.invariant.made scope known in let next = c.in_ok-append_part.ensures.made scope known in grind (arith, common_steps));
  small = grind (arith, common_steps);
}
