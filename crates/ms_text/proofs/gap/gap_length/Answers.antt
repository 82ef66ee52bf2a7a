use Rattle.std.proofs.Common.{ℕ, arith, length-drop}
use Rattle.std.proofs.lemmas.List.{take_rest}
use Rattle.ms_text.proofs.Gaps.{gap_step}
use Rattle.ms_text.proofs.gap.gap_length.Goals as goal

pub loop-piece-preserved : goal.loop-piece-preserved
loop-piece-preserved c =
    let bounds = rw take_rest at c.in-Some.ensures.bounds in
    record {
      within = omega (arith, length-drop {A = ℕ});
      gap = gap_step c.args.rest.now c.loop-piece.length c.in-Some.piece c.loop-piece.invariant.gap (rw take_rest at c.in-Some.ensures.some);
    }
