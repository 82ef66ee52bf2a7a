use Rattle.std.proofs.Common.{◌++◌, ◌∷◌, [], ap, ◌∙◌}
use Rattle.ms_lower.proofs.MainRoot.{range-more}
use Rattle.ms_lower.proofs.main_root.first_numbers.Goals as goal

pub loop-number-preserved : goal.loop-number-preserved
loop-number-preserved c = c.in_ok-push.ensures.ok ∙ (ap (λ l. l ++ c.loop-number.number ∷ []) c.loop-number.invariant ∙ range-more c.loop-number.number)
