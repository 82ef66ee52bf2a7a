-- Trees of the code.
use Rattle.std.proofs.Common.{◌≡◌, List, sym, ap, ◌∙◌}
use Rattle.ms_logic.specs.declared.mode.Rel.{Rel}
use Rattle.ms_presburger.specs.declared.linear.Part.{Part}
use Rattle.ms_presburger.specs.declared.linear.Linear.TheOpen.{Linear-F}
use Rattle.ms_presburger.specs.declared.linear.Linear.TheFolds.{fold-roll-Linear}
use Rattle.ms_presburger.specs.declared.linear.Linear.TheVariants.{True, False, Compare, rolls-True, rolls-False, rolls-Compare}
use Rattle.ms_presburger.specs.Tree.{Arithmetic, truth, falsity, comparison}
use Rattle.ms_presburger.specs.View.{arithmetic_at, arithmetic_of}

pub arithmetic_of-True : arithmetic_of True ≡ truth
arithmetic_of-True = ap arithmetic_of (sym rolls-True) ∙ fold-roll-Linear Arithmetic arithmetic_at Linear-F.True

pub arithmetic_of-False : arithmetic_of False ≡ falsity
arithmetic_of-False = ap arithmetic_of (sym rolls-False) ∙ fold-roll-Linear Arithmetic arithmetic_at Linear-F.False

pub arithmetic_of-Compare : (r : Rel) (left right : List Part) → arithmetic_of (Compare r left right) ≡ comparison r left right
arithmetic_of-Compare r left right = ap arithmetic_of (sym (rolls-Compare r left right)) ∙ fold-roll-Linear Arithmetic arithmetic_at (Linear-F.Compare r left right)
