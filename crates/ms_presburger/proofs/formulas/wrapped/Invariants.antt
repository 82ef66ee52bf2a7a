use Rattle.std.proofs.Common.{◌+◌, ◌-◌, ◌*◌, ◌≤◌}
use Rattle.ms_logic.specs.Tree.{Form}
use Rattle.ms_translation.specs.Made.{Gives}
use Rattle.ms_presburger.specs.inner.Scopes.{wrapped}
use Rattle.ms_presburger.proofs.formulas.wrapped.Given as goal

abbrev pub invariant-loop-left : goal.invariant-loop-left
invariant-loop-left l = record {
  within : l.left ≤ l.count;
  made : (f : Form) → Gives l.fn.body f → Gives l.made (wrapped l.quant (l.count - l.left) (l.x + 2 * l.left) f);
}

abbrev pub decreases-loop-left : goal.decreases-loop-left
decreases-loop-left l = l.left
