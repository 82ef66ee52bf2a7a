use Rattle.std.proofs.Common.{◌≡◌, List, ℕ, ◌++◌}
use Rattle.ms_text.specs.Spelling.{mark_spelling}
use Rattle.ms_text.proofs.Tables.{NoneBefore}
use Rattle.ms_text.proofs.mark.mark_at.Given as goal

abbrev pub invariant-loop-mark : goal.invariant-loop-mark
invariant-loop-mark l = NoneBefore (λ mark. (behind : List ℕ) × (l.rest ≡ mark_spelling mark ++ behind)) l.mark-items l.mark-index
