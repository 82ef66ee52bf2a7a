use Rattle.std.proofs.Common.{◌≡◌}
use Rattle.ms_text.specs.Spelling.{left_out_spelling}
use Rattle.ms_text.proofs.Tables.{NoneBefore}
use Rattle.ms_text.proofs.keyword.is_left_out.Given as goal

abbrev pub invariant-loop-word : goal.invariant-loop-word
invariant-loop-word l = NoneBefore (λ word. l.slice ≡ left_out_spelling word) l.word-items l.word-index
