use Rattle.std.proofs.Common.{◌≡◌}
use Rattle.ms_text.specs.Spelling.{word_spelling}
use Rattle.ms_text.proofs.Tables.{NoneBefore}
use Rattle.ms_text.proofs.keyword.word_of.Given as goal

abbrev pub invariant-loop-word : goal.invariant-loop-word
invariant-loop-word l = NoneBefore (λ word. l.slice ≡ word_spelling word) l.word-items l.word-index
