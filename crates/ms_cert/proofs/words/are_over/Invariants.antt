use Rattle.std.proofs.Common.{◌≡◌, ℕ, ◌<◌, Some, slice_get}
use Rattle.ms_dfa.specs.Files.{content_of_file}
use Rattle.ms_list.specs.declared.word.Word.{Word}
use Rattle.ms_logic_words.specs.Content.{IsWordOver}
use Rattle.ms_cert.proofs.words.are_over.Given as goal

-- the words so far
abbrev pub invariant-loop-word : goal.invariant-loop-word
invariant-loop-word l = (i : ℕ) (word : Word) → i < l.word-index → slice_get l.words i ≡ Some word → IsWordOver (content_of_file l.plain).variables word
