use Rattle.std.proofs.Common.{◌≡◌, ℕ, ◌<◌, Some, slice_get}
use Rattle.ms_dfa.specs.Files.{content_of_file}
use Rattle.ms_list.specs.declared.word.Word.{Word}
use Rattle.ms_logic_words.specs.Content.{last_state}
use Rattle.ms_cert.proofs.words.end_there.Given as goal

-- the words so far end in their states
abbrev pub invariant-loop-state : goal.invariant-loop-state
invariant-loop-state l = (state : ℕ) (word : Word) → state < l.state → slice_get l.words state ≡ Some word → last_state (content_of_file l.plain) word ≡ state
