use Rattle.std.proofs.Common.{◌≡◌, ◌++◌, drop, map}
use Rattle.ms_app_words.proofs.words.texts.Given as goal

-- the texts so far and those of the rest are the texts of all
abbrev pub invariant-loop-word : goal.invariant-loop-word
invariant-loop-word l = map (λ s. s.now) l.texts.items ++ drop l.word-index l.words ≡ l.words
