-- What is written for words and marks.
use Rattle.std.proofs.Common.{◌≡◌, [], ◌∷◌, ◌++◌, refl}
use Rattle.ms_text.specs.declared.keyword.Keyword.{Keyword}
use Rattle.ms_text.specs.declared.keyword.Keyword.TheVariants as words
use Rattle.ms_text.specs.declared.mark.Mark.{Mark}
use Rattle.ms_text.specs.declared.mark.Mark.TheVariants as marks
use Rattle.ms_text.specs.Spelling.{word_spelling, mark_spelling}
use Rattle.ms_parse_grammar.specs.Symbol.{word_symbol, mark_symbol}
use Rattle.ms_parse_print.specs.inner.Printed.{spelled, blank_behind}

pub spelled_word : (word : Keyword) → spelled (word_symbol word) ≡ word_spelling word ++ 32 ∷ []
spelled_word words.Ws1s = refl
spelled_word _ = refl

pub spelled_mark : (mark : Mark) → spelled (mark_symbol mark) ≡ mark_spelling mark ++ blank_behind (mark_symbol mark) ∷ []
spelled_mark marks.Semicolon = refl
spelled_mark _ = refl
