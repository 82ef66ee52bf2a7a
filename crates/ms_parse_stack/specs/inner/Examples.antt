-- Rows of symbols and texts for worked examples.
use Rattle.std.specs.Prelude.{ℕ, zero, suc, List, [], ◌∷◌, ◌++◌, replicate}
use Rattle.std.specs.Str.{byte}
use Rattle.ms_text.specs.TokenList.{Lexed, token_at}
use Rattle.ms_text.specs.declared.mark.Mark.TheVariants.{OpenParenthesis}
use Rattle.ms_text.specs.declared.token.Kind.TheVariants as kinds
use Rattle.ms_text.specs.declared.token.Token.{Token}

-- the symbol so many times, and these behind it
abbrev pub repeated : {S : Type 0} → ℕ → S → List S → List S
repeated zero s more = more
repeated (suc n) s more = s ∷ repeated n s more

-- a text and its tokens
abbrev pub text : List ℕ → List Token → Lexed
text bytes tokens = record { bytes = bytes; tokens = tokens }

-- so many tokens `(`, from a place on
abbrev brackets_from : ℕ → ℕ → List Token
brackets_from at zero = []
brackets_from at (suc n) = token_at (kinds.Mark OpenParenthesis) at 1 ∷ brackets_from (suc at) n

-- the text of so many brackets, and these bytes and tokens behind them
abbrev pub behind_brackets : ℕ → List ℕ → List Token → Lexed
behind_brackets n bytes tokens = text (replicate n (byte "(") ++ bytes) (brackets_from 0 n ++ tokens)
