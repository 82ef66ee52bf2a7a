-- The symbols of a text, in which each token is a symbol by its kind and its bytes.
use Rattle.std.specs.Prelude.{ℕ, List, map, take}
use Rattle.ms_text.specs.declared.token.Kind.{Kind}
use Rattle.ms_text.specs.declared.token.Token.{Token}
use Rattle.ms_text.specs.TokenList.{Lexed, slice_of}

-- the symbols of some tokens of a text
abbrev pub symbols_of : {S : Type 0} → (Kind → List ℕ → S) → Lexed → List Token → List S
symbols_of symbol_of lexed tokens = map (λ (token : Token). symbol_of token.kind (slice_of lexed token)) tokens

-- the symbols of a text
abbrev pub symbols : {S : Type 0} → (Kind → List ℕ → S) → Lexed → List S
symbols symbol_of lexed = symbols_of symbol_of lexed lexed.tokens

-- the symbols of the first tokens, so many
abbrev pub front : {S : Type 0} → (Kind → List ℕ → S) → Lexed → ℕ → List S
front symbol_of lexed i = symbols_of symbol_of lexed (take i lexed.tokens)
