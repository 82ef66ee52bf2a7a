-- Symbols as the code sees them, apart from the bytes of names and texts.
use Rattle.std.specs.Prelude.{◌≡◌, ℕ, suc, List, [], ◌∷◌, drop, Option, IfSome}
use Rattle.ms_list.specs.declared.at.At.{At}
use Rattle.ms_text.specs.declared.token.Kind.{Kind}
use Rattle.ms_text.specs.declared.token.Kind.TheVariants as kinds
use Rattle.ms_text.specs.TokenList.{Lexed}
use Rattle.ms_parse_steps.specs.declared.terminal.Terminal.{Terminal}
use Rattle.ms_parse_steps.specs.declared.terminal.Terminal.TheVariants as terminals
use Rattle.ms_parse_grammar.specs.Symbol.{Symbol, name, number, text, left_out, prefix_operator, infix_operator, joining, sign, quantifier, let_word, kind, predicate_word, default_word, word_true, word_false, dollar, word_empty, word_pconst, word_import, word_export, word_restrict, word_where, word_const, word_include, word_ws1s, open_round, close_round, open_curly, close_curly, comma, colon, semicolon, arrow, between_quotes, Placed, placed, symbols}
use Rattle.ms_parse_steps.specs.inner.Said.{name_of, text_of, int_of}

-- the symbol with these bytes, where it has bytes
abbrev pub symbol_with : Terminal → List ℕ → Symbol
symbol_with terminals.Name bytes = name bytes
symbol_with (terminals.Number n) bytes = number n
symbol_with terminals.Text bytes = text bytes
symbol_with terminals.LeftOut bytes = left_out bytes
symbol_with (terminals.Prefix op) bytes = prefix_operator op
symbol_with (terminals.Infix op) bytes = infix_operator op
symbol_with (terminals.Joining op) bytes = joining op
symbol_with (terminals.Shift minus) bytes = sign minus
symbol_with (terminals.Quantifier q o) bytes = quantifier q o
symbol_with (terminals.Let o) bytes = let_word o
symbol_with (terminals.Variables o) bytes = kind o
symbol_with (terminals.Predicate is_pred) bytes = predicate_word is_pred
symbol_with (terminals.Default o) bytes = default_word o
symbol_with terminals.True bytes = word_true
symbol_with terminals.False bytes = word_false
symbol_with terminals.Dollar bytes = dollar
symbol_with terminals.Empty bytes = word_empty
symbol_with terminals.Pconst bytes = word_pconst
symbol_with terminals.Import bytes = word_import
symbol_with terminals.Export bytes = word_export
symbol_with terminals.Restrict bytes = word_restrict
symbol_with terminals.Where bytes = word_where
symbol_with terminals.Const bytes = word_const
symbol_with terminals.Include bytes = word_include
symbol_with terminals.Ws1s bytes = word_ws1s
symbol_with terminals.OpenRound bytes = open_round
symbol_with terminals.CloseRound bytes = close_round
symbol_with terminals.OpenCurly bytes = open_curly
symbol_with terminals.CloseCurly bytes = close_curly
symbol_with terminals.Comma bytes = comma
symbol_with terminals.Colon bytes = colon
symbol_with terminals.Semicolon bytes = semicolon
symbol_with terminals.Arrow bytes = arrow

-- the bytes of a name, or between the quotes of a text
abbrev pub content : Kind → List ℕ → List ℕ
content kinds.Name slice = slice
content (kinds.Word w) slice = slice
content kinds.LeftOut slice = slice
content (kinds.Number n) slice = slice
content kinds.Text slice = between_quotes slice
content (kinds.Mark m) slice = slice

-- the symbols from the token with this number on
abbrev pub behind : ℕ → Lexed → ℕ → List Placed
behind file lexed i = drop i (symbols file lexed)

-- the token with this number is this symbol
abbrev pub IsNext : ℕ → Lexed → ℕ → Symbol → At → Type 0
IsNext file lexed i s at = behind file lexed i ≡ placed s at ∷ behind file lexed (suc i)

-- the first symbol says nothing of this kind
abbrev pub SaysNot : {X : Type 0} → (Symbol → Option X) → List Placed → Type 0
SaysNot said [] = Unit {0}
SaysNot said (placed s at ∷ more) = IfSome (said s) (λ x. ⊥)

abbrev pub NoName : List Placed → Type 0
NoName ts = SaysNot name_of ts

abbrev pub NoText : List Placed → Type 0
NoText ts = SaysNot text_of ts

-- the first symbol is no number and no name
abbrev pub NoInt : List Placed → Type 0
NoInt ts = SaysNot int_of ts
