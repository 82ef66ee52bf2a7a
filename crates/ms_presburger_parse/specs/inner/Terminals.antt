-- Symbols as the code sees them, apart from the bytes of names.
use Rattle.std.specs.Prelude.{ℕ, List}
use Rattle.ms_presburger_parse.specs.Symbol.{Symbol, name, number, word_true, word_false, quantifier, negation_sign, infix_operator, joining, relation, plus, comma, colon, open_bracket, close_bracket, semicolon, other}
use Rattle.ms_presburger_parse.specs.declared.terminal.Terminal.{Terminal}
use Rattle.ms_presburger_parse.specs.declared.terminal.Terminal.TheVariants as terminals

-- the symbol, with these bytes where it is a name
abbrev pub symbol_with : Terminal → List ℕ → Symbol
symbol_with terminals.Name bytes = name bytes
symbol_with (terminals.Number n) bytes = number n
symbol_with terminals.True bytes = word_true
symbol_with terminals.False bytes = word_false
symbol_with (terminals.Quantifier q) bytes = quantifier q
symbol_with terminals.Negation bytes = negation_sign
symbol_with (terminals.Infix op) bytes = infix_operator op
symbol_with (terminals.Joining op) bytes = joining op
symbol_with (terminals.Relation r) bytes = relation r
symbol_with terminals.Plus bytes = plus
symbol_with terminals.Comma bytes = comma
symbol_with terminals.Colon bytes = colon
symbol_with terminals.Open bytes = open_bracket
symbol_with terminals.Close bytes = close_bracket
symbol_with terminals.Semicolon bytes = semicolon
symbol_with terminals.Other bytes = other
