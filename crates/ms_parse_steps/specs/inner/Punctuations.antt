-- The symbols that stand alone between names and expressions.
use Rattle.ms_parse_grammar.specs.declared.operator.Listing.{Listing}
use Rattle.ms_parse_grammar.specs.declared.operator.Listing.TheVariants.{Literal, Call}
use Rattle.std.specs.Prelude.{◌≢◌, true, List, [], ◌∷◌}
use Rattle.ms_logic.specs.declared.mode.Rel.TheVariants.{Equal}
use Rattle.ms_parse_steps.specs.declared.punctuation.Punctuation.{Punctuation}
use Rattle.ms_parse_steps.specs.declared.punctuation.Punctuation.TheVariants as marks
use Rattle.ms_parse_grammar.specs.Symbol.{Symbol, infix_operator, sign, word_ws1s, open_round, close_round, close_curly, comma, semicolon, arrow, Placed, placed}
use Rattle.ms_parse_grammar.specs.declared.operator.Binary.TheVariants.{Relation}

abbrev pub punctuation : Punctuation → Symbol
punctuation marks.OpenRound = open_round
punctuation marks.CloseRound = close_round
punctuation marks.CloseCurly = close_curly
punctuation marks.Comma = comma
punctuation marks.Semicolon = semicolon
punctuation marks.Arrow = arrow
punctuation marks.Equal = infix_operator (Relation Equal)
punctuation marks.Minus = sign true
punctuation marks.Ws1s = word_ws1s

-- the first symbol is another one, or there is none
abbrev pub IsNot : Symbol → List Placed → Type 0
IsNot s [] = Unit {0}
IsNot s (placed t at ∷ more) = t ≢ s

-- the bracket behind a list
abbrev pub closing : Listing → Punctuation
closing Literal = marks.CloseCurly
closing (Call p) = marks.CloseRound
