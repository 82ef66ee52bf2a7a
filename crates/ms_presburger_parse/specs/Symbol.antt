-- The symbols of the grammar: what each token says, apart from blanks, comments and places. Words and marks that stand in the
-- same places are grouped by what they stand for.
use Rattle.std.specs.Prelude.{ℕ, List, codes, bytes_eq, if◌then◌else◌}
use Rattle.ms_logic.specs.declared.mode.Quant.{Quant}
use Rattle.ms_logic.specs.declared.mode.Quant.TheVariants.{Ex, All}
use Rattle.ms_logic.specs.declared.mode.Rel.{Rel}
use Rattle.ms_logic.specs.declared.mode.Rel.TheVariants.{Equal, Differs, Less, AtMost, Greater, AtLeast}
use Rattle.ms_text.specs.declared.keyword.Keyword.{Keyword}
use Rattle.ms_text.specs.declared.keyword.Keyword.TheVariants as words
use Rattle.ms_text.specs.declared.mark.Mark.{Mark}
use Rattle.ms_text.specs.declared.mark.Mark.TheVariants as marks
use Rattle.ms_text.specs.declared.token.Kind.{Kind}
use Rattle.ms_text.specs.declared.token.Kind.TheVariants as kinds
use Rattle.ms_text.specs.TokenList.{Lexed}
use Rattle.ms_parse_stack.specs.Symbols as texts
use Rattle.ms_presburger_parse.specs.declared.operator.Binary.{Binary}
use Rattle.ms_presburger_parse.specs.declared.operator.Binary.TheVariants.{Equivalence, Implication}
use Rattle.ms_parse_stack.specs.declared.junction.Junction.{Junction}
use Rattle.ms_parse_stack.specs.declared.junction.Junction.TheVariants.{Conjunction, Disjunction}

pub data Symbol : Type 0 where
  -- a variable
  name : (x : List ℕ) → Symbol
  number : (n : ℕ) → Symbol
  word_true : Symbol
  word_false : Symbol
  -- `ex`, `all`
  quantifier : (q : Quant) → Symbol
  -- `~`
  negation_sign : Symbol
  -- `<=>`, `=>`
  infix_operator : (op : Binary) → Symbol
  -- `&`, `|`
  joining : (op : Junction) → Symbol
  -- `=`, `~=`, `<`, `<=`, `>`, `>=`
  relation : (r : Rel) → Symbol
  plus : Symbol
  comma : Symbol
  colon : Symbol
  open_bracket : Symbol
  close_bracket : Symbol
  semicolon : Symbol
  -- what stands in no formula
  other : Symbol

-- a name is a variable, but for the two that are quantifiers
abbrev pub name_symbol : List ℕ → Symbol
name_symbol bytes =
    if bytes_eq bytes (codes "ex") then quantifier Ex else
    if bytes_eq bytes (codes "all") then quantifier All else
    name bytes

abbrev pub word_symbol : Keyword → Symbol
word_symbol words.True = word_true
word_symbol words.False = word_false
word_symbol _ = other

abbrev pub mark_symbol : Mark → Symbol
mark_symbol marks.Not = negation_sign
mark_symbol marks.Equivalence = infix_operator Equivalence
mark_symbol marks.Implication = infix_operator Implication
mark_symbol marks.And = joining Conjunction
mark_symbol marks.Or = joining Disjunction
mark_symbol marks.Equal = relation Equal
mark_symbol marks.NotEqual = relation Differs
mark_symbol marks.Less = relation Less
mark_symbol marks.LessEqual = relation AtMost
mark_symbol marks.Greater = relation Greater
mark_symbol marks.GreaterEqual = relation AtLeast
mark_symbol marks.Plus = plus
mark_symbol marks.Comma = comma
mark_symbol marks.Colon = colon
mark_symbol marks.OpenParenthesis = open_bracket
mark_symbol marks.CloseParenthesis = close_bracket
mark_symbol marks.Semicolon = semicolon
mark_symbol _ = other

-- the symbol of a token of a kind with these bytes
abbrev pub symbol_of : Kind → List ℕ → Symbol
symbol_of kinds.Name slice = name_symbol slice
symbol_of (kinds.Word w) slice = word_symbol w
symbol_of kinds.LeftOut slice = other
symbol_of (kinds.Number n) slice = number n
symbol_of kinds.Text slice = other
symbol_of (kinds.Mark m) slice = mark_symbol m

-- the symbols of a text
abbrev pub symbols : Lexed → List Symbol
symbols lexed = texts.symbols symbol_of lexed
