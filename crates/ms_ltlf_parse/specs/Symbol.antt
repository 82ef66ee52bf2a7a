-- The symbols of the grammar: what each token says, apart from blanks, comments and places. Words and marks that stand in the
-- same places are grouped by what they stand for.
use Rattle.std.specs.Prelude.{ℕ, List, codes, bytes_eq, if◌then◌else◌}
use Rattle.ms_text.specs.declared.keyword.Keyword.{Keyword}
use Rattle.ms_text.specs.declared.keyword.Keyword.TheVariants as words
use Rattle.ms_text.specs.declared.mark.Mark.{Mark}
use Rattle.ms_text.specs.declared.mark.Mark.TheVariants as marks
use Rattle.ms_text.specs.declared.token.Kind.{Kind}
use Rattle.ms_text.specs.declared.token.Kind.TheVariants as kinds
use Rattle.ms_text.specs.TokenList.{Lexed}
use Rattle.ms_parse_stack.specs.Symbols as texts
use Rattle.ms_ltlf_parse.specs.declared.operator.Binary.{Binary}
use Rattle.ms_ltlf_parse.specs.declared.operator.Binary.TheVariants.{Equivalence, Implication, Until, Release}
use Rattle.ms_parse_stack.specs.declared.junction.Junction.{Junction}
use Rattle.ms_parse_stack.specs.declared.junction.Junction.TheVariants.{Conjunction, Disjunction}
use Rattle.ms_ltlf_parse.specs.declared.operator.Prefix.{Prefix}
use Rattle.ms_ltlf_parse.specs.declared.operator.Prefix.TheVariants.{Negation, Next, WeakNext, Eventually, Always}

pub data Symbol : Type 0 where
  -- a proposition
  name : (n : List ℕ) → Symbol
  word_true : Symbol
  word_false : Symbol
  -- `~`, `X`, `WX`, `F`, `G`
  prefix_operator : (op : Prefix) → Symbol
  -- `<=>`, `=>`, `U`, `R`
  infix_operator : (op : Binary) → Symbol
  -- `&`, `|`
  joining : (op : Junction) → Symbol
  open_bracket : Symbol
  close_bracket : Symbol
  semicolon : Symbol
  -- what stands in no formula
  other : Symbol

-- a name is a proposition, but for the six names that are operators
abbrev pub name_symbol : List ℕ → Symbol
name_symbol bytes =
    if bytes_eq bytes (codes "X") then prefix_operator Next else
    if bytes_eq bytes (codes "WX") then prefix_operator WeakNext else
    if bytes_eq bytes (codes "F") then prefix_operator Eventually else
    if bytes_eq bytes (codes "G") then prefix_operator Always else
    if bytes_eq bytes (codes "U") then infix_operator Until else
    if bytes_eq bytes (codes "R") then infix_operator Release else
    name bytes

abbrev pub word_symbol : Keyword → Symbol
word_symbol words.True = word_true
word_symbol words.False = word_false
word_symbol _ = other

abbrev pub mark_symbol : Mark → Symbol
mark_symbol marks.Not = prefix_operator Negation
mark_symbol marks.Equivalence = infix_operator Equivalence
mark_symbol marks.Implication = infix_operator Implication
mark_symbol marks.And = joining Conjunction
mark_symbol marks.Or = joining Disjunction
mark_symbol marks.OpenParenthesis = open_bracket
mark_symbol marks.CloseParenthesis = close_bracket
mark_symbol marks.Semicolon = semicolon
mark_symbol _ = other

-- the symbol of a token of a kind with these bytes
abbrev pub symbol_of : Kind → List ℕ → Symbol
symbol_of kinds.Name slice = name_symbol slice
symbol_of (kinds.Word w) slice = word_symbol w
symbol_of kinds.LeftOut slice = other
symbol_of (kinds.Number n) slice = other
symbol_of kinds.Text slice = other
symbol_of (kinds.Mark m) slice = mark_symbol m

-- the symbols of a text
abbrev pub symbols : Lexed → List Symbol
symbols lexed = texts.symbols symbol_of lexed
