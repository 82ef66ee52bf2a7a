-- The symbols of the grammar: what each token says, apart from blanks, comments and leading zeros. Words and marks that
-- stand in the same places are grouped by what they stand for.
use Rattle.std.specs.Prelude.{ℕ, ◌-◌, Bool, true, false, List, take, drop, length, map}
use Rattle.ms_list.specs.declared.at.At.{At}
use Rattle.ms_text.specs.declared.keyword.Keyword.{Keyword}
use Rattle.ms_text.specs.declared.keyword.Keyword.TheVariants as words
use Rattle.ms_text.specs.declared.mark.Mark.{Mark}
use Rattle.ms_text.specs.declared.mark.Mark.TheVariants as marks
use Rattle.ms_text.specs.declared.token.Kind.{Kind}
use Rattle.ms_text.specs.declared.token.Kind.TheVariants as kinds
use Rattle.ms_text.specs.declared.token.Token.{Token}
use Rattle.ms_text.specs.TokenList.{Lexed, slice_of}
use Rattle.ms_logic.specs.declared.mode.Order.{Order}
use Rattle.ms_logic.specs.declared.mode.Order.TheVariants.{Zero, One, Two}
use Rattle.ms_logic.specs.declared.mode.Quant.{Quant}
use Rattle.ms_logic.specs.declared.mode.Quant.TheVariants.{Ex, All}
use Rattle.ms_logic.specs.declared.mode.Rel.TheVariants.{Equal, Differs, Less, AtMost, Greater, AtLeast, Member, NotMember, Sub}
use Rattle.ms_parse_grammar.specs.Tree.{Prefix, Negation, Minimum, Maximum, Binary, Implication, Equivalence, Relation, Union, Intersection, Difference, Junction, Conjunction, Disjunction}

pub data Symbol : Type 0 where
  name : (n : List ℕ) → Symbol
  number : (n : ℕ) → Symbol
  -- a text, by what stands between its quotes
  text : (content : List ℕ) → Symbol
  -- a word that the language leaves out, which stands in no tree
  left_out : (bytes : List ℕ) → Symbol
  -- `~`, `min`, `max`
  prefix_operator : (op : Prefix) → Symbol
  -- `=>`, `<=>`, `=`, `~=`, `<`, `<=`, `>`, `>=`, `in`, `notin`, `sub`, `union`, `inter`, `\`
  infix_operator : (op : Binary) → Symbol
  -- `&`, `|`
  joining : (op : Junction) → Symbol
  -- `+`, and where `minus` is true `-`
  sign : (minus : Bool) → Symbol
  -- `ex0` to `all2`, `let0` to `let2`, `var0` to `var2`
  quantifier : (q : Quant) (o : Order) → Symbol
  let_word : (o : Order) → Symbol
  kind : (o : Order) → Symbol
  -- `pred`, and where `is_pred` is false `macro`
  predicate_word : (is_pred : Bool) → Symbol
  -- `defaultwhere1`, `defaultwhere2`
  default_word : (o : Order) → Symbol
  -- `true`, `false`, `$`, `empty`, `pconst`, `import`, `export`, `restrict`
  word_true : Symbol
  word_false : Symbol
  dollar : Symbol
  word_empty : Symbol
  word_pconst : Symbol
  word_import : Symbol
  word_export : Symbol
  word_restrict : Symbol
  -- `where`, `const`, `include`, `ws1s`
  word_where : Symbol
  word_const : Symbol
  word_include : Symbol
  word_ws1s : Symbol
  -- `(`, `)`, `{`, `}`, `,`, `:`, `;`, `->`
  open_round : Symbol
  close_round : Symbol
  open_curly : Symbol
  close_curly : Symbol
  comma : Symbol
  colon : Symbol
  semicolon : Symbol
  arrow : Symbol

-- a symbol, and where its token stands
pub data Placed : Type 0 where
  placed : (s : Symbol) (at : At) → Placed

abbrev pub word_symbol : Keyword → Symbol
word_symbol words.Ws1s = word_ws1s
word_symbol words.Var0 = kind Zero
word_symbol words.Var1 = kind One
word_symbol words.Var2 = kind Two
word_symbol words.Const = word_const
word_symbol words.Pred = predicate_word true
word_symbol words.Macro = predicate_word false
word_symbol words.Include = word_include
word_symbol words.DefaultWhere1 = default_word One
word_symbol words.DefaultWhere2 = default_word Two
word_symbol words.Where = word_where
word_symbol words.True = word_true
word_symbol words.False = word_false
word_symbol words.Ex0 = quantifier Ex Zero
word_symbol words.Ex1 = quantifier Ex One
word_symbol words.Ex2 = quantifier Ex Two
word_symbol words.All0 = quantifier All Zero
word_symbol words.All1 = quantifier All One
word_symbol words.All2 = quantifier All Two
word_symbol words.Let0 = let_word Zero
word_symbol words.Let1 = let_word One
word_symbol words.Let2 = let_word Two
word_symbol words.In = infix_operator (Relation Member)
word_symbol words.NotIn = infix_operator (Relation NotMember)
word_symbol words.Sub = infix_operator (Relation Sub)
word_symbol words.Empty = word_empty
word_symbol words.Min = prefix_operator Minimum
word_symbol words.Max = prefix_operator Maximum
word_symbol words.Union = infix_operator Union
word_symbol words.Inter = infix_operator Intersection
word_symbol words.Restrict = word_restrict
word_symbol words.Import = word_import
word_symbol words.Export = word_export
word_symbol words.PConst = word_pconst

abbrev pub mark_symbol : Mark → Symbol
mark_symbol marks.Semicolon = semicolon
mark_symbol marks.Comma = comma
mark_symbol marks.Colon = colon
mark_symbol marks.OpenParenthesis = open_round
mark_symbol marks.CloseParenthesis = close_round
mark_symbol marks.OpenBrace = open_curly
mark_symbol marks.CloseBrace = close_curly
mark_symbol marks.Equal = infix_operator (Relation Equal)
mark_symbol marks.NotEqual = infix_operator (Relation Differs)
mark_symbol marks.Less = infix_operator (Relation Less)
mark_symbol marks.LessEqual = infix_operator (Relation AtMost)
mark_symbol marks.Equivalence = infix_operator Equivalence
mark_symbol marks.Greater = infix_operator (Relation Greater)
mark_symbol marks.GreaterEqual = infix_operator (Relation AtLeast)
mark_symbol marks.Implication = infix_operator Implication
mark_symbol marks.And = joining Conjunction
mark_symbol marks.Or = joining Disjunction
mark_symbol marks.Not = prefix_operator Negation
mark_symbol marks.Plus = sign false
mark_symbol marks.Minus = sign true
mark_symbol marks.Arrow = arrow
mark_symbol marks.Backslash = infix_operator Difference
mark_symbol marks.Dollar = dollar

-- the bytes between the first and the last
abbrev pub between_quotes : List ℕ → List ℕ
between_quotes slice = take (length slice - 2) (drop 1 slice)

-- the symbol of a token of a kind with these bytes
abbrev pub symbol_of : Kind → List ℕ → Symbol
symbol_of kinds.Name slice = name slice
symbol_of (kinds.Word w) slice = word_symbol w
symbol_of kinds.LeftOut slice = left_out slice
symbol_of (kinds.Number n) slice = number n
symbol_of kinds.Text slice = text (between_quotes slice)
symbol_of (kinds.Mark m) slice = mark_symbol m

abbrev pub placed_symbol : ℕ → Lexed → Token → Placed
placed_symbol file lexed token = placed (symbol_of token.kind (slice_of lexed token)) (record { file = file; place = token.place })

-- the symbols of a text, which is the file with this number
abbrev pub symbols : ℕ → Lexed → List Placed
symbols file lexed = map (placed_symbol file lexed) lexed.tokens
