-- How a tree is printed: its symbols in order, and the bytes of each with a blank or a line feed behind them. What a
-- printed text has to be is said by the grammar alone; this says which of the possible texts it is.
use Rattle.std.specs.Prelude.{ℕ, zero, suc, ◌<◌, ◌^◌, true, false, cond, List, [], ◌∷◌, ◌++◌, codes, Option, Some, None, IsTrue, IsUtf8}
use Rattle.std.specs.Fmt.{decimal}
use Rattle.std.specs.List.{list_all, flat_map}
use Rattle.ms_list.specs.declared.at.At.{At}
use Rattle.ms_text.specs.declared.keyword.Keyword.TheVariants as words
use Rattle.ms_text.specs.declared.mark.Mark.TheVariants as marks
use Rattle.ms_text.specs.declared.token.Kind.{Kind}
use Rattle.ms_text.specs.declared.token.Kind.TheVariants as kinds
use Rattle.ms_text.specs.Spelling.{is_text_byte, quoted, word_spelling, mark_spelling, Spells, IsLeftOut}
use Rattle.ms_logic.specs.declared.mode.Mode.{Mode}
use Rattle.ms_logic.specs.declared.mode.Mode.TheVariants.{Ws1s, M2lStr}
use Rattle.ms_logic.specs.declared.mode.Order.{Order}
use Rattle.ms_logic.specs.declared.mode.Order.TheVariants.{Zero, One, Two}
use Rattle.ms_logic.specs.declared.mode.Quant.TheVariants.{Ex, All}
use Rattle.ms_logic.specs.declared.mode.Rel.TheVariants.{Equal, Differs, Less, AtMost, Greater, AtLeast, Member, NotMember, Sub}
use Rattle.ms_logic.specs.declared.source.PlacedInt.{PlacedInt}
use Rattle.ms_logic.specs.declared.source.Rename.{Rename}
use Rattle.ms_parse_grammar.specs.Symbol.{Symbol, name, number, text, left_out, prefix_operator, infix_operator, joining, sign, quantifier, let_word, kind, predicate_word, default_word, word_true, word_false, dollar, word_empty, word_pconst, word_import, word_export, word_restrict, word_where, word_const, word_include, word_ws1s, open_round, close_round, open_curly, close_curly, comma, colon, semicolon, arrow}
use Rattle.ms_parse_grammar.specs.declared.operator.Prefix.TheVariants.{Negation, Minimum, Maximum}
use Rattle.ms_parse_grammar.specs.declared.operator.Binary.TheVariants.{Implication, Equivalence, Relation, Union, Intersection, Difference}
use Rattle.ms_parse_grammar.specs.declared.operator.Junction.TheVariants.{Conjunction, Disjunction}
use Rattle.ms_parse_grammar.specs.declared.operator.Bracket.{Bracket}
use Rattle.ms_parse_grammar.specs.declared.operator.Bracket.TheVariants.{Parentheses, Emptiness, Restriction, Export}
use Rattle.ms_parse_grammar.specs.declared.operator.Listing.{Listing}
use Rattle.ms_parse_grammar.specs.declared.operator.Listing.TheVariants.{Literal, Call}
use Rattle.ms_parse_grammar.specs.Tree.{Atom, truth, falsity, whole, empty_set, named, numeral, pconst, imported}
use Rattle.ms_parse_grammar.specs.Tree.{Expression, atom, prefixed, binary, joined, shifted, enclosed, listed, quantified, let_in, Expressions, no_expressions, and_expression, Variables, no_variables, and_variable, Domain, unrestricted, restricted, Parts, no_parts, and_part}
use Rattle.ms_parse_grammar.specs.Tree.{Declaration, variables, constant, predicate, included, default_restriction, formula, goal, Declared, Document}
use Rattle.ms_parse_grammar.specs.Reads.{int_symbol, closing}

-- the kind of the token that is written for a symbol
abbrev pub kind_of : Symbol → Kind
kind_of (name n) = kinds.Name
kind_of (number n) = kinds.Number n
kind_of (text content) = kinds.Text
kind_of (left_out bytes) = kinds.LeftOut
kind_of (prefix_operator Negation) = kinds.Mark marks.Not
kind_of (prefix_operator Minimum) = kinds.Word words.Min
kind_of (prefix_operator Maximum) = kinds.Word words.Max
kind_of (infix_operator Implication) = kinds.Mark marks.Implication
kind_of (infix_operator Equivalence) = kinds.Mark marks.Equivalence
kind_of (infix_operator (Relation Equal)) = kinds.Mark marks.Equal
kind_of (infix_operator (Relation Differs)) = kinds.Mark marks.NotEqual
kind_of (infix_operator (Relation Less)) = kinds.Mark marks.Less
kind_of (infix_operator (Relation AtMost)) = kinds.Mark marks.LessEqual
kind_of (infix_operator (Relation Greater)) = kinds.Mark marks.Greater
kind_of (infix_operator (Relation AtLeast)) = kinds.Mark marks.GreaterEqual
kind_of (infix_operator (Relation Member)) = kinds.Word words.In
kind_of (infix_operator (Relation NotMember)) = kinds.Word words.NotIn
kind_of (infix_operator (Relation Sub)) = kinds.Word words.Sub
kind_of (infix_operator Union) = kinds.Word words.Union
kind_of (infix_operator Intersection) = kinds.Word words.Inter
kind_of (infix_operator Difference) = kinds.Mark marks.Backslash
kind_of (joining Conjunction) = kinds.Mark marks.And
kind_of (joining Disjunction) = kinds.Mark marks.Or
kind_of (sign false) = kinds.Mark marks.Plus
kind_of (sign true) = kinds.Mark marks.Minus
kind_of (quantifier Ex Zero) = kinds.Word words.Ex0
kind_of (quantifier Ex One) = kinds.Word words.Ex1
kind_of (quantifier Ex Two) = kinds.Word words.Ex2
kind_of (quantifier All Zero) = kinds.Word words.All0
kind_of (quantifier All One) = kinds.Word words.All1
kind_of (quantifier All Two) = kinds.Word words.All2
kind_of (let_word Zero) = kinds.Word words.Let0
kind_of (let_word One) = kinds.Word words.Let1
kind_of (let_word Two) = kinds.Word words.Let2
kind_of (kind Zero) = kinds.Word words.Var0
kind_of (kind One) = kinds.Word words.Var1
kind_of (kind Two) = kinds.Word words.Var2
kind_of (predicate_word true) = kinds.Word words.Pred
kind_of (predicate_word false) = kinds.Word words.Macro
kind_of (default_word Zero) = kinds.LeftOut
kind_of (default_word One) = kinds.Word words.DefaultWhere1
kind_of (default_word Two) = kinds.Word words.DefaultWhere2
kind_of word_true = kinds.Word words.True
kind_of word_false = kinds.Word words.False
kind_of dollar = kinds.Mark marks.Dollar
kind_of word_empty = kinds.Word words.Empty
kind_of word_pconst = kinds.Word words.PConst
kind_of word_import = kinds.Word words.Import
kind_of word_export = kinds.Word words.Export
kind_of word_restrict = kinds.Word words.Restrict
kind_of word_where = kinds.Word words.Where
kind_of word_const = kinds.Word words.Const
kind_of word_include = kinds.Word words.Include
kind_of word_ws1s = kinds.Word words.Ws1s
kind_of open_round = kinds.Mark marks.OpenParenthesis
kind_of close_round = kinds.Mark marks.CloseParenthesis
kind_of open_curly = kinds.Mark marks.OpenBrace
kind_of close_curly = kinds.Mark marks.CloseBrace
kind_of comma = kinds.Mark marks.Comma
kind_of colon = kinds.Mark marks.Colon
kind_of semicolon = kinds.Mark marks.Semicolon
kind_of arrow = kinds.Mark marks.Arrow

-- the bytes of a symbol whose token is of this kind
abbrev pub spelling_by : Kind → Symbol → List ℕ
spelling_by (kinds.Word word) s = word_spelling word
spelling_by (kinds.Mark mark) s = mark_spelling mark
spelling_by kinds.Name (name n) = n
spelling_by kinds.Text (text content) = quoted content
spelling_by (kinds.Number n) s = decimal n
spelling_by kinds.LeftOut (left_out bytes) = bytes
spelling_by _ s = []

-- the bytes of a symbol
abbrev pub spelling : Symbol → List ℕ
spelling s = spelling_by (kind_of s) s

-- a line feed behind a semicolon, and a blank behind any other token
abbrev pub blank_behind : Symbol → ℕ
blank_behind semicolon = 10
blank_behind _ = 32

-- what is written for a symbol
abbrev pub spelled : Symbol → List ℕ
spelled s = spelling s ++ blank_behind s ∷ []

-- a token can say the symbol: a name that is no word, a number below 2^64, UTF-8 without a quote and a line feed, a word
-- that is left out
abbrev pub IsSpellable : Symbol → Type 0
IsSpellable (name n) = Spells kinds.Name n
IsSpellable (number n) = n < 2 ^ 64
IsSpellable (text content) = IsTrue (list_all is_text_byte content) × IsUtf8 content
IsSpellable (left_out bytes) = IsLeftOut bytes
IsSpellable (default_word Zero) = ⊥
IsSpellable _ = Unit {0}

abbrev pub AreSpellable : List Symbol → Type 0
AreSpellable [] = Unit {0}
AreSpellable (s ∷ ss) = IsSpellable s × AreSpellable ss

-- a number or a constant that stands where no sign can; one with a minus has no symbol there
abbrev pub unsigned : PlacedInt → Symbol
unsigned n = cond n.minus (left_out []) (int_symbol n.value)

-- The symbols of a tree in order, each as `f` writes it.

-- what stands between the entries of a list, before the entry at this place
abbrev pub separated : {A : Type 0} → (Symbol → List A) → Symbol → ℕ → List A
separated f s zero = []
separated f s (suc place) = f s

abbrev pub printed_pair : {A : Type 0} → (Symbol → List A) → Rename → List A
printed_pair f pair = f comma ++ f (name pair.left) ++ f arrow ++ f (name pair.right)

abbrev pub printed_atom : {A : Type 0} → (Symbol → List A) → Atom → List A
printed_atom f truth = f word_true
printed_atom f falsity = f word_false
printed_atom f whole = f dollar
printed_atom f empty_set = f word_empty
printed_atom f (named n) = f (name n)
printed_atom f (numeral n) = f (number n)
printed_atom f (pconst n) = f word_pconst ++ f open_round ++ f (unsigned n) ++ f close_round
printed_atom f (imported file pairs) = f word_import ++ f open_round ++ f (text file) ++ flat_map (printed_pair f) pairs ++ f close_round

abbrev pub printed_opening : {A : Type 0} → (Symbol → List A) → Bracket → List A
printed_opening f Parentheses = f open_round
printed_opening f Emptiness = f word_empty ++ f open_round
printed_opening f Restriction = f word_restrict ++ f open_round
printed_opening f (Export at file) = f word_export ++ f open_round ++ f (text file) ++ f comma

abbrev pub printed_list_opening : {A : Type 0} → (Symbol → List A) → Listing → List A
printed_list_opening f Literal = f open_curly
printed_list_opening f (Call p) = f (name p) ++ f open_round

abbrev mutual
  pub printed : {A : Type 0} → (Symbol → List A) → Expression → List A
  printed f (atom at a) = printed_atom f a
  printed f (prefixed at op e) = f (prefix_operator op) ++ printed f e
  printed f (binary at op l r) = printed f l ++ f (infix_operator op) ++ printed f r
  printed f (joined at op es) = printed_all f (joining op) es
  printed f (shifted at e n) = printed f e ++ (f (sign n.minus) ++ f (int_symbol n.value))
  printed f (enclosed at b e) = printed_opening f b ++ printed f e ++ f close_round
  printed f (listed at l es) = printed_list_opening f l ++ printed_all f comma es ++ f (closing l)
  printed f (quantified at q o vs body) = f (quantifier q o) ++ printed_variables f vs ++ f colon ++ printed f body
  printed f (let_in at o parts body) = f (let_word o) ++ printed_parts f parts ++ f (infix_operator (Relation Member)) ++ printed f body

  -- expressions with a symbol between them
  pub printed_all : {A : Type 0} → (Symbol → List A) → Symbol → Expressions → List A
  printed_all f s no_expressions = []
  printed_all f s (and_expression no_expressions e) = printed f e
  printed_all f s (and_expression (and_expression before d) e) = printed_all f s (and_expression before d) ++ f s ++ printed f e

  pub printed_domain : {A : Type 0} → (Symbol → List A) → Domain → List A
  printed_domain f unrestricted = []
  printed_domain f (restricted d) = f word_where ++ printed f d

  pub printed_variables : {A : Type 0} → (Symbol → List A) → Variables → List A
  printed_variables f no_variables = []
  printed_variables f (and_variable no_variables at o n d) = f (name n) ++ printed_domain f d
  printed_variables f (and_variable (and_variable before at' o' n' d') at o n d) =
      printed_variables f (and_variable before at' o' n' d') ++ f comma ++ (f (name n) ++ printed_domain f d)

  pub printed_parts : {A : Type 0} → (Symbol → List A) → Parts → List A
  printed_parts f no_parts = []
  printed_parts f (and_part no_parts at n value) = f (name n) ++ f (infix_operator (Relation Equal)) ++ printed f value
  printed_parts f (and_part (and_part before at' n' value') at n value) =
      printed_parts f (and_part before at' n' value') ++ f comma ++ (f (name n) ++ f (infix_operator (Relation Equal)) ++ printed f value)

-- the order of the first variable
abbrev pub first_order : Variables → Order
first_order no_variables = Zero
first_order (and_variable no_variables at o n d) = o
first_order (and_variable (and_variable before at' o' n' d') at o n d) = first_order (and_variable before at' o' n' d')

-- each parameter with its kind
abbrev pub printed_parameters : {A : Type 0} → (Symbol → List A) → Variables → List A
printed_parameters f no_variables = []
printed_parameters f (and_variable no_variables at o n d) = f (kind o) ++ (f (name n) ++ printed_domain f d)
printed_parameters f (and_variable (and_variable before at' o' n' d') at o n d) =
    printed_parameters f (and_variable before at' o' n' d') ++ f comma ++ (f (kind o) ++ (f (name n) ++ printed_domain f d))

-- no brackets where there are no parameters
abbrev pub printed_parameter_list : {A : Type 0} → (Symbol → List A) → Variables → List A
printed_parameter_list f no_variables = []
printed_parameter_list f (and_variable before at o n d) = f open_round ++ printed_parameters f (and_variable before at o n d) ++ f close_round

-- `+ n` or `- n`
abbrev pub printed_shift : {A : Type 0} → (Symbol → List A) → PlacedInt → List A
printed_shift f n = f (sign n.minus) ++ f (int_symbol n.value)

abbrev pub printed_sum : {A : Type 0} → (Symbol → List A) → List PlacedInt → List A
printed_sum f [] = []
printed_sum f (n ∷ ns) = f (unsigned n) ++ flat_map (printed_shift f) ns

abbrev pub printed_declaration : {A : Type 0} → (Symbol → List A) → Declaration → List A
printed_declaration f (variables vs) = f (kind (first_order vs)) ++ printed_variables f vs
printed_declaration f (constant at n sum) = f word_const ++ f (name n) ++ f (infix_operator (Relation Equal)) ++ printed_sum f sum
printed_declaration f (predicate is_pred at n parameters body) =
    f (predicate_word is_pred) ++ f (name n) ++ printed_parameter_list f parameters ++ f (infix_operator (Relation Equal)) ++ printed f body
printed_declaration f (included at file) = f word_include ++ f (text file)
printed_declaration f (default_restriction o n body) =
    f (default_word o) ++ f open_round ++ f (name n) ++ f close_round ++ f (infix_operator (Relation Equal)) ++ printed f body
printed_declaration f (formula e) = printed f e
printed_declaration f (goal at title e) = f (name (codes "goal")) ++ f (text title) ++ printed f e

abbrev pub printed_declared : {A : Type 0} → (Symbol → List A) → Declared → List A
printed_declared f d = printed_declaration f d.declaration ++ f semicolon

abbrev pub printed_header : {A : Type 0} → (Symbol → List A) → Option (At × Mode) → List A
printed_header f None = []
printed_header f (Some (at, Ws1s)) = f word_ws1s ++ f semicolon
printed_header f (Some (at, M2lStr)) = f (name (codes "m2l")) ++ f (sign true) ++ f (name (codes "str")) ++ f semicolon

abbrev pub printed_document : {A : Type 0} → (Symbol → List A) → Document → List A
printed_document f d = printed_header f d.header ++ flat_map (printed_declared f) d.declarations

-- one symbol by itself
abbrev pub single : Symbol → List Symbol
single s = s ∷ []

-- the symbols that are written for a document, and their bytes
abbrev pub symbols_of : Document → List Symbol
symbols_of d = printed_document single d

abbrev pub text_of : Document → List ℕ
text_of d = printed_document spelled d
