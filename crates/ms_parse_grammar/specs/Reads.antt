-- Which symbols an expression is read from (MONA Version 1.4 User Manual, Klarlund and Møller 2001, on syntax). The
-- grammar has one line for each form; `from` are the symbols from its first one on, and `behind` are those behind its
-- last one. Where places count, each place of the tree is that of the symbol which it names; where they do not, they
-- may be any.
use Rattle.std.specs.Prelude.{◌≡◌, Bool, true, false, List, [], ◌∷◌}
use Rattle.ms_list.specs.declared.at.At.{At}
use Rattle.ms_logic.specs.declared.mode.Rel.TheVariants.{Equal, Member}
use Rattle.ms_logic.specs.declared.source.Int.{Int}
use Rattle.ms_logic.specs.declared.source.Int.TheVariants.{Number, Constant}
use Rattle.ms_logic.specs.declared.source.PlacedInt.{PlacedInt}
use Rattle.ms_logic.specs.declared.source.Rename.{Rename}
use Rattle.ms_parse_grammar.specs.Symbol.{Symbol, name, number, text, prefix_operator, infix_operator, joining, sign, quantifier, let_word, word_true, word_false, dollar, word_empty, word_pconst, word_import, word_export, word_restrict, word_where, open_round, close_round, open_curly, close_curly, comma, colon, arrow, Placed, placed}
use Rattle.ms_parse_grammar.specs.Tree.{Atom, truth, falsity, whole, empty_set, named, numeral, pconst, imported, Relation, Bracket, Parentheses, Emptiness, Restriction, Export, Listing, Literal, Call}
use Rattle.ms_parse_grammar.specs.Tree.{Expression, atom, prefixed, binary, joined, shifted, enclosed, listed, quantified, let_in, Expressions, no_expressions, and_expression, Variables, no_variables, and_variable, Domain, unrestricted, restricted, Parts, no_parts, and_part}

-- the symbol of a number or of the name of a constant
abbrev pub int_symbol : Int → Symbol
int_symbol (Number n) = number n
int_symbol (Constant n) = name n

-- the place of the tree is that of the symbol, where places count
abbrev pub IsAt : Bool → At → At → Type 0
IsAt true at there = at ≡ there
IsAt false at there = Unit {0}

-- the first symbol is this one, and stands at this place
abbrev pub Starts : Bool → Symbol → At → List Placed → List Placed → Type 0
Starts exact s at from behind = (there : At) × (from ≡ placed s there ∷ behind) × IsAt exact at there

-- the first symbol is this one
abbrev pub Follows : Symbol → List Placed → List Placed → Type 0
Follows s from behind = (there : At) × (from ≡ placed s there ∷ behind)

-- a number, or the name of a constant
abbrev pub ReadsInt : Bool → PlacedInt → List Placed → List Placed → Type 0
ReadsInt exact n from behind = Starts exact (int_symbol n.value) n.at from behind

-- `, left -> right` for each pair
abbrev pub ReadsPairs : Bool → List Rename → List Placed → List Placed → Type 0
ReadsPairs exact [] from behind = from ≡ behind
ReadsPairs exact (pair ∷ pairs) from behind =
    (f1 f2 f3 f4 : List Placed) × Follows comma from f1 × Starts exact (name pair.left) pair.at f1 f2
    × Follows arrow f2 f3 × Starts exact (name pair.right) pair.at_right f3 f4 × ReadsPairs exact pairs f4 behind

abbrev pub ReadsAtom : Bool → Atom → At → List Placed → List Placed → Type 0
ReadsAtom exact truth at from behind = Starts exact word_true at from behind
ReadsAtom exact falsity at from behind = Starts exact word_false at from behind
ReadsAtom exact whole at from behind = Starts exact dollar at from behind
ReadsAtom exact empty_set at from behind = Starts exact word_empty at from behind
ReadsAtom exact (named n) at from behind = Starts exact (name n) at from behind
ReadsAtom exact (numeral n) at from behind = Starts exact (number n) at from behind
ReadsAtom exact (pconst n) at from behind =
    (f1 f2 f3 : List Placed) × (n.minus ≡ false) × Starts exact word_pconst at from f1 × Follows open_round f1 f2
    × ReadsInt exact n f2 f3 × Follows close_round f3 behind
ReadsAtom exact (imported file pairs) at from behind =
    (f1 f2 f3 f4 : List Placed) × Starts exact word_import at from f1 × Follows open_round f1 f2
    × Follows (text file) f2 f3 × ReadsPairs exact pairs f3 f4 × Follows close_round f4 behind

-- what stands before the expression in brackets, with the opening bracket
abbrev pub ReadsOpening : Bool → Bracket → At → List Placed → List Placed → Type 0
ReadsOpening exact Parentheses at from behind = Starts exact open_round at from behind
ReadsOpening exact Emptiness at from behind =
    (f1 : List Placed) × Starts exact word_empty at from f1 × Follows open_round f1 behind
ReadsOpening exact Restriction at from behind =
    (f1 : List Placed) × Starts exact word_restrict at from f1 × Follows open_round f1 behind
ReadsOpening exact (Export at_text file) at from behind =
    (f1 f2 f3 : List Placed) × Starts exact word_export at from f1 × Follows open_round f1 f2
    × Starts exact (text file) at_text f2 f3 × Follows comma f3 behind

-- what stands before a list in brackets, with the opening bracket
abbrev pub ReadsListOpening : Bool → Listing → At → List Placed → List Placed → Type 0
ReadsListOpening exact Literal at from behind = Starts exact open_curly at from behind
ReadsListOpening exact (Call p) at from behind =
    (f1 : List Placed) × Starts exact (name p) at from f1 × Follows open_round f1 behind

abbrev pub closing : Listing → Symbol
closing Literal = close_curly
closing (Call p) = close_round

-- the place of an expression is that of its first symbol
abbrev pub place : Expression → At
place (atom at a) = at
place (prefixed at op e) = at
place (binary at op l r) = at
place (joined at op es) = at
place (shifted at e n) = at
place (enclosed at b e) = at
place (listed at l es) = at
place (quantified at q o vs body) = at
place (let_in at o parts body) = at

-- the place of the first expression of a list
abbrev pub FirstIsAt : Bool → At → Expressions → Type 0
FirstIsAt exact at no_expressions = ⊥
FirstIsAt exact at (and_expression no_expressions e) = IsAt exact at (place e)
FirstIsAt exact at (and_expression (and_expression before d) e) = FirstIsAt exact at (and_expression before d)

abbrev mutual
  pub ReadsExpression : Bool → Expression → List Placed → List Placed → Type 0
  ReadsExpression exact (atom at a) from behind = ReadsAtom exact a at from behind
  ReadsExpression exact (prefixed at op e) from behind =
      (f1 : List Placed) × Starts exact (prefix_operator op) at from f1 × ReadsExpression exact e f1 behind
  ReadsExpression exact (binary at op l r) from behind =
      (f1 f2 : List Placed) × IsAt exact at (place l) × ReadsExpression exact l from f1 × Follows (infix_operator op) f1 f2
      × ReadsExpression exact r f2 behind
  ReadsExpression exact (joined at op es) from behind = FirstIsAt exact at es × ReadsSeparated exact (joining op) es from behind
  ReadsExpression exact (shifted at e n) from behind =
      (f1 f2 : List Placed) × IsAt exact at (place e) × ReadsExpression exact e from f1 × Follows (sign n.minus) f1 f2
      × ReadsInt exact n f2 behind
  ReadsExpression exact (enclosed at b e) from behind =
      (f1 f2 : List Placed) × ReadsOpening exact b at from f1 × ReadsExpression exact e f1 f2 × Follows close_round f2 behind
  ReadsExpression exact (listed at l es) from behind =
      (f1 f2 : List Placed) × ReadsListOpening exact l at from f1 × ReadsList exact es f1 f2 × Follows (closing l) f2 behind
  ReadsExpression exact (quantified at q o vs body) from behind =
      (f1 f2 f3 : List Placed) × Starts exact (quantifier q o) at from f1 × ReadsVariables exact vs f1 f2
      × Follows colon f2 f3 × ReadsExpression exact body f3 behind
  ReadsExpression exact (let_in at o parts body) from behind =
      (f1 f2 f3 : List Placed) × Starts exact (let_word o) at from f1 × ReadsParts exact parts f1 f2
      × Follows (infix_operator (Relation Member)) f2 f3 × ReadsExpression exact body f3 behind

  -- one or more expressions with a symbol between them
  pub ReadsSeparated : Bool → Symbol → Expressions → List Placed → List Placed → Type 0
  ReadsSeparated exact s no_expressions from behind = ⊥
  ReadsSeparated exact s (and_expression no_expressions e) from behind = ReadsExpression exact e from behind
  ReadsSeparated exact s (and_expression (and_expression before d) e) from behind =
      (f1 f2 : List Placed) × ReadsSeparated exact s (and_expression before d) from f1 × Follows s f1 f2 × ReadsExpression exact e f2 behind

  -- nothing, or expressions with commas between them
  pub ReadsList : Bool → Expressions → List Placed → List Placed → Type 0
  ReadsList exact no_expressions from behind = from ≡ behind
  ReadsList exact (and_expression no_expressions e) from behind = ReadsExpression exact e from behind
  ReadsList exact (and_expression (and_expression before d) e) from behind =
      (f1 f2 : List Placed) × ReadsList exact (and_expression before d) from f1 × Follows comma f1 f2 × ReadsExpression exact e f2 behind

  -- `where` and the restriction, or nothing
  pub ReadsDomain : Bool → Domain → List Placed → List Placed → Type 0
  ReadsDomain exact unrestricted from behind = from ≡ behind
  ReadsDomain exact (restricted d) from behind = (f1 : List Placed) × Follows word_where from f1 × ReadsExpression exact d f1 behind

  -- one or more variables with commas between them
  pub ReadsVariables : Bool → Variables → List Placed → List Placed → Type 0
  ReadsVariables exact no_variables from behind = ⊥
  ReadsVariables exact (and_variable no_variables at o n d) from behind =
      (f1 : List Placed) × Starts exact (name n) at from f1 × ReadsDomain exact d f1 behind
  ReadsVariables exact (and_variable (and_variable before at' o' n' d') at o n d) from behind =
      (f1 f2 f3 : List Placed) × ReadsVariables exact (and_variable before at' o' n' d') from f1 × Follows comma f1 f2
      × Starts exact (name n) at f2 f3 × ReadsDomain exact d f3 behind

  -- one or more names with their right sides and commas between them
  pub ReadsParts : Bool → Parts → List Placed → List Placed → Type 0
  ReadsParts exact no_parts from behind = ⊥
  ReadsParts exact (and_part no_parts at n value) from behind =
      (f1 f2 : List Placed) × Starts exact (name n) at from f1 × Follows (infix_operator (Relation Equal)) f1 f2 × ReadsExpression exact value f2 behind
  ReadsParts exact (and_part (and_part before at' n' value') at n value) from behind =
      (f1 f2 f3 f4 : List Placed) × ReadsParts exact (and_part before at' n' value') from f1 × Follows comma f1 f2
      × Starts exact (name n) at f2 f3 × Follows (infix_operator (Relation Equal)) f3 f4 × ReadsExpression exact value f4 behind
