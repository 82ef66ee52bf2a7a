-- Symbols and trees for worked examples.
use Rattle.std.specs.Prelude.{ℕ, suc, List, [], ◌∷◌, codes, None, zero}
use Rattle.ms_list.specs.declared.at.At.{At}
use Rattle.ms_logic.specs.declared.mode.Order.TheVariants.{One}
use Rattle.ms_logic.specs.declared.mode.Quant.TheVariants.{Ex}
use Rattle.ms_parse_grammar.specs.Symbol.{Symbol, name, Placed, placed, open_round, close_round, semicolon}
use Rattle.ms_parse_grammar.specs.declared.operator.Bracket.TheVariants.{Parentheses}
use Rattle.ms_parse_grammar.specs.Tree.{named, Expression, atom, quantified, Expressions, no_expressions, and_expression, no_variables, and_variable, unrestricted, Declaration, formula, Document, enclosed}

-- a place in file 0
abbrev pub at : ℕ → At
at n = record { file = 0; place = n }

-- the symbols, each of which stands at the place of its number in the row
abbrev pub row_from : ℕ → List Symbol → List Placed
row_from n [] = []
row_from n (s ∷ more) = placed s (at n) ∷ row_from (suc n) more

abbrev pub row : List Symbol → List Placed
row all = row_from 0 all

-- names as symbols

abbrev pub a : Symbol
a = name (codes "a")

abbrev pub b : Symbol
b = name (codes "b")

abbrev pub c : Symbol
c = name (codes "c")

abbrev pub x : Symbol
x = name (codes "x")

abbrev pub y : Symbol
y = name (codes "y")

abbrev pub P : Symbol
P = name (codes "P")

abbrev pub p : Symbol
p = name (codes "p")

abbrev pub goal_name : Symbol
goal_name = name (codes "goal")

-- names as expressions, at their places

abbrev pub a_at : ℕ → Expression
a_at n = atom (at n) (named (codes "a"))

abbrev pub b_at : ℕ → Expression
b_at n = atom (at n) (named (codes "b"))

abbrev pub c_at : ℕ → Expression
c_at n = atom (at n) (named (codes "c"))

abbrev pub x_at : ℕ → Expression
x_at n = atom (at n) (named (codes "x"))

abbrev pub y_at : ℕ → Expression
y_at n = atom (at n) (named (codes "y"))

abbrev pub P_at : ℕ → Expression
P_at n = atom (at n) (named (codes "P"))

abbrev pub goal_at : ℕ → Expression
goal_at n = atom (at n) (named (codes "goal"))

abbrev pub one : Expression → Expressions
one e = and_expression no_expressions e

abbrev pub two : Expression → Expression → Expressions
two d e = and_expression (one d) e

abbrev pub three : Expression → Expression → Expression → Expressions
three d e f = and_expression (two d e) f

-- `ex1 x: body`, where `ex1` stands at a place
abbrev pub ex1_x : ℕ → Expression → Expression
ex1_x n body = quantified (at n) Ex One (and_variable no_variables (at (suc n)) One (codes "x") unrestricted) body

-- a document of one declaration, at place 0
abbrev pub only : Declaration → Document
only d = record { header = None; declarations = record { at = at 0; declaration = d } ∷ [] }

-- a document of one formula, at place 0
abbrev pub says : Expression → Document
says e = only (formula e)

-- the symbols so many times
abbrev pub repeated : ℕ → Symbol → List Symbol → List Symbol
repeated zero s more = more
repeated (suc n) s more = s ∷ repeated n s more

-- `a;` in so many brackets
abbrev pub bracketed : ℕ → List Symbol
bracketed n = repeated n open_round (a ∷ repeated n close_round (semicolon ∷ []))

-- so many brackets from a place on, around the name `a`
abbrev pub brackets : ℕ → ℕ → Expression
brackets zero n = a_at n
brackets (suc k) n = enclosed (at n) Parentheses (brackets k (suc n))
