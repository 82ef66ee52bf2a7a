-- The mathematical tree that a tree of the code stands for.
use Rattle.std.specs.Prelude.{ℕ, List, [], ◌∷◌, map, Option, Some, None}
use Rattle.ms_list.specs.declared.at.At.{At}
use Rattle.ms_logic.specs.declared.mode.Order.{Order}
use Rattle.ms_logic.specs.declared.source.Bound.{Bound}
use Rattle.ms_logic.specs.declared.source.Decl.{Decl}
use Rattle.ms_logic.specs.declared.source.Decl.TheVariants as decls
use Rattle.ms_logic.specs.declared.source.Item.{Item}
use Rattle.ms_logic.specs.declared.source.LetPart.{LetPart}
use Rattle.ms_logic.specs.declared.source.Source.{Source}
use Rattle.ms_logic.specs.declared.source.Expr.{Expr}
use Rattle.ms_logic.specs.declared.source.Form.{Form}
use Rattle.ms_logic.specs.declared.source.Form.TheOpen.{Bound-F, LetPart-F, Expr-F, Form-F}
use Rattle.ms_logic.specs.declared.source.Form.TheFolds.{fold-Bound, fold-LetPart, fold-Expr, fold-Form}
use Rattle.ms_parse_grammar.specs.Tree.{truth, falsity, whole, empty_set, named, numeral, pconst, imported, Negation, Minimum, Maximum, Implication, Equivalence, Relation, Union, Intersection, Difference, Conjunction, Disjunction, Parentheses, Emptiness, Restriction, Export, Literal, Call}
use Rattle.ms_parse_grammar.specs.Tree.{Expression, atom, prefixed, binary, joined, shifted, enclosed, listed, quantified, let_in, Expressions, no_expressions, and_expression, Variables, no_variables, and_variable, Domain, unrestricted, restricted, Parts, no_parts, and_part}
use Rattle.ms_parse_grammar.specs.Tree.{Declaration, variables, constant, predicate, included, default_restriction, formula, goal, Declared, Document}

-- a variable with its restriction, and a name of a `let` with its right side, as the lists take them
pub record Variable : Type 0 where
  pub at : At
  pub order : Order
  pub name : List ℕ
  pub domain : Domain

pub record Part : Type 0 where
  pub at : At
  pub name : List ℕ
  pub value : Expression

-- entries behind those before, in order
abbrev pub expressions_behind : Expressions → List Expression → Expressions
expressions_behind before [] = before
expressions_behind before (e ∷ es) = expressions_behind (and_expression before e) es

abbrev pub variables_behind : Variables → List Variable → Variables
variables_behind before [] = before
variables_behind before (v ∷ vs) = variables_behind (and_variable before v.at v.order v.name v.domain) vs

abbrev pub parts_behind : Parts → List Part → Parts
parts_behind before [] = before
parts_behind before (p ∷ ps) = parts_behind (and_part before p.at p.name p.value) ps

abbrev pub domain : Option Expression → Domain
domain None = unrestricted
domain (Some e) = restricted e

-- one level of a tree: a form becomes an expression at the place of its first token
abbrev pub form_at : Form-F (At → Expression) Variable Expression Part → At → Expression
form_at Form-F.True at = atom at truth
form_at Form-F.False at = atom at falsity
form_at Form-F.Whole at = atom at whole
form_at Form-F.EmptySet at = atom at empty_set
form_at (Form-F.Name n) at = atom at (named n)
form_at (Form-F.Number n) at = atom at (numeral n)
form_at (Form-F.Pconst n) at = atom at (pconst n)
form_at (Form-F.Paren e) at = enclosed at Parentheses e
form_at (Form-F.Literal es) at = listed at Literal (expressions_behind no_expressions es)
form_at (Form-F.Call p es) at = listed at (Call p) (expressions_behind no_expressions es)
form_at (Form-F.Not e) at = prefixed at Negation e
form_at (Form-F.And es) at = joined at Conjunction (expressions_behind no_expressions es)
form_at (Form-F.Or es) at = joined at Disjunction (expressions_behind no_expressions es)
form_at (Form-F.Implies l r) at = binary at Implication l r
form_at (Form-F.Iff l r) at = binary at Equivalence l r
form_at (Form-F.Relation r s t) at = binary at (Relation r) s t
form_at (Form-F.IsEmpty e) at = enclosed at Emptiness e
form_at (Form-F.Union l r) at = binary at Union l r
form_at (Form-F.Inter l r) at = binary at Intersection l r
form_at (Form-F.Minus l r) at = binary at Difference l r
form_at (Form-F.Shift e n) at = shifted at e n
form_at (Form-F.Min e) at = prefixed at Minimum e
form_at (Form-F.Max e) at = prefixed at Maximum e
form_at (Form-F.Bind q o vs e) at = quantified at q o (variables_behind no_variables vs) e
form_at (Form-F.Let o ps e) at = let_in at o (parts_behind no_parts ps) e
form_at (Form-F.Restrict e) at = enclosed at Restriction e
form_at (Form-F.Import file pairs) at = atom at (imported file pairs)
form_at (Form-F.Export at_text file e) at = enclosed at (Export at_text file) e

abbrev pub variable_at : Bound-F (At → Expression) Variable Expression Part → Variable
variable_at b = record { at = b.at; order = b.order; name = b.name; domain = domain b.domain }

abbrev pub part_at : LetPart-F (At → Expression) Variable Expression Part → Part
part_at p = record { at = p.at; name = p.name; value = p.value }

abbrev pub expression_at : Expr-F (At → Expression) Variable Expression Part → Expression
expression_at e = e.form e.at

abbrev pub expression_of : Expr → Expression
expression_of e = fold-Expr (At → Expression) Variable Expression Part form_at variable_at expression_at part_at e

abbrev pub variable_of : Bound → Variable
variable_of b = fold-Bound (At → Expression) Variable Expression Part form_at variable_at expression_at part_at b

abbrev pub part_of : LetPart → Part
part_of p = fold-LetPart (At → Expression) Variable Expression Part form_at variable_at expression_at part_at p

abbrev pub form_of : Form → At → Expression
form_of f = fold-Form (At → Expression) Variable Expression Part form_at variable_at expression_at part_at f

abbrev pub domain_of : Option Expr → Domain
domain_of None = unrestricted
domain_of (Some e) = restricted (expression_of e)

abbrev pub expressions_of : List Expr → Expressions
expressions_of es = expressions_behind no_expressions (map expression_of es)

abbrev pub parts_of : List LetPart → Parts
parts_of parts = parts_behind no_parts (map part_of parts)

abbrev pub variables_of : List Bound → Variables
variables_of bounds = variables_behind no_variables (map variable_of bounds)

abbrev pub declaration_of : Decl → Declaration
declaration_of (decls.Vars bounds) = variables (variables_of bounds)
declaration_of (decls.Const at n sum) = constant at n sum
declaration_of (decls.Pred is_pred at n bounds body) = predicate is_pred at n (variables_of bounds) (expression_of body)
declaration_of (decls.Include at file) = included at file
declaration_of (decls.Default o n body) = default_restriction o n (expression_of body)
declaration_of (decls.Formula e) = formula (expression_of e)
declaration_of (decls.Goal at title e) = goal at title (expression_of e)

abbrev pub declared_of : Item → Declared
declared_of item = record { at = item.at; declaration = declaration_of item.decl }

-- the document that a source of the code stands for
abbrev pub document_of : Source → Document
document_of source = record { header = source.header; declarations = map declared_of source.items }
