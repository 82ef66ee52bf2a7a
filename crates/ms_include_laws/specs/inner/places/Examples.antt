-- Small sources, whose places are in the file with the number 0 or in that with the number 1.
use Rattle.std.specs.Prelude.{ℕ, true, false, None, List, [], ◌∷◌, codes}
use Rattle.ms_list.specs.declared.at.At.{At}
use Rattle.ms_logic.specs.declared.checked.Checked.{Checked}
use Rattle.ms_logic.specs.declared.formula.Formula.TheVariants as checked_form
use Rattle.ms_logic.specs.declared.mode.Mode.TheVariants.{Ws1s}
use Rattle.ms_logic.specs.declared.mode.Order.TheVariants.{One, Two}
use Rattle.ms_logic.specs.declared.mode.Quant.TheVariants.{Ex}
use Rattle.ms_logic.specs.declared.source.Bound.{roll-Bound}
use Rattle.ms_logic.specs.declared.source.Decl.TheVariants.{Const, Default, Formula, Goal, Include, Pred, Vars}
use Rattle.ms_logic.specs.declared.source.Form.TheVariants as form
use Rattle.ms_logic.specs.declared.source.Int.TheVariants.{Number}
use Rattle.ms_logic.specs.declared.source.Item.{Item}
use Rattle.ms_logic.specs.declared.source.Loaded.{Loaded}
use Rattle.ms_logic.specs.declared.source.PlacedInt.{PlacedInt}
use Rattle.ms_parse_grammar.specs.Tree.{named, pconst, imported, Expression, atom, prefixed, binary, joined, shifted, enclosed, listed, quantified, let_in, no_expressions, and_expression, no_variables, and_variable, restricted, no_parts, and_part}
use Rattle.ms_parse_grammar.specs.declared.operator.Prefix.TheVariants.{Negation}
use Rattle.ms_parse_grammar.specs.declared.operator.Binary.TheVariants.{Implication}
use Rattle.ms_parse_grammar.specs.declared.operator.Junction.TheVariants.{Conjunction}
use Rattle.ms_parse_grammar.specs.declared.operator.Bracket.TheVariants.{Export}
use Rattle.ms_parse_grammar.specs.declared.operator.Listing.TheVariants.{Call}
use Rattle.ms_include_laws.specs.inner.places.Places.{EachPlaceIn, IsAmongFiles}

-- a place in the file with this number
abbrev pub at : ℕ → At
at file = record { file = file; place = 0 }

-- a number at a place
abbrev pub one_at : At → PlacedInt
one_at place = record { at = place; value = Number 1; minus = false }

-- `true;` with the place of the declaration and that of the formula
abbrev pub truth_at : At → At → Item
truth_at place inside = record { at = place; decl = Formula (record { at = inside; form = form.True }) }

-- `const n = 1;` with the places of the declaration, of the name and of the number
abbrev pub constant_at : At → At → At → Item
constant_at place name_at number_at = record { at = place; decl = Const name_at (codes "n") (one_at number_at ∷ []) }

-- `include "b";` with the places of the declaration and of the text
abbrev pub include_at : At → At → Item
include_at place text_at = record { at = place; decl = Include text_at (codes "b") }

-- `var1 x;` with the places of the declaration and of the name
abbrev pub global_at : At → At → Item
global_at place name_at = record { at = place; decl = Vars (roll-Bound (record { at = name_at; order = One; name = codes "x"; domain = None }) ∷ []) }

-- `pred p = true;` with the places of the declaration, of the name and of the body
abbrev pub predicate_at : At → At → At → Item
predicate_at place name_at body_at = record { at = place; decl = Pred true name_at (codes "p") [] (record { at = body_at; form = form.True }) }

-- `defaultwhere1(x) = true;` with the places of the declaration and of the body
abbrev pub default_at : At → At → Item
default_at place body_at = record { at = place; decl = Default One (codes "x") (record { at = body_at; form = form.True }) }

-- `goal "a" true;` with the places of the declaration, of the title and of the formula
abbrev pub goal_at : At → At → At → Item
goal_at place title_at inside = record { at = place; decl = Goal title_at (codes "a") (record { at = inside; form = form.True }) }

-- these declarations, loaded from one file
abbrev pub source : List Item → Loaded
source items = record { mode = Ws1s; items = items; files = codes "a" ∷ [] }

-- a checked source of one file with one formula, which is declared at this place
abbrev pub holds_at : At → Checked
holds_at place = record {
  mode = Ws1s;
  globals = [];
  predicates = [];
  imports = [];
  exports = [];
  formulas = record { at = place; item = 0; title = None; formula = checked_form.True } ∷ [];
  files = codes "a" ∷ [];
}

-- all places in the expression are in the one file with the number 0
abbrev pub IsInside : Expression → Type 0
IsInside e = EachPlaceIn (IsAmongFiles 0 1) e

-- p & ~q
abbrev pub joined_at : At → At → At → Expression
joined_at first second third = joined first Conjunction (and_expression (and_expression no_expressions (atom first (named (codes "p")))) (prefixed second Negation (atom third (named (codes "q")))))

-- p => q
abbrev pub implied_at : At → At → At → Expression
implied_at first left_at right_at = binary first Implication (atom left_at (named (codes "p"))) (atom right_at (named (codes "q")))

-- t + 1
abbrev pub shift_at : At → At → Expression
shift_at first number_at = shifted first (atom first (named (codes "t"))) (one_at number_at)

-- pconst(1)
abbrev pub pconst_at : At → At → Expression
pconst_at first number_at = atom first (pconst (one_at number_at))

-- f(t)
abbrev pub call_at : At → At → Expression
call_at first argument_at = listed first (Call (codes "f")) (and_expression no_expressions (atom argument_at (named (codes "t"))))

-- ex1 x where p: q
abbrev pub quantified_at : At → At → At → At → Expression
quantified_at first name_at restriction_at body_at =
    quantified first Ex One (and_variable no_variables name_at One (codes "x") (restricted (atom restriction_at (named (codes "p"))))) (atom body_at (named (codes "q")))

-- let2 X = Y in q
abbrev pub let_at : At → At → At → At → Expression
let_at first name_at side_at body_at = let_in first Two (and_part no_parts name_at (codes "X") (atom side_at (named (codes "Y")))) (atom body_at (named (codes "q")))

-- import("a", X -> Y)
abbrev pub import_at : At → At → At → Expression
import_at first left_at right_at = atom first (imported (codes "a") (record { at = left_at; left = codes "X"; at_right = right_at; right = codes "Y" } ∷ []))

-- export("a", q)
abbrev pub export_at : At → At → At → Expression
export_at first text_at body_at = enclosed first (Export text_at (codes "a")) (atom body_at (named (codes "q")))
