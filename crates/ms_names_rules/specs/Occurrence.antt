-- The expressions inside an expression, each with the scope in which it stands, what stands before it, and the order
-- that its place wants. Scopes are lexical.
use Rattle.std.specs.Prelude.{ℕ, List, [], ◌∷◌, ◌++◌, slice_get}
use Rattle.ms_logic.specs.declared.mode.Order.{Order}
use Rattle.ms_parse_grammar.specs.declared.operator.Listing.TheVariants.{Literal, Call}
use Rattle.ms_parse_grammar.specs.Tree.{Expression, atom, prefixed, binary, joined, shifted, enclosed, listed, quantified, let_in, Expressions, no_expressions, and_expression, Variables, no_variables, and_variable, Domain, unrestricted, restricted, Parts, no_parts, and_part}
use Rattle.ms_names_rules.specs.declared.wanted.Wanted.{Wanted}
use Rattle.ms_names_rules.specs.declared.wanted.Wanted.TheVariants.{Exactly, NumberOrSet}
use Rattle.ms_names_rules.specs.Scope.{Scope, without_exports, meaning_of, under_bounds, under_parts, count, count_of_bounds, count_of_parts}
use Rattle.ms_names_rules.specs.Before.{Before, opened, with_names, after, after_all, after_bounds, after_parts}
use Rattle.ms_names_rules.specs.Order.{order_of, content_wanted, left_wanted, operand_wanted, right_wanted, parameters_of, wanted_by, formula_wanted, number_wanted}

pub record Occurrence : Type 0 where
  pub scope : Scope
  pub before : Before
  pub wanted : Wanted
  pub expression : Expression

abbrev pub standing : Scope → Before → Wanted → Expression → Occurrence
standing s b w e = record { scope = s; before = b; wanted = w; expression = e }

abbrev mutual
  -- all expressions inside an expression, in the order of the text, without itself
  pub inside : Scope → Before → Expression → List Occurrence
  inside s b (atom at a) = []
  inside s b (prefixed at op e) = standing s b (operand_wanted op) e ∷ inside s b e
  inside s b (binary at op e f) =
      (standing s b (left_wanted op) e ∷ inside s b e)
      ++ (standing s (after b e) (right_wanted op (order_of s e)) f ∷ inside s (after b e) f)
  inside s b (joined at op es) = inside_operands s b formula_wanted es
  inside s b (shifted at e i) = standing s b NumberOrSet e ∷ inside s b e
  inside s b (enclosed at k e) = standing s (opened b k) (content_wanted k) e ∷ inside s (opened b k) e
  inside s b (listed at Literal es) = inside_operands s b number_wanted es
  -- no export may stand in an argument
  inside s b (listed at (Call n) es) = inside_arguments (without_exports s) b (parameters_of (meaning_of s n)) es
  -- the body sees all variables of the list
  inside s b (quantified at q o vs e) =
      let here = with_names b (count_of_bounds vs) in
      inside_bounds s b.next here vs
      ++ (standing (under_bounds s b.next vs) (after_bounds here vs) formula_wanted e
      ∷ inside (under_bounds s b.next vs) (after_bounds here vs) e)
  -- the right sides are read outside; no export may stand in them or in the body
  inside s b (let_in at o ps e) =
      let here = with_names b (count_of_parts ps) in
      let in_body = under_parts (without_exports s) b.next o ps in
      inside_parts (without_exports s) here o ps
      ++ (standing in_body (after_parts here ps) formula_wanted e ∷ inside in_body (after_parts here ps) e)

  -- in operands of one wanted order
  pub inside_operands : Scope → Before → Wanted → Expressions → List Occurrence
  inside_operands s b w no_expressions = []
  inside_operands s b w (and_expression es e) =
      inside_operands s b w es ++ (standing s (after_all b es) w e ∷ inside s (after_all b es) e)

  -- in arguments, by the orders of the parameters
  pub inside_arguments : Scope → Before → List Order → Expressions → List Occurrence
  inside_arguments s b parameters no_expressions = []
  inside_arguments s b parameters (and_expression es e) =
      inside_arguments s b parameters es
      ++ (standing s (after_all b es) (wanted_by (slice_get parameters (count es))) e ∷ inside s (after_all b es) e)

  -- in the restrictions of a list of variables, whose numbers go on from x: each sees its own variable and those before it
  pub inside_bounds : Scope → ℕ → Before → Variables → List Occurrence
  inside_bounds s x b no_variables = []
  inside_bounds s x b (and_variable vs at o n d) =
      inside_bounds s x b vs
      ++ inside_domain (without_exports (under_bounds s x (and_variable vs at o n d))) (after_bounds b vs) d

  pub inside_domain : Scope → Before → Domain → List Occurrence
  inside_domain s b unrestricted = []
  inside_domain s b (restricted e) = standing s b formula_wanted e ∷ inside s b e

  -- in the right sides of a `let` of an order
  pub inside_parts : Scope → Before → Order → Parts → List Occurrence
  inside_parts s b o no_parts = []
  inside_parts s b o (and_part ps at n e) =
      inside_parts s b o ps ++ (standing s (after_parts b ps) (Exactly o) e ∷ inside s (after_parts b ps) e)

-- an expression with all that are inside it
abbrev pub occurrences : Scope → Before → Wanted → Expression → List Occurrence
occurrences s b w e = standing s b w e ∷ inside s b e
