-- The roots of a source with the numbers of the answer.
use Rattle.std.specs.List.{range_with_len}
use Rattle.std.specs.Prelude.{ℕ, ◌+◌, ◌==◌, max, min, if◌then◌else◌, List, [], ◌∷◌, ◌++◌, map, slice_get, Option, Some, None}
use Rattle.ms_logic.specs.declared.checked.Checked.{Checked}
use Rattle.ms_logic.specs.declared.checked.ExportUse.{ExportUse}
use Rattle.ms_logic.specs.declared.checked.Global.{Global}
use Rattle.ms_logic.specs.declared.checked.Placed.{Placed}
use Rattle.ms_logic_core.specs.declared.core_formula.Root as code
use Rattle.ms_logic.specs.declared.mode.Order.{Order}
use Rattle.ms_logic.specs.declared.mode.Order.TheVariants.{Zero}
use Rattle.ms_logic.specs.Assignment.{Variable}
use Rattle.ms_logic_core.specs.CoreForm.{CoreForm, core_form_of}
use Rattle.ms_logic_core.specs.Roots.{Root, first_free}
use Rattle.ms_logic_core.specs.Spread.{conjunction_of, own_names, restrictions_of, spread_each, spread_under}
use Rattle.ms_logic.specs.Tree.{Form, truth, falsity, truth_variable, negation, conjunction, disjunction, implication, equivalence, comparison, set_comparison, membership, emptiness, quantified, where_let, call, restrict, imported, exported, default_at, Forms, no_forms, more_forms}
use Rattle.ms_logic.specs.View.{declared_in, formula_of, forms, globals_from, goals_in}
use Rattle.ms_lower.specs.declared.scope.Named.{Named}
use Rattle.ms_lower.specs.declared.tables.Tables.{Tables}
use Rattle.ms_lower.specs.Callees.{callees_in}
use Rattle.ms_lower.specs.Numbering.{Numbering, number_at, renumbered, variables_at}

-- a root of the answer: the numbers of its variables, and its formula
pub record NumberedRoot : Type 0 where
  pub variables : List ℕ
  pub formula : CoreForm

abbrev pub root_of : code.Root → NumberedRoot
root_of root = record { variables = root.variables; formula = core_form_of root.core }

-- the numbers of the answer for a root over some variables: globals among them, whose numbers are below the first that is free, keep
-- theirs
abbrev pub numbering_over : Tables → List Variable → Numbering
numbering_over tables vs = record {
  number = number_at (min tables.globals (first_free vs)) tables.globals;
  imported = variables_at tables;
}

-- the root of the conjunction of some formulas, over so many globals
abbrev pub root_of_forms : ℕ → List CoreForm → NumberedRoot
root_of_forms globals fs = record { variables = range_with_len 0 globals; formula = conjunction_of fs }

-- a root of the spread with the numbers of the answer
abbrev pub renumbered_root : Tables → Root → NumberedRoot
renumbered_root tables root = record {
  variables = map (λ v. (numbering_over tables root.variables).number v.order v.name) root.variables;
  formula = renumbered (numbering_over tables root.variables) root.formula;
}

-- the order of a variable where some are seen, inner ones first
abbrev pub order_seen : List Variable → ℕ → Order
order_seen [] x = Zero
order_seen (v ∷ seen) x = if x == v.name then v.order else order_seen seen x

-- variables with the orders that they have where some are seen
abbrev pub with_orders : List Variable → List ℕ → List Variable
with_orders seen xs = map (λ x. record { name = x; order = order_seen seen x }) xs

abbrev pub seen_over : List Variable → List Named → List Variable
seen_over outer [] = outer
seen_over outer (n ∷ more) = seen_over (record { name = n.variable; order = n.order } ∷ outer) more

abbrev pub variables_of_export : Option ExportUse → List ℕ
variables_of_export None = []
variables_of_export (Some used) = used.variables

-- the root of an export with a number, where some variables are seen
abbrev pub root_over : Tables → Form → List Variable → Root
root_over tables f vs = record { variables = vs; formula = spread_under (callees_in tables) f own_names (first_free vs) }

abbrev pub root_at : Tables → List ExportUse → List Variable → ℕ → Form → Root
root_at tables exports seen i f = root_over tables f (with_orders seen (variables_of_export (slice_get exports i)))

-- the roots of the exports in a formula, in the order in which they stand
abbrev mutual
  pub roots_in : Tables → List ExportUse → List Variable → Form → List Root
  roots_in tables exports seen truth = []
  roots_in tables exports seen falsity = []
  roots_in tables exports seen (truth_variable x) = []
  roots_in tables exports seen (negation f) = roots_in tables exports seen f
  roots_in tables exports seen (conjunction fs) = roots_among tables exports seen fs
  roots_in tables exports seen (disjunction fs) = roots_among tables exports seen fs
  roots_in tables exports seen (implication f g) = roots_in tables exports seen f ++ roots_in tables exports seen g
  roots_in tables exports seen (equivalence f g) = roots_in tables exports seen f ++ roots_in tables exports seen g
  roots_in tables exports seen (comparison r t u) = []
  roots_in tables exports seen (set_comparison r s t) = []
  roots_in tables exports seen (membership positive t s) = []
  roots_in tables exports seen (emptiness s) = []
  roots_in tables exports seen (quantified q o x d f) = roots_in tables exports (record { name = x; order = o } ∷ seen) f
  roots_in tables exports seen (where_let xs right_sides f) = []
  roots_in tables exports seen (call p given) = []
  roots_in tables exports seen (restrict f) = roots_in tables exports seen f
  roots_in tables exports seen (imported i) = []
  roots_in tables exports seen (exported i f) = root_at tables exports seen i f ∷ roots_in tables exports seen f
  roots_in tables exports seen (default_at p x) = []

  pub roots_among : Tables → List ExportUse → List Variable → Forms → List Root
  roots_among tables exports seen no_forms = []
  roots_among tables exports seen (more_forms f fs) = roots_in tables exports seen f ++ roots_among tables exports seen fs

-- the least number above some
abbrev pub above_all : List ℕ → ℕ
above_all [] = 0
above_all (x ∷ xs) = max (x + 1) (above_all xs)

-- the main root of a question that asks some formulas, over the globals
abbrev pub main_over : Tables → List Global → List Placed → Root
main_over tables globals asked = record {
  variables = map (λ declared. declared.variable) (globals_from 0 globals);
  formula =
      conjunction_of
      (restrictions_of (callees_in tables) (globals_from 0 globals) own_names (first_free (map (λ declared. declared.variable) (globals_from 0 globals)))
      ++ spread_each (callees_in tables) (forms (map (λ placed. formula_of placed.formula) asked)) own_names (first_free (map (λ declared. declared.variable) (globals_from 0 globals))));
}

-- the variables that are seen behind some globals, whose numbers go on from a count
abbrev pub globals_over : ℕ → List Variable → List Global → List Variable
globals_over count outer [] = outer
globals_over count outer (g ∷ more) = globals_over (count + 1) (record { name = count; order = g.order } ∷ outer) more

-- the roots of the exports of a source, in all its formulas
abbrev pub export_roots : Tables → Checked → List Root
export_roots tables checked =
    roots_among tables checked.exports (globals_over 0 [] checked.globals) (forms (map (λ placed. formula_of placed.formula) checked.formulas))

-- the roots of its goals, each of which asks its formula alone
abbrev pub goal_roots : Tables → Checked → List Root
goal_roots tables checked = map (λ goal. main_over tables checked.globals (goal ∷ [])) (goals_in checked)

-- the roots of a source: the main root, of the formula declarations, then those of its exports, and then those of its goals
abbrev pub all_roots : Tables → Checked → List Root
all_roots tables checked = main_over tables checked.globals (declared_in checked) ∷ (export_roots tables checked ++ goal_roots tables checked)
