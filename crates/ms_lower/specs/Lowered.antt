-- A source as core formulas.
use Rattle.std.specs.Prelude.{◌≡◌, ℕ, zero, suc, ◌+◌, ◌<◌, List, [], ◌∷◌, ◌++◌, length, map, min, slice_get, Contains, Some}
use Rattle.ms_logic.specs.declared.checked.Checked.{Checked}
use Rattle.ms_logic.specs.declared.checked.ExportUse.{ExportUse}
use Rattle.ms_logic.specs.declared.checked.Placed.{Placed}
use Rattle.ms_logic_core.specs.declared.core_formula.Root as code
use Rattle.ms_logic.specs.Assignment.{Variable}
use Rattle.ms_logic_core.specs.CoreForm.{core_form_of}
use Rattle.ms_logic.specs.FreeVariables.{FreeInForms, FreeInRestrictions, IsListed, Reads, reads_of_imports, reads_with_predicates}
use Rattle.ms_logic_core.specs.SameUpToBound.{SameRoot}
use Rattle.ms_lower.specs.NumberLaws.{numbering_in}
use Rattle.ms_logic_core.specs.Calls.{filled}
use Rattle.ms_logic_core.specs.Stands.{Stands}
use Rattle.ms_logic_core.specs.Spread.{Callees, conjunction_of, own_names, restrictions_of, spread_each, spread_under}
use Rattle.ms_lower.specs.Calling.{calling, calling_numbers, calls_of}
use Rattle.ms_logic_core.specs.Roots.{AreFreeVariables, first_free, IsRoot, Root, exports_among}
use Rattle.ms_logic.specs.Tree.{Form, truth, falsity, truth_variable, negation, conjunction, disjunction, implication, equivalence, comparison, set_comparison, membership, emptiness, quantified, where_let, call, restrict, imported, exported, default_at, Forms, no_forms, more_forms}
use Rattle.ms_logic.specs.Truth.{Given}
use Rattle.ms_logic.specs.Verdict.{Problem, variables_of}
use Rattle.ms_logic.specs.View.{goal_question, goals_in, main_question, problem_of, Answers}
use Rattle.ms_names_rules.specs.Numbers.{CountUp}
use Rattle.ms_lower.specs.NumberedRoots.{globals_over, variables_of_export, with_orders}
use Rattle.ms_lower.specs.Numbering.{number_at, renumbered, with_new_numbers}

-- what predicates and imports read
abbrev pub reads_of : Given → Reads
reads_of given = reads_with_predicates (reads_of_imports given.imports) 0 given.predicates

-- at each export in a formula, the variables that the table gives, with the orders that they have there, are the free variables
-- of its formula
abbrev mutual
  pub ExportsFit : Given → List ExportUse → List Variable → Form → Type 0
  ExportsFit given exports seen truth = Unit {0}
  ExportsFit given exports seen falsity = Unit {0}
  ExportsFit given exports seen (truth_variable x) = Unit {0}
  ExportsFit given exports seen (negation f) = ExportsFit given exports seen f
  ExportsFit given exports seen (conjunction fs) = ExportsFitEach given exports seen fs
  ExportsFit given exports seen (disjunction fs) = ExportsFitEach given exports seen fs
  ExportsFit given exports seen (implication f g) = ExportsFit given exports seen f × ExportsFit given exports seen g
  ExportsFit given exports seen (equivalence f g) = ExportsFit given exports seen f × ExportsFit given exports seen g
  ExportsFit given exports seen (comparison r t u) = Unit {0}
  ExportsFit given exports seen (set_comparison r s t) = Unit {0}
  ExportsFit given exports seen (membership positive t s) = Unit {0}
  ExportsFit given exports seen (emptiness s) = Unit {0}
  ExportsFit given exports seen (quantified q o x d f) = ExportsFit given exports (record { name = x; order = o } ∷ seen) f
  ExportsFit given exports seen (where_let xs right_sides f) = Unit {0}
  ExportsFit given exports seen (call p values) = Unit {0}
  ExportsFit given exports seen (restrict f) = ExportsFit given exports seen f
  ExportsFit given exports seen (imported i) = Unit {0}
  ExportsFit given exports seen (exported i f) =
      AreFreeVariables given f (with_orders seen (variables_of_export (slice_get exports i))) × ExportsFit given exports seen f
  ExportsFit given exports seen (default_at p x) = Unit {0}

  pub ExportsFitEach : Given → List ExportUse → List Variable → Forms → Type 0
  ExportsFitEach given exports seen no_forms = Unit {0}
  ExportsFitEach given exports seen (more_forms f fs) = ExportsFit given exports seen f × ExportsFitEach given exports seen fs

-- The variables of the roots of a checked source: the globals are all variables that are free in its formulas and restrictions; and its
-- exports stand where the roots look for them, in the order of the table, with their free variables.
pub record ListsVariables (checked : Checked) (problem : Problem) : Type 0 where
  pub restrictions : (w : Variable) → FreeInRestrictions (reads_of problem.given) problem.globals w → IsListed (variables_of problem.globals) w
  pub formulas : (w : Variable) → FreeInForms (reads_of problem.given) problem.formulas w → IsListed (variables_of problem.globals) w
  pub numbers : CountUp 0 (map (λ e. e.number) (exports_among problem.formulas)) (length checked.exports)
  pub fit : ExportsFitEach problem.given checked.exports (globals_over 0 [] checked.globals) problem.formulas

-- the roots of a question over what the calls of the source stand for
abbrev pub main_root_over : Callees → Problem → Root
main_root_over c problem = record {
  variables = variables_of problem.globals;
  formula =
      conjunction_of
      (restrictions_of c problem.globals own_names (first_free (variables_of problem.globals))
      ++ spread_each c problem.formulas own_names (first_free (variables_of problem.globals)));
}

abbrev pub export_root_over : Callees → List Variable → Form → Root
export_root_over c variables f = record { variables = variables; formula = spread_under c f own_names (first_free variables) }

abbrev pub IsRootOver : Callees → Problem → ℕ → Root → Type 0
IsRootOver c problem zero root = root ≡ main_root_over c problem
IsRootOver c problem (suc i) root =
    (f : Form) × (variables : List Variable)
    × Contains (exports_among problem.formulas) (record { number = i; formula = f })
    × AreFreeVariables problem.given f variables
    × (root ≡ export_root_over c variables f)

-- The roots of the answer, by what each root of a question is: the main root of the formula declarations; then the roots of the exports,
-- which stand in any formula of the source; and then the main root of each goal.
pub record AreRootsOf (IsOne : Problem → ℕ → code.Root → Type 0) (checked : Checked) (answers : Answers) (roots : List code.Root) : Type 0 where
  pub count : length roots ≡ 1 + length checked.exports + length (goals_in checked)
  pub main : (root : code.Root) → slice_get roots 0 ≡ Some root → IsOne (main_question checked answers) 0 root
  pub exports :
      (i : ℕ) (root : code.Root) → i < length checked.exports → slice_get roots (suc i) ≡ Some root → IsOne (problem_of checked answers) (suc i) root
  pub goals :
      (j : ℕ) (goal : Placed) (root : code.Root) → slice_get (goals_in checked) j ≡ Some goal
      → slice_get roots (suc (length checked.exports + j)) ≡ Some root → IsOne (goal_question checked answers goal) 0 root

-- A root of the answer is the root of a question with its number in which calls stand as imports, with the numbers of the answer.
pub record IsCallingRootFor (checked : Checked) (problem : Problem) (k : ℕ) (root : code.Root) : Type 0 where
  pub own : Root
  pub is_root : IsRootOver (calling problem.given) problem k own
  pub variables : map (λ v. number_at (min (length checked.globals) (first_free own.variables)) (length checked.globals) v.order v.name) own.variables ≡ root.variables
  pub formula : renumbered (calling_numbers (min (length checked.globals) (first_free own.variables)) (length checked.globals) problem.given) own.formula ≡ core_form_of root.core

abbrev pub HasCallingRoots : Checked → Answers → List code.Root → Type 0
HasCallingRoots checked answers roots = AreRootsOf (IsCallingRootFor checked) checked answers roots

-- A root of the answer with the orders of its variables, and with what its calls stand for in their places, is the root of a question
-- with its number, up to the numbers of bound variables. Its variables stand in their scopes, where a bound variable has a greater number than those in scope.
pub record IsRootFor (checked : Checked) (problem : Problem) (k : ℕ) (root : code.Root) : Type 0 where
  pub own : Root
  pub is_root : IsRoot problem k own
  pub made : Root
  pub variables : map (λ v. v.name) made.variables ≡ root.variables
  pub formula : made.formula ≡ filled (calls_of (length checked.globals) problem.given) (core_form_of root.core)
  pub same : SameRoot problem.given.imports (length checked.globals) own made
  pub stands : Stands problem.given.imports made.variables made.formula
  pub numbers : made ≡ with_new_numbers (numbering_in (length checked.globals) problem.given.imports own) own

abbrev pub HasRoots : Checked → Answers → List code.Root → Type 0
HasRoots checked answers roots = AreRootsOf (IsRootFor checked) checked answers roots
