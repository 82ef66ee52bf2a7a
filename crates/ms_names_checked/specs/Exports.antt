-- The exports of a checked source: where they stand, and which variables they list.
use Rattle.std.specs.Prelude.{◌≡◌, List, [], length, map, slice_get}
use Rattle.std.specs.Option.{IsSomeAnd}
use Rattle.ms_logic.specs.declared.checked.Checked.{Checked}
use Rattle.ms_logic.specs.declared.checked.ExportUse.{ExportUse}
use Rattle.ms_logic.specs.Assignment.{Variable}
use Rattle.ms_logic_core.specs.Roots.{AreFreeVariables, Export, exports_among}
use Rattle.ms_logic.specs.Tree.{Form, truth, falsity, truth_variable, negation, conjunction, disjunction, implication, equivalence, comparison, set_comparison, membership, emptiness, quantified, where_let, call, restrict, imported, exported, default_at, Forms, no_forms, more_forms}
use Rattle.ms_logic.specs.Truth.{Given}
use Rattle.ms_logic.specs.View.{formula_of, problem_of, Answers}
use Rattle.ms_logic.specs.Lists.{Each}
use Rattle.ms_names_rules.specs.Numbers.{exports_in, exports_in_arguments, exports_in_restriction}

-- no export stands in a restriction, in a `let` or in an argument
abbrev mutual
  pub HasExportsInPlace : Form → Type 0
  HasExportsInPlace truth = Unit {0}
  HasExportsInPlace falsity = Unit {0}
  HasExportsInPlace (truth_variable x) = Unit {0}
  HasExportsInPlace (negation f) = HasExportsInPlace f
  HasExportsInPlace (conjunction fs) = HaveExportsInPlace fs
  HasExportsInPlace (disjunction fs) = HaveExportsInPlace fs
  HasExportsInPlace (implication f g) = HasExportsInPlace f × HasExportsInPlace g
  HasExportsInPlace (equivalence f g) = HasExportsInPlace f × HasExportsInPlace g
  HasExportsInPlace (comparison r t u) = Unit {0}
  HasExportsInPlace (set_comparison r s t) = Unit {0}
  HasExportsInPlace (membership positive t s) = Unit {0}
  HasExportsInPlace (emptiness s) = Unit {0}
  HasExportsInPlace (quantified q o x d f) = (exports_in_restriction d ≡ []) × HasExportsInPlace f
  HasExportsInPlace (where_let xs sides f) = (exports_in_arguments sides ≡ []) × (exports_in f ≡ [])
  HasExportsInPlace (call p given) = exports_in_arguments given ≡ []
  HasExportsInPlace (restrict f) = HasExportsInPlace f
  HasExportsInPlace (imported i) = Unit {0}
  HasExportsInPlace (exported i f) = HasExportsInPlace f
  HasExportsInPlace (default_at p x) = Unit {0}

  pub HaveExportsInPlace : Forms → Type 0
  HaveExportsInPlace no_forms = Unit {0}
  HaveExportsInPlace (more_forms f fs) = HasExportsInPlace f × HaveExportsInPlace fs

-- an entry of the table of exports lists the free variables of a formula, in the order of their numbers
abbrev pub ListsFree : Given → Form → ExportUse → Type 0
ListsFree given f used = (vs : List Variable) × (used.variables ≡ map (λ v. v.name) vs) × AreFreeVariables given f vs

-- an export in a formula has an entry, which lists the free variables of what it exports
abbrev pub ExportListsFree : Given → List ExportUse → Export → Type 0
ExportListsFree given exports e = IsSomeAnd (slice_get exports e.number) (ListsFree given e.formula)

-- Exports in formulas stand where they may, and each lists the free variables of what it exports, also through the predicates
-- that it calls and the defaults and imports in it, whatever the imported automata answer. (That none stands in a predicate or in
-- the restriction of a global, and each of the table in one formula, is a matter of numbers.)
pub record ListsFreeVariables (checked : Checked) : Type 0 where
  pub in_place : Each (λ placed. HasExportsInPlace (formula_of placed.formula)) checked.formulas
  pub variables : (answers : Answers) → length answers ≡ length checked.imports
      → Each (ExportListsFree (problem_of checked answers).given checked.exports) (exports_among (problem_of checked answers).formulas)
