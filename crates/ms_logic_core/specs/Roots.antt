-- The roots of a source: the core formula of its main value, and that of each export, each with its list of variables.
use Rattle.std.specs.Prelude.{◌≡◌, ◌↔◌, ℕ, zero, suc, ◌+◌, max, List, [], ◌∷◌, ◌++◌, Contains}
use Rattle.ms_logic.specs.Assignment.{Variable}
use Rattle.ms_logic_core.specs.CoreForm.{CoreForm}
use Rattle.ms_logic.specs.FreeVariables.{IsFree, IsListed}
use Rattle.ms_logic_core.specs.Spread.{own_names, conjunction_of, callees_of, spread, spread_each, restrictions_of}
use Rattle.ms_logic.specs.Tree.{Form, truth, falsity, truth_variable, negation, conjunction, disjunction, implication, equivalence, comparison, set_comparison, membership, emptiness, quantified, where_let, call, restrict, imported, exported, default_at, Forms, no_forms, more_forms}
use Rattle.ms_logic.specs.Truth.{Given}
use Rattle.ms_logic.specs.Verdict.{Problem, variables_of}
use Rattle.ms_logic.specs.Lists.{AreRising}

pub record Root : Type 0 where
  pub variables : List Variable
  pub formula : CoreForm

-- the least number above those of the variables
abbrev pub first_free : List Variable → ℕ
first_free [] = 0
first_free (v ∷ vs) = max (v.name + 1) (first_free vs)

-- the main root, over the globals: one conjunction of `restrict` of each global's restriction and of the formulas
abbrev pub main_root : Problem → Root
main_root problem = record {
  variables = variables_of problem.globals;
  formula =
      conjunction_of
      (restrictions_of (callees_of problem.given) problem.globals own_names (first_free (variables_of problem.globals))
      ++ spread_each (callees_of problem.given) problem.formulas own_names (first_free (variables_of problem.globals)));
}

-- the root of an export of a formula over these variables
abbrev pub export_root : Given → List Variable → Form → Root
export_root given variables f = record { variables = variables; formula = spread given f own_names (first_free variables) }

-- an export, by its number, with its formula
pub record Export : Type 0 where
  pub number : ℕ
  pub formula : Form

-- the exports in a formula, in the order in which they stand. None stands in a restriction, a right side, an argument or a `let`.
abbrev mutual
  pub exports_in : Form → List Export
  exports_in truth = []
  exports_in falsity = []
  exports_in (truth_variable x) = []
  exports_in (negation f) = exports_in f
  exports_in (conjunction fs) = exports_among fs
  exports_in (disjunction fs) = exports_among fs
  exports_in (implication f g) = exports_in f ++ exports_in g
  exports_in (equivalence f g) = exports_in f ++ exports_in g
  exports_in (comparison r t u) = []
  exports_in (set_comparison r s t) = []
  exports_in (membership positive t s) = []
  exports_in (emptiness s) = []
  exports_in (quantified q o x d f) = exports_in f
  exports_in (where_let xs right_sides f) = []
  exports_in (call p given) = []
  exports_in (restrict f) = exports_in f
  exports_in (imported i) = []
  exports_in (exported i f) = record { number = i; formula = f } ∷ exports_in f
  exports_in (default_at p x) = []

  pub exports_among : Forms → List Export
  exports_among no_forms = []
  exports_among (more_forms f fs) = exports_in f ++ exports_among fs

-- these are the free variables of the formula, in their order
pub record AreFreeVariables (given : Given) (f : Form) (variables : List Variable) : Type 0 where
  pub rising : AreRising variables
  pub free : (w : Variable) → IsListed variables w ↔ IsFree given f w

-- a root of a source, by its number: 0 for the main root, and i + 1 for the export with number i
abbrev pub IsRoot : Problem → ℕ → Root → Type 0
IsRoot problem zero root = root ≡ main_root problem
IsRoot problem (suc i) root =
    (f : Form) × (variables : List Variable)
    × Contains (exports_among problem.formulas) (record { number = i; formula = f })
    × AreFreeVariables problem.given f variables
    × (root ≡ export_root problem.given variables f)
