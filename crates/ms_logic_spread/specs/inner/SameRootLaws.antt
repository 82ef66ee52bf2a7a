-- Core formulas and roots that are the same up to the numbers of their bound variables have one value.
use Rattle.std.specs.Prelude.{◌≡◌, ◌↔◌, ℕ, List, length, map}
use Rattle.ms_logic.specs.declared.checked.Checked.{Checked}
use Rattle.ms_logic.specs.declared.checked.Placed.{Placed}
use Rattle.ms_logic.specs.declared.mode.Mode.{Mode}
use Rattle.ms_logic.specs.Assignment.{Env, Variable, assign_all, value_at, IsAssignment}
use Rattle.ms_logic_core.specs.CoreForm.{CoreForm, CoreYes, CoreNo}
use Rattle.ms_logic_core.specs.Roots.{Root, IsRoot, main_root}
use Rattle.ms_logic_core.specs.SameUpToBound.{SameUpToBound, SameRoot}
use Rattle.ms_logic.specs.Truth.{Import}
use Rattle.ms_logic.specs.Verdict.{variables_of}
use Rattle.ms_logic.specs.View.{problem_of, question_of, Answers}
use Rattle.ms_names_rules.specs.Numbers.{IsWellNumbered}
use Rattle.ms_logic_spread.specs.RootLaws.{AreFormulasOf, RootYes, RootNo, HasRootValue}

-- two core formulas, each at an environment, are Yes, No or Undefined alike
abbrev pub HaveOneCoreValue : List Import → CoreForm → Env → CoreForm → Env → Type 0
HaveOneCoreValue imports f e g d = (CoreYes imports f e ↔ CoreYes imports g d) × (CoreNo imports f e ↔ CoreNo imports g d)

-- formulas that are the same up to the numbers of their bound variables have one value
abbrev pub SameFormulasHaveOneValue : Type 0
SameFormulasHaveOneValue =
    (imports : List Import) (f g : CoreForm) (e : Env) → SameUpToBound imports f g → HaveOneCoreValue imports f e g e

-- e, where the variables of the second list have the values that those of the first list have at e, one for one
abbrev pub with_values_of : List Variable → List Variable → Env → Env
with_values_of vs ws e = assign_all (map (λ w. w.name) ws) (map (λ v. value_at v.order v.name e) vs) e

-- two roots that are the same up to the numbers of bound variables have one value, at an assignment of the variables of either, where
-- those of the other have the same values
abbrev pub SameRootsHaveOneValue : Type 0
SameRootsHaveOneValue =
    (imports : List Import) (globals : ℕ) (mode : Mode) (left right : Root) (e : Env)
    → SameRoot imports globals left right
    → (IsAssignment mode left.variables e
    → IsAssignment mode right.variables (with_values_of left.variables right.variables e)
    × HaveOneCoreValue imports left.formula e right.formula (with_values_of left.variables right.variables e))
    × (IsAssignment mode right.variables e
    → IsAssignment mode left.variables (with_values_of right.variables left.variables e)
    × HaveOneCoreValue imports left.formula (with_values_of right.variables left.variables e) right.formula e)

-- what is the main root of a question up to bound variables has the value of the question, over the globals
abbrev pub SameMainRootKeepsValue : Type 0
SameMainRootKeepsValue =
    (checked : Checked) (answers : Answers) (asked : List Placed) (root : Root)
    → IsWellNumbered checked → AreFormulasOf checked asked
    → SameRoot (question_of checked answers asked).given.imports (length checked.globals) (main_root (question_of checked answers asked)) root
    → (root.variables ≡ variables_of (question_of checked answers asked).globals) × HasRootValue (question_of checked answers asked) 0 root

-- what is a root of a source up to bound variables has the value that this root stands for, at each assignment of the variables of this
-- root, where its own have the same values
abbrev pub SameRootsKeepValues : Type 0
SameRootsKeepValues =
    (checked : Checked) (answers : Answers) (i : ℕ) (left right : Root) (e : Env)
    → IsWellNumbered checked → IsRoot (problem_of checked answers) i right
    → SameRoot (problem_of checked answers).given.imports (length checked.globals) left right → IsAssignment checked.mode right.variables e
    → (RootYes (problem_of checked answers) i e ↔ CoreYes (problem_of checked answers).given.imports left.formula (with_values_of right.variables left.variables e))
    × (RootNo (problem_of checked answers) i e ↔ CoreNo (problem_of checked answers).given.imports left.formula (with_values_of right.variables left.variables e))
