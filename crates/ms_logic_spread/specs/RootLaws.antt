-- The roots of a source whose numbers are in order, and the main roots of its questions, have the values that they stand for.
use Rattle.std.specs.Prelude.{◌≡◌, ◌↔◌, ℕ, zero, suc, List, length, Contains}
use Rattle.ms_logic.specs.declared.checked.Checked.{Checked}
use Rattle.ms_logic.specs.declared.checked.Placed.{Placed}
use Rattle.ms_logic.specs.Assignment.{Env, Variable, IsAssignment}
use Rattle.ms_logic_core.specs.CoreForm.{CoreYes, CoreNo}
use Rattle.ms_logic.specs.FreeVariables.{IsFree, IsListed}
use Rattle.ms_logic.specs.Lists.{Each}
use Rattle.ms_logic_core.specs.Roots.{Root, IsRoot, exports_among, main_root}
use Rattle.ms_logic_core.specs.Spread.{Names, spread}
use Rattle.ms_logic.specs.Tree.{Form}
use Rattle.ms_logic.specs.Truth.{Yes, No}
use Rattle.ms_logic.specs.Verdict.{Problem, MainYes, MainNo}
use Rattle.ms_logic.specs.View.{problem_of, question_of, Answers}
use Rattle.ms_names_rules.specs.Numbers.{IsWellNumbered, IsNumbered, tables_of, globals_seen}
use Rattle.ms_logic_spread.specs.SpreadLaws.{AreNamed, HaveOneValue}

-- the free variables of a formula whose numbers are in order are among those that it sees, if all globals are
abbrev pub FreeVariablesAreSeen : Type 0
FreeVariablesAreSeen =
    (checked : Checked) (answers : Answers) (seen : List Variable) (f : Form) (w : Variable)
    → IsWellNumbered checked → ((v : Variable) → IsListed (globals_seen checked) v → IsListed seen v)
    → IsNumbered (tables_of checked) (length (tables_of checked).predicates) seen f → IsFree (problem_of checked answers).given f w → IsListed seen w

-- so a formula whose numbers are in order has the value of its spread, whatever the variables that it sees are named
abbrev pub NumberedFormulasKeepValue : Type 0
NumberedFormulasKeepValue =
    (checked : Checked) (answers : Answers) (seen : List Variable) (f : Form) (names : Names) (free : ℕ) (e c : Env)
    → IsWellNumbered checked → ((v : Variable) → IsListed (globals_seen checked) v → IsListed seen v)
    → IsNumbered (tables_of checked) (length (tables_of checked).predicates) seen f → AreNamed (IsListed seen) names free e c
    → HaveOneValue (problem_of checked answers).given f e (spread (problem_of checked answers).given f names free) c

-- a formula of a source is exported under a number
abbrev pub IsExported : Problem → ℕ → Form → Type 0
IsExported problem i f = Contains (exports_among problem.formulas) (record { number = i; formula = f })

-- what a root stands for, by its number: 0 for the main value, and i + 1 for the value of the formula that is exported under i
abbrev pub RootYes : Problem → ℕ → Env → Type 0
RootYes problem zero e = MainYes problem e
RootYes problem (suc i) e = (f : Form) × IsExported problem i f × Yes problem.given f e

abbrev pub RootNo : Problem → ℕ → Env → Type 0
RootNo problem zero e = MainNo problem e
RootNo problem (suc i) e = (f : Form) × IsExported problem i f × No problem.given f e

-- at each assignment of its variables a root has the value that it stands for
abbrev pub HasRootValue : Problem → ℕ → Root → Type 0
HasRootValue problem i root =
    (e : Env) → IsAssignment problem.mode root.variables e
    → (RootYes problem i e ↔ CoreYes problem.given.imports root.formula e) × (RootNo problem i e ↔ CoreNo problem.given.imports root.formula e)

abbrev pub RootsKeepValues : Type 0
RootsKeepValues =
    (checked : Checked) (answers : Answers) (i : ℕ) (root : Root)
    → IsWellNumbered checked → IsRoot (problem_of checked answers) i root → HasRootValue (problem_of checked answers) i root

-- the formulas that a question asks are formulas of the source
abbrev pub AreFormulasOf : Checked → List Placed → Type 0
AreFormulasOf checked asked = Each (Contains checked.formulas) asked

-- the main root of a question has its value: that of the conjunction of what is asked, under the restrictions of the globals
abbrev pub QuestionsKeepValues : Type 0
QuestionsKeepValues =
    (checked : Checked) (answers : Answers) (asked : List Placed)
    → IsWellNumbered checked → AreFormulasOf checked asked
    → HasRootValue (question_of checked answers asked) 0 (main_root (question_of checked answers asked))

-- a number exports one formula
abbrev pub ExportsStandOnce : Type 0
ExportsStandOnce =
    (checked : Checked) (answers : Answers) (i : ℕ) (f g : Form)
    → IsWellNumbered checked → IsExported (problem_of checked answers) i f → IsExported (problem_of checked answers) i g → f ≡ g
