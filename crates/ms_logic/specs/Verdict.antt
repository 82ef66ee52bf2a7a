-- What a source decides of a question, which is a list of its formulas: the value at each assignment of the globals, and the verdict.
use Rattle.std.specs.Prelude.{◌↔◌, List, map}
use Rattle.ms_logic.specs.declared.mode.Mode.{Mode}
use Rattle.ms_logic.specs.Assignment.{Env, Variable, IsAssignment}
use Rattle.ms_logic.specs.Tree.{Forms, Declaration, conjunction}
use Rattle.ms_logic.specs.Truth.{Given, Yes, No, AllMet, meanings_of}

-- a source whose names are resolved, with the formulas of a question; those of its main question are the formula declarations
pub record Problem : Type 0 where
  pub mode : Mode
  pub globals : List Declaration
  pub given : Given
  pub formulas : Forms

abbrev pub variables_of : List Declaration → List Variable
variables_of declarations = map (λ declared. declared.variable) declarations

-- each global's restriction is Yes
abbrev pub MeetsRestrictions : Problem → Env → Type 0
MeetsRestrictions problem e = AllMet (meanings_of problem.given) problem.globals e

-- the main value: that of the conjunction of the formulas where each restriction is Yes, and else Undefined
abbrev pub MainYes : Problem → Env → Type 0
MainYes problem e = MeetsRestrictions problem e × Yes problem.given (conjunction problem.formulas) e

abbrev pub MainNo : Problem → Env → Type 0
MainNo problem e = MeetsRestrictions problem e × No problem.given (conjunction problem.formulas) e

-- an assignment of the globals
abbrev pub Assigns : Problem → Env → Type 0
Assigns problem e = IsAssignment problem.mode (variables_of problem.globals) e

-- some assignment has main value Yes, and some has No
abbrev pub HasExample : Problem → Type 0
HasExample problem = (e : Env) × Assigns problem e × MainYes problem e

abbrev pub HasCounterexample : Problem → Type 0
HasCounterexample problem = (e : Env) × Assigns problem e × MainNo problem e

-- the four verdicts
abbrev pub IsValid : Problem → Type 0
IsValid problem = HasExample problem × ¬ HasCounterexample problem

abbrev pub IsUnsatisfiable : Problem → Type 0
IsUnsatisfiable problem = (¬ HasExample problem) × HasCounterexample problem

abbrev pub IsContingent : Problem → Type 0
IsContingent problem = HasExample problem × HasCounterexample problem

abbrev pub IsVacuous : Problem → Type 0
IsVacuous problem = (¬ HasExample problem) × ¬ HasCounterexample problem

-- two sources with one mode and one list of globals agree: their main values are the same at each assignment
abbrev pub Agree : Problem → Problem → Type 0
Agree left right = (e : Env) → Assigns left e → (MainYes left e ↔ MainYes right e) × (MainNo left e ↔ MainNo right e)
