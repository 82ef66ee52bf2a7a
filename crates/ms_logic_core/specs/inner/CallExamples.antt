-- Core formulas for worked examples.
use Rattle.std.specs.Prelude.{ℕ, zero, suc, List, [], ◌∷◌}
use Rattle.ms_logic_core.specs.declared.core_formula.Basic.TheVariants.{Less}
use Rattle.ms_logic.specs.declared.mode.Order.TheVariants.{One}
use Rattle.ms_logic.specs.declared.mode.Quant.TheVariants.{Ex}
use Rattle.ms_logic.specs.Assignment.{Variable}
use Rattle.ms_logic_core.specs.CoreForm.{CoreForm, truth, basic, conjunction, core_forms, imported, quantified, CoreRestriction}
use Rattle.ms_logic_core.specs.Operands.{variable}
use Rattle.ms_logic_core.specs.Calls.{Calls}
use Rattle.ms_logic.specs.Truth.{Import, answer_undefined}

-- the numbers x and y
abbrev pub x_and_y : List Variable
x_and_y = variable 0 One ∷ variable 1 One ∷ []

-- x < z & z < y
abbrev pub between : ℕ → ℕ → ℕ → CoreForm
between x z y = conjunction (core_forms (basic (Less x z) ∷ basic (Less z y) ∷ []))

-- ex1 x where d: f
abbrev pub exists : ℕ → CoreRestriction → CoreForm → CoreForm
exists x d f = quantified Ex One x d f

-- an import over one number
abbrev pub number_import : List Import
number_import = record { variables = variable 0 One ∷ []; answer = λ universe values. answer_undefined } ∷ []

-- the import 0 stands for itself, and each other one says that its variable is less than itself
abbrev pub below_itself : Calls
below_itself zero xs = imported 0 xs
below_itself (suc i) [] = truth
below_itself (suc i) (x ∷ xs) = basic (Less x x)
