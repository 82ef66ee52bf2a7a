-- Lists of variables, trees and predicates for the worked examples.
use Rattle.std.specs.Prelude.{List, [], ◌∷◌}
use Rattle.ms_logic.specs.declared.mode.Order.TheVariants.{Zero, One, Two}
use Rattle.ms_logic_core.specs.declared.core_formula.Basic.TheVariants.{Number}
use Rattle.ms_logic.specs.declared.mode.Quant.TheVariants.{Ex}
use Rattle.ms_logic.specs.Assignment.{Variable}
use Rattle.ms_logic_measures.specs.inner.BudgetExamples.{is_truth}
use Rattle.ms_logic_core.specs.CoreForm as core
use Rattle.ms_logic_core.specs.CoreForm.{CoreForm, basic}
use Rattle.ms_logic.specs.inner.Examples.{variable}

-- the sets P and Q, the one with the greater number first
abbrev pub set_Q_and_P : List Variable
set_Q_and_P = variable 1 Two ∷ variable 0 Two ∷ []

-- x = 0, as a core formula
abbrev pub is_zero : CoreForm
is_zero = basic (Number 0 0)

-- ex1 x: true
abbrev pub some_number : CoreForm
some_number = core.quantified Ex One 0 core.unrestricted core.truth

-- B => A, as a core formula
abbrev pub implies_truth : CoreForm
implies_truth = core.implication (is_truth 0) (is_truth 1)

-- the truth values B and A
abbrev pub truth_B_and_A : List Variable
truth_B_and_A = variable 0 Zero ∷ variable 1 Zero ∷ []

-- the same, the one with the greater number first
abbrev pub truth_A_and_B : List Variable
truth_A_and_B = variable 1 Zero ∷ variable 0 Zero ∷ []

abbrev pub truth_A : List Variable
truth_A = variable 1 Zero ∷ []
