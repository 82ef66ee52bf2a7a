-- Contents and sources for the worked examples of steps, starts and budgets.
use Rattle.std.specs.Prelude.{ℕ, []}
use Rattle.ms_logic_core.specs.declared.core_formula.Basic.TheVariants.{Sub, Truth}
use Rattle.ms_logic_measures.specs.Budgets.{Measured}
use Rattle.ms_logic_core.specs.CoreForm.{CoreForm, basic}
use Rattle.ms_logic_core.specs.inner.SpreadExamples.{subset_source}

abbrev pub is_truth : ℕ → CoreForm
is_truth a = basic (Truth a)

-- var2 P, Q; P sub Q
abbrev pub measured_subset : Measured
measured_subset = record { problem = subset_source; files = []; tied = tt }

-- P sub Q and P sub Q
abbrev pub subset_form : CoreForm
subset_form = basic (Sub 0 1)
