-- Formulas and answers for worked examples.
use Rattle.std.specs.Prelude.{ℕ, List, [], ◌∷◌, Some, None}
use Rattle.ms_logic.specs.declared.mode.Rel.TheVariants.{Less}
use Rattle.ms_presburger.specs.declared.linear.Part.TheVariants.{Number, Var}
use Rattle.ms_presburger.specs.inner.Examples.{x}
use Rattle.ms_presburger.specs.Tree.{Arithmetic, comparison}
use Rattle.ms_report.specs.declared.found.Verdict.TheVariants.{Contingent, Unsatisfiable}
use Rattle.ms_report.specs.Numbers.{NumberAnswer, ShownNumbers}

-- numbers of at most so many binary digits
abbrev pub numbers : ℕ → List ℕ → ShownNumbers
numbers digits ns = record { digits = digits; numbers = ns }

-- x + y = 3 & x < y, first at 0 and 3, and first not at 0 and 0
abbrev pub three_in_order_answer : NumberAnswer
three_in_order_answer =
    record { verdict = Contingent; example = Some (numbers 2 (0 ∷ 3 ∷ [])); counterexample = Some (numbers 0 (0 ∷ 0 ∷ [])) }

-- x < 0
abbrev pub below_zero : Arithmetic
below_zero = comparison Less (Var x ∷ []) (Number 0 ∷ [])

-- which holds nowhere, and first fails at 0
abbrev pub below_zero_answer : NumberAnswer
below_zero_answer = record { verdict = Unsatisfiable; example = None; counterexample = Some (numbers 0 (0 ∷ [])) }
