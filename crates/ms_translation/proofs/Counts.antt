-- What was made, by what it is.
use Rattle.std.proofs.Common.{ℕ, ◌+◌, ◌<◌, List, length, Result, Ok, Err, ap, arith}
use Rattle.std.proofs.lemmas.List.{length-map}
use Rattle.std.specs.Prelude.{IfOk}
use Rattle.ms_list.specs.declared.fault.NoMemory.{NoMemory}
use Rattle.ms_logic.specs.declared.formula.Formula.{Formula}
use Rattle.ms_logic.specs.Tree.{Form}
use Rattle.ms_logic.specs.View.{formula_of}
use Rattle.ms_translation.specs.Made.{GiveAll}

-- as many formulas as forms
pub few-given : (given : Result (List Formula) NoMemory) (fs : List Form) (bound : ℕ) → GiveAll given fs → length fs + 1 < bound → IfOk given (λ formulas. length formulas + 1 < bound)
few-given (Ok formulas) fs bound gives few = omega (arith, few, ap (λ (l : List Form). length l) gives, length-map formulas formula_of)
few-given (Err e) fs bound gives few = tt
