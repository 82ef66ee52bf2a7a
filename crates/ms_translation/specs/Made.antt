-- What was made, where memory was not refused.
use Rattle.std.specs.Prelude.{◌≡◌, List, map, Result, IfOk}
use Rattle.ms_list.specs.declared.fault.NoMemory.{NoMemory}
use Rattle.ms_logic.specs.declared.formula.Formula.{Formula}
use Rattle.ms_logic.specs.Tree.{Form}
use Rattle.ms_logic.specs.View.{formula_of}

-- a formula that was made is this one
abbrev pub Gives : Result Formula NoMemory → Form → Type 0
Gives made f = IfOk made (λ formula. formula_of formula ≡ f)

-- formulas that were made are these
abbrev pub GiveAll : Result (List Formula) NoMemory → List Form → Type 0
GiveAll made fs = IfOk made (λ formulas. map formula_of formulas ≡ fs)
