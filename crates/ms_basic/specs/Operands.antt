-- Operands of basic relations: variables of each order.
use Rattle.std.specs.Prelude.{◌≡◌, ℕ, List}
use Rattle.ms_logic.specs.declared.mode.Order.TheVariants.{Zero, One, Two}
use Rattle.ms_logic.specs.Assignment.{Variable}
use Rattle.ms_logic.specs.Lists.{IsAmong}

-- a variable of each order
abbrev pub truth_value : ℕ → Variable
truth_value a = record { name = a; order = Zero }

abbrev pub number : ℕ → Variable
number x = record { name = x; order = One }

abbrev pub set : ℕ → Variable
set s = record { name = s; order = Two }

-- variables of one number are of one order
abbrev pub HaveOneOrder : List Variable → Type 0
HaveOneOrder vs = (v w : Variable) → IsAmong vs v → IsAmong vs w → v.name ≡ w.name → v ≡ w
