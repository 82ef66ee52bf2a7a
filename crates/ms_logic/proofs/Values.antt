-- Facts about each value.
use Rattle.std.proofs.Common.{ℕ, Bool, List}
use Rattle.ms_logic.specs.declared.assignment.Value.{Value}
use Rattle.ms_logic.specs.declared.assignment.Value.TheVariants.{Truth, Number, Set}

-- what holds of each truth value, number and set holds of each value
pub each_value : (P : Value → Type 0) → ((b : Bool) → P (Truth b)) → ((n : ℕ) → P (Number n)) → ((members : List ℕ) → P (Set members)) → (v : Value) → P v
each_value P truths numbers sets (Truth b) = truths b
each_value P truths numbers sets (Number n) = numbers n
each_value P truths numbers sets (Set members) = sets members
