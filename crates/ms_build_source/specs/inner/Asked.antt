-- Two lists of imports that answer alike wherever a formula can ask them: at values of the orders of their variables.
use Rattle.std.specs.Prelude.{◌≡◌, ℕ, List, length, slice_get}
use Rattle.ms_logic.specs.declared.mode.Mode.{Mode}
use Rattle.ms_logic.specs.Assignment.{Env, Variable, IsUniverseOf, IsValueOf, value_at}
use Rattle.ms_logic_core.specs.CoreForm.{answer_over}
use Rattle.ms_logic_core.specs.Spread.{variables_of_import}
use Rattle.ms_logic_core.specs.Operands.{variables_at}
use Rattle.ms_logic.specs.Truth.{Import}
use Rattle.ms_logic.specs.Lists.{Each}

-- the variable has a value of its order
abbrev pub HasValueIn : Env → Variable → Type 0
HasValueIn e v = IsValueOf v.order e.universe (value_at v.order v.name e)

-- the first answer as the second do, where the variables of a list have values of the orders of an import
abbrev pub AnswerAlike : Mode → List Import → List Import → Type 0
AnswerAlike mode first second =
    (i : ℕ) (xs : List ℕ) (e : Env) → IsUniverseOf mode e.universe → length xs ≡ length (variables_of_import (slice_get first i))
    → Each (HasValueIn e) (variables_at xs (variables_of_import (slice_get first i)))
    → answer_over (slice_get first i) xs e ≡ answer_over (slice_get second i) xs e
