-- Laws of how many states the full contents of basic relations have, where each place has a variable of its own.
use Rattle.std.specs.Prelude.{ℕ, ◌+◌, ◌*◌, ◌≤◌, ◌<◌, ◌^◌, [], length}
use Rattle.ms_basic.specs.Bits.{digits_of}
use Rattle.ms_basic.specs.States.{states_of}
use Rattle.ms_logic.specs.declared.mode.Mode.{Mode}
use Rattle.ms_logic_core.specs.CoreForm.{basic}
use Rattle.ms_logic_core.specs.Operands.{at_places}
use Rattle.ms_logic_core.specs.declared.core_formula.Basic.{Basic}
use Rattle.ms_logic_core.specs.declared.core_formula.Basic.TheVariants.{Number, Plus, Up, Down, Bits}
use Rattle.ms_logic_measures.specs.Budgets.{budget}
use Rattle.ms_logic_measures.specs.CallMeasures.{IsBasicMeasure, call_measure, place_variables}
use Rattle.ms_logic_measures.specs.FullContent.{IsFullContent}
use Rattle.ms_logic_words.specs.Content.{Content}
use Rattle.ms_logic_words.specs.declared.sign.Sign.{Sign}

-- the content is the full content of the relation
abbrev pub IsContentOfRelation : Mode → Basic → Content Sign → Type 0
IsContentOfRelation mode b content = IsFullContent [] mode (place_variables b) (basic (at_places b)) content

-- x = n has more than n states, since it counts the positions before the number
abbrev pub NumbersNeedStates : Type 0
NumbersNeedStates = (mode : Mode) (x n : ℕ) (content : Content Sign) → IsContentOfRelation mode (Number x n) content → n < length content.states

-- x = y + n has more than n states, since it counts the positions between both numbers
abbrev pub SumsNeedStates : Type 0
SumsNeedStates = (mode : Mode) (x y n : ℕ) (content : Content Sign) → IsContentOfRelation mode (Plus x y n) content → n < length content.states

-- S = T + n has at least 2 ^ n states, since it remembers n bits
abbrev pub ShiftsUpNeedStates : Type 0
ShiftsUpNeedStates = (mode : Mode) (s t n : ℕ) (content : Content Sign) → IsContentOfRelation mode (Up s t n) content → 2 ^ n ≤ length content.states

-- so has S = T - n
abbrev pub ShiftsDownNeedStates : Type 0
ShiftsDownNeedStates = (mode : Mode) (s t n : ℕ) (content : Content Sign) → IsContentOfRelation mode (Down s t n) content → 2 ^ n ≤ length content.states

-- S = pconst(n) has at least as many states as n has digits, since it counts the positions that agree
abbrev pub BitsNeedStates : Type 0
BitsNeedStates = (mode : Mode) (s n : ℕ) (content : Content Sign) → IsContentOfRelation mode (Bits s n) content → digits_of n ≤ length content.states

-- so what the making of a relation's machine may need, eight nodes for each state and for one more, is within the budget of its step
abbrev pub RelationsAreWithinBudget : Type 0
RelationsAreWithinBudget = (mode : Mode) (b : Basic) (m r : ℕ) → IsBasicMeasure mode b m r → 8 * (states_of b + 1) ≤ budget m r

-- and within the measure of the call that makes it
abbrev pub RelationsAreWithinMeasure : Type 0
RelationsAreWithinMeasure = (mode : Mode) (b : Basic) (m r : ℕ) → IsBasicMeasure mode b m r → 8 * (states_of b + 1) ≤ call_measure m r
