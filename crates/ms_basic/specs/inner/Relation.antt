-- When a machine over the bits of operands decides a basic relation, and the automaton that is made of it.
use Rattle.std.specs.Prelude.{◌≡◌, ℕ, ◌+◌, ◌*◌, ◌<◌, ◌≤◌, List, [], length, Result, IfOk}
use Rattle.ms_list.specs.declared.fault.StepFault.{StepFault}
use Rattle.ms_logic_core.specs.declared.core_formula.Basic.{Basic}
use Rattle.ms_logic.specs.declared.mode.Mode.{Mode}
use Rattle.ms_logic_words.specs.declared.sign.Sign.{Sign}
use Rattle.ms_logic_words.specs.declared.sign.Sign.TheVariants.{Yes, No, Undefined, Outside}
use Rattle.ms_logic.specs.Assignment.{Env, Variable, IsAssignment}
use Rattle.ms_logic_words.specs.Content.{Content}
use Rattle.ms_logic_words.specs.Residual.{AreReached, HaveDifferentResiduals}
use Rattle.ms_logic_core.specs.CoreForm.{Holds, basic}
use Rattle.ms_logic_words.specs.Word.{HasLength}
use Rattle.ms_logic.specs.Letters.{bound_of}
use Rattle.ms_dfa.specs.Values.{HasValues, core_meaning}
use Rattle.ms_dfa_explore.specs.Explored.{OnRefused}
use Rattle.ms_dfa_explore.specs.Small.{TransitionTable, IsClosedTable}
use Rattle.ms_dfa_explore.specs.Tracks.{distinct}
use Rattle.ms_basic.specs.declared.setting.Setting.{Setting}
use Rattle.ms_logic_core.specs.Operands.{variables_of_basic}
use Rattle.ms_basic.specs.inner.Reading.{state_behind}
use Rattle.ms_basic.specs.States.{states_of}
use Rattle.ms_basic.specs.inner.Tally.{HasTally, OnNumbers}

-- Yes is right where the fact holds, and No where it does not
abbrev pub IsRight : Type 0 → Sign → Type 0
IsRight Fact Yes = Fact
IsRight Fact No = ¬ Fact
IsRight Fact Undefined = ⊥
IsRight Fact Outside = ⊥

-- behind the letters of an assignment the sign tells whether the relation holds, and the states tell of each number of the
-- operands how many ones it has had
pub record DecidesRelation (mode : Mode) (operands : List Variable) (form : Basic) (table : TransitionTable) : Type 0 where
  pub closed : IsClosedTable table
  pub tallies : OnNumbers (HasTally table) operands
  pub right :
      (e : Env) (count : ℕ) → IsAssignment mode operands e → bound_of operands e ≤ count → HasLength e.universe count
      → IsRight (Holds form e) (table.sign (state_behind table operands e count))

-- the automaton of a basic relation over its variables
pub record IsOfRelation (mode : Mode) (form : Basic) (made : Content Sign) : Type 0 where
  pub universe : made.mode ≡ mode
  pub variables : made.variables ≡ distinct (variables_of_basic form)
  pub values : HasValues (core_meaning [] (basic form)) made

-- a relation has been made into an automaton within the limit, whose states are all reached and no two of them alike, or it has not: for want
-- of memory, or where the limit is below eight for each of so many states and for the start
pub record IsMade (mode : Mode) (form : Basic) (limit states : ℕ) (result : Result (Content Sign) StepFault) : Type 0 where
  pub made : IfOk result (IsOfRelation mode form)
  pub differ : IfOk result HaveDifferentResiduals
  pub reached : IfOk result AreReached
  pub within : IfOk result (λ made. length made.nodes + length made.states ≤ limit)
  pub nodes : OnRefused result (λ refused. (refused ≡ limit) × (limit < 8 * (states + 1)))

-- the same with the states of the relation's own machine
abbrev pub IsMadeUnder : Setting → Basic → Result (Content Sign) StepFault → Type 0
IsMadeUnder setting form result = IsMade setting.mode form setting.limit (states_of form) result
