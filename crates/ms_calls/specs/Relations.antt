-- A law of the automata of basic relations, by the full contents in which each place has a variable of its own.
use Rattle.std.specs.Prelude.{◌≡◌, ℕ, ◌≤◌, []}
use Rattle.ms_basic.specs.Operands.{HaveOneOrder}
use Rattle.ms_dfa.specs.Automaton.{IsAutomaton}
use Rattle.ms_dfa.specs.Values.{HasValues, core_meaning}
use Rattle.ms_dfa_explore.specs.Tracks.{distinct}
use Rattle.ms_logic.specs.declared.mode.Mode.{Mode}
use Rattle.ms_logic_core.specs.CoreForm.{basic}
use Rattle.ms_logic_core.specs.Operands.{variables_of_basic}
use Rattle.ms_logic_core.specs.declared.core_formula.Basic.{Basic}
use Rattle.ms_logic_measures.specs.CallMeasures.{HasReachedParts, IsBasicMeasure}
use Rattle.ms_logic_words.specs.Content.{Content}
use Rattle.ms_logic_words.specs.Residual.{HaveDifferentResiduals}
use Rattle.ms_logic_words.specs.declared.sign.Sign.{Sign}

-- what `basic` gives: an automaton of the relation over its variables, no two states of which have equal residuals
pub record IsAutomatonOfRelation (mode : Mode) (b : Basic) (made : Content Sign) : Type 0 where
  pub automaton : IsAutomaton made
  pub universe : made.mode ≡ mode
  pub variables : made.variables ≡ distinct (variables_of_basic b)
  pub values : HasValues (core_meaning [] (basic b)) made
  pub differ : HaveDifferentResiduals made

-- starts lead it to no more references than the number m of the measure, also where operands repeat
abbrev pub RelationsHaveFewParts : Type 0
RelationsHaveFewParts =
    (mode : Mode) (b : Basic) (made : Content Sign) → HaveOneOrder (variables_of_basic b) → IsAutomatonOfRelation mode b made
    → (m r : ℕ) → IsBasicMeasure mode b m r → (n : ℕ) → HasReachedParts made n → n ≤ m
