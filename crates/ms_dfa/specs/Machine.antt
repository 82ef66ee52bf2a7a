-- Deterministic machines that read words letter by letter, and automata that follow them.
use Rattle.std.specs.Prelude.{◌≡◌, ℕ, suc, ◌<◌, Bool, List, [], ◌∷◌, length}
use Rattle.ms_list.specs.declared.word.Word.{Word}
use Rattle.ms_logic.specs.Assignment.{Env, Variable}
use Rattle.ms_logic_words.specs.Content.{Content, count_of, is_truth_value, is_in_letters, first_state, next_state}
use Rattle.ms_logic.specs.Letters.{truth_values_of, letter_at}

-- a state for the truth values that a word begins with, and from each state one for a letter
pub record Machine (State : Type 0) : Type 0 where
  pub start : List Bool → State
  pub step : State → List Bool → State

-- the state after letters
abbrev pub after : {State : Type 0} → Machine State → State → List (List Bool) → State
after machine state [] = state
after machine state (letter ∷ letters) = after machine (machine.step state letter) letters

-- the state at the end of a word
abbrev pub end_of : {State : Type 0} → Machine State → Word → State
end_of machine word = after machine (machine.start word.truth) word.letters

-- the machine of a content
abbrev pub machine_of : {Sign : Type 0} → Content Sign → Machine ℕ
machine_of content = record { start = first_state content; step = next_state content }

-- a relation between the states of a content and those of a machine that truth values and letters keep (a simulation)
pub record IsSimulation {Sign State : Type 0} (content : Content Sign) (machine : Machine State) (IsRelated : ℕ → State → Type 0) : Type 0 where
  pub start : (truth : List Bool) → length truth ≡ count_of is_truth_value content.variables → IsRelated (first_state content truth) (machine.start truth)
  pub next :
      (place : ℕ) (state : State) (letter : List Bool) → length letter ≡ count_of is_in_letters content.variables
      → IsRelated place state → IsRelated (next_state content place letter) (machine.step state letter)

-- a statement about the state of a machine that holds behind the letters of the positions below each number up to this
-- one, where the letters are those of an assignment
pub record IsScan {State : Type 0} (machine : Machine State) (variables : List Variable) (e : Env) (count : ℕ) (Holds : ℕ → State → Type 0) : Type 0 where
  pub start : Holds 0 (machine.start (truth_values_of variables e))
  pub next :
      (position : ℕ) (state : State) → position < count → Holds position state → Holds (suc position) (machine.step state (letter_at variables e position))
