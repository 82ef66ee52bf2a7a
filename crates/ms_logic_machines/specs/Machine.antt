-- A finite automaton over words, as functions: its states are the numbers below a count.
use Rattle.std.specs.Prelude.{◌≡◌, ◌⊎◌, ℕ, ◌<◌, Bool, List, [], ◌∷◌}
use Rattle.ms_list.specs.declared.word.Word.{Word}

pub record Machine (Sign : Type 0) : Type 0 where
  pub count : ℕ
  -- the state to which truth values lead
  pub start : List Bool → ℕ
  -- the state to which a letter leads from a state
  pub next : ℕ → List Bool → ℕ
  pub sign : ℕ → Sign
  pub start_below : (truth : List Bool) → start truth < count
  pub next_below : (state : ℕ) (letter : List Bool) → state < count → next state letter < count

-- the state after letters
abbrev pub machine_after : {Sign : Type 0} → Machine Sign → ℕ → List (List Bool) → ℕ
machine_after machine state [] = state
machine_after machine state (letter ∷ letters) = machine_after machine (machine.next state letter) letters

-- the sign of a word: that of the last state of its run
abbrev pub machine_sign : {Sign : Type 0} → Machine Sign → Word → Sign
machine_sign machine word = machine.sign (machine_after machine (machine.start word.truth) word.letters)

-- of any two it is decided whether they are equal
abbrev pub IsTested : Type 0 → Type 0
IsTested A = (one other : A) → (one ≡ other) ⊎ ¬ (one ≡ other)
