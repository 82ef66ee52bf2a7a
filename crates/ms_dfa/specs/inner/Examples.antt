-- A function, a machine, variables and a word for worked examples.
use Rattle.std.specs.Prelude.{ℕ, ◌+◌, Bool, true, false, if◌then◌else◌, List, [], ◌∷◌}
use Rattle.ms_list.specs.declared.word.Word.{Word}
use Rattle.ms_arena.specs.Diagram.{Bits}
use Rattle.ms_logic.specs.declared.mode.Order.TheVariants.{Zero, One, Two}
use Rattle.ms_logic.specs.Assignment.{Variable}
use Rattle.ms_logic_words.specs.Content.{head_bit}
use Rattle.ms_dfa.specs.Machine.{Machine}

-- 1 where the variable 1 has the bit 1, and else 0
abbrev pub choice : Bits → ℕ
choice bits = if bits 1 then 1 else 0

-- whether two bits are one
abbrev pub is_same : Bool → Bool → Bool
is_same true bit = bit
is_same false true = false
is_same false false = true

-- how often the first bit has changed, and which it was last; 0 at the beginning
abbrev pub changes : Machine (ℕ × Bool)
changes = record {
  start = λ truth. (0, false);
  step = λ state letter. (if is_same state.1 (head_bit letter) then state.0 else state.0 + 1, head_bit letter);
}

-- a truth value, a number and two sets
abbrev pub truth_and_sets : List Variable
truth_and_sets =
    record { name = 0; order = Zero } ∷ record { name = 1; order = One } ∷ record { name = 2; order = Two } ∷ record { name = 3; order = Two } ∷ []

-- the truth value true, the number 1, the set of 0 and 2, and the set of 1 and 2
abbrev pub word_of_three : Word
word_of_three = record {
  truth = true ∷ [];
  letters = (false ∷ true ∷ false ∷ []) ∷ (true ∷ false ∷ true ∷ []) ∷ (false ∷ true ∷ true ∷ []) ∷ [];
}

-- a set
abbrev pub seen : Variable
seen = record { name = 7; order = Two }

-- a truth value and a set
abbrev pub truth_and_set : List Variable
truth_and_set = record { name = 7; order = Zero } ∷ record { name = 8; order = Two } ∷ []
