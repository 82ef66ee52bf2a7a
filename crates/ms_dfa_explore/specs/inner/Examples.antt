-- A table, variables and words for worked examples.
use Rattle.std.specs.Prelude.{ℕ, nat_eq, Bool, if◌then◌else◌, List, [], ◌∷◌}
use Rattle.ms_list.specs.declared.word.Word.{Word}
use Rattle.ms_logic.specs.declared.mode.Order.TheVariants.{Zero, One, Two}
use Rattle.ms_logic_words.specs.declared.sign.Sign.TheVariants.{Yes, No}
use Rattle.ms_logic.specs.Assignment.{Variable}
use Rattle.ms_dfa_explore.specs.Small.{TransitionTable}

-- a truth value, a number and a set
abbrev pub one_of_each : List Variable
one_of_each = record { name = 0; order = Zero } ∷ record { name = 1; order = One } ∷ record { name = 2; order = Two } ∷ []

-- a truth value, that of the first track at the beginning, which each letter with the bit 1 for the third track turns over
abbrev pub flips : TransitionTable
flips = record {
  states = 2;
  start = λ bits. if bits.first then 1 else 0;
  step = λ state bits. if bits.third then (if nat_eq state 0 then 1 else 0) else state;
  sign = λ state. if nat_eq state 0 then No else Yes;
}

-- a word of one truth value
abbrev pub word : Bool → List (List Bool) → Word
word truth letters = record { truth = truth ∷ []; letters = letters }

-- a set by its number
abbrev pub set : ℕ → Variable
set name = record { name = name; order = Two }
