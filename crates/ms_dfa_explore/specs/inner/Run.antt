-- When the automaton of an exploration runs as a machine does.
use Rattle.std.specs.Prelude.{◌≡◌, ℕ, ◌<◌, Bool, false, true, List, length}
use Rattle.ms_arena.specs.Bits.{with_bit}
use Rattle.ms_arena.specs.Diagram.{Bits}
use Rattle.ms_arena.specs.Target.{Target}
use Rattle.ms_logic_words.specs.declared.sign.Sign.{Sign}
use Rattle.ms_logic.specs.Assignment.{Variable}
use Rattle.ms_logic_words.specs.Content.{HasValueAt, count_of, is_truth_value, is_in_letters, truth_bits, letter_bits}
use Rattle.ms_dfa.specs.Machine.{Machine}
use Rattle.ms_dfa_explore.specs.Explored.{Findings}

-- no two numbers are right at bits that differ in another variable alone
abbrev pub ReadsOnly : (ℕ → Type 0) → Target → Type 0
ReadsOnly Reads target =
    (var : ℕ) → ¬ Reads var → (bits : Bits) (one other : ℕ) → target (with_bit bits var false) one → target (with_bit bits var true) other → one ≡ other

-- each right number is that of a state that has been found; from the start only truth values matter, and from a state only
-- the bits of letters
pub record IsOver (variables : List Variable) (findings : Findings) : Type 0 where
  pub start_found : (bits : Bits) (number : ℕ) → findings.starts bits number → number < findings.count
  pub next_found : (state : ℕ) → state < findings.count → (bits : Bits) (number : ℕ) → findings.steps state bits number → number < findings.count
  pub start_reads : ReadsOnly (HasValueAt variables is_truth_value) findings.starts
  pub next_reads : (state : ℕ) → state < findings.count → ReadsOnly (HasValueAt variables is_in_letters) (findings.steps state)

-- the right numbers are names of the states of a machine: of its start, and of the state that a letter leads to from a state
-- with a name
pub record AreNames {State : Type 0} (variables : List Variable) (findings : Findings) (machine : Machine State) (sign : State → Sign) (IsName : ℕ → State → Type 0) : Type 0 where
  pub start :
      (truth : List Bool) (number : ℕ) → length truth ≡ count_of is_truth_value variables → findings.starts (truth_bits variables truth) number
      → IsName number (machine.start truth)
  pub next :
      (number : ℕ) (state : State) (letter : List Bool) (after : ℕ) → number < findings.count → IsName number state → length letter ≡ count_of is_in_letters variables
      → findings.steps number (letter_bits variables letter) after → IsName after (machine.step state letter)
  pub signs : (number : ℕ) (state : State) → number < findings.count → IsName number state → findings.sign_of number ≡ sign state
