-- Machines whose states tell how many ones the numbers among their operands have had.
use Rattle.std.specs.Prelude.{◌≡◌, ◌≢◌, ◌⊎◌, ℕ, suc, ◌+◌, if◌then◌else◌, List, [], ◌∷◌}
use Rattle.ms_logic.specs.declared.mode.Order.{Order}
use Rattle.ms_logic.specs.declared.mode.Order.TheVariants.{Zero, One, Two}
use Rattle.ms_logic_words.specs.declared.sign.Sign.TheVariants.{Outside}
use Rattle.ms_logic.specs.Assignment.{Variable}
use Rattle.ms_dfa_explore.specs.declared.small.TrackBits.{TrackBits}
use Rattle.ms_dfa_explore.specs.Small.{TransitionTable, bit_at}

-- a state tells how many ones an operand has had, unless it is the state 0, which is never left and is Outside; and any other
-- sign than Outside tells of exactly one 1
pub record IsTally (table : TransitionTable) (operand : ℕ) (count : ℕ → ℕ) : Type 0 where
  pub start : (bits : TrackBits) → count (table.start bits) ≡ 0
  pub lost : (bits : TrackBits) → table.step 0 bits ≡ 0
  pub step :
      (state : ℕ) (bits : TrackBits)
      → (table.step state bits ≡ 0) ⊎ (count (table.step state bits) ≡ count state + (if bit_at bits operand then 1 else 0))
  pub sign : (state : ℕ) → table.sign state ≢ Outside → (state ≢ 0) × (count state ≡ 1)

abbrev pub HasTally : TransitionTable → ℕ → Type 0
HasTally table operand = (count : ℕ → ℕ) × IsTally table operand count

-- a fact of each operand of order 1
abbrev pub OnNumber : Order → Type 0 → Type 0
OnNumber Zero Fact = Unit {0}
OnNumber One Fact = Fact
OnNumber Two Fact = Unit {0}

abbrev pub OnNumbers : (ℕ → Type 0) → List Variable → Type 0
OnNumbers Fact [] = Unit {0}
OnNumbers Fact (v ∷ vs) = OnNumber v.order (Fact 0) × OnNumbers (λ operand. Fact (suc operand)) vs
