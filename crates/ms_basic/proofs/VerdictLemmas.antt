-- How many ones a number has had, by the state.
use Rattle.std.proofs.Common.{◌≡◌, ◌≢◌, ◌⊎◌, ℕ, zero, suc, ◌+◌, Bool, if◌then◌else◌, refl, subst, arith}
use Rattle.ms_logic_words.specs.declared.sign.Sign.{Sign}
use Rattle.ms_logic_words.specs.declared.sign.Sign.TheVariants.{Outside}
use Rattle.ms_dfa_explore.specs.declared.small.TrackBits.{TrackBits}
use Rattle.ms_dfa_explore.specs.Small.{TransitionTable, bit_at}
use Rattle.ms_basic.specs.inner.Tally.{IsTally}
use Rattle.ms_basic.specs.Verdict.{sign_by_verdict}

-- where the states behind its 1 are 1 and 2
abbrev pub count_met : ℕ → ℕ
count_met zero = 0
count_met (suc zero) = 1
count_met (suc (suc zero)) = 1
count_met (suc (suc (suc more))) = 0

-- how many ones each of two has had, where the first has been met alone in the state 4, and the second in those from 5 on
abbrev pub count_first : ℕ → ℕ
count_first zero = 0
count_first (suc zero) = 1
count_first (suc (suc zero)) = 1
count_first (suc (suc (suc zero))) = 0
count_first (suc (suc (suc (suc zero)))) = 1
count_first (suc (suc (suc (suc (suc more))))) = 0

abbrev pub count_second : ℕ → ℕ
count_second zero = 0
count_second (suc zero) = 1
count_second (suc (suc zero)) = 1
count_second (suc (suc (suc zero))) = 0
count_second (suc (suc (suc (suc zero)))) = 0
count_second (suc (suc (suc (suc (suc more))))) = 1

-- a step loses the word, or counts the one of its bit
abbrev pub IsCounted : (ℕ → ℕ) → Bool → ℕ → ℕ → Type 0
IsCounted count bit state next = (next ≡ 0) ⊎ (count next ≡ count state + (if bit then 1 else 0))

-- in a machine with these signs a count that is 1 in the states 1 and 2 tells of the ones of an operand
pub tally_by_verdict : (table : TransitionTable) (operand : ℕ) (count : ℕ → ℕ) → table.sign ≡ sign_by_verdict → count 1 ≡ 1 → count 2 ≡ 1
    → ((bits : TrackBits) → count (table.start bits) ≡ 0) → ((bits : TrackBits) → table.step 0 bits ≡ 0)
    → ((state : ℕ) (bits : TrackBits) → IsCounted count (bit_at bits operand) state (table.step state bits)) → IsTally table operand count
tally_by_verdict table operand count signs holds fails start lost step = record {
  start = start;
  lost = lost;
  step = step;
  sign = λ state inside. signed state (subst (λ (sign : ℕ → Sign). sign state ≢ Outside) signs inside);
}
  where
    signed : (state : ℕ) → sign_by_verdict state ≢ Outside → (state ≢ 0) × (count state ≡ 1)
    signed zero inside = absurd (inside refl)
    signed (suc zero) inside = (omega arith, holds)
    signed (suc (suc zero)) inside = (omega arith, fails)
    signed (suc (suc (suc more))) inside = absurd (inside refl)
