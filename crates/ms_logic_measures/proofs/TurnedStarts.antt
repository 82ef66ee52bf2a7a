-- The references to which starts over Q and P lead the content of P sub Q.
use Rattle.std.proofs.Common.{◌≡◌, ℕ, ◌<◌, Bool, true, false, cond, List, [], ◌∷◌, length, slice_get, Any, refl, sym, ◌∙◌, ap, arith}
use Rattle.std.proofs.lemmas.List.Elements.{All-from_recursion}
use Rattle.ms_arena.specs.Diagram.{Bits, leaf_of}
use Rattle.ms_list.specs.declared.word.Word.{Word}
use Rattle.ms_logic_words.specs.inner.ContentExamples.{full_subset_content, word}
use Rattle.ms_logic_measures.specs.CallMeasures.{LeaveSame, LeadsToReferences}
use Rattle.ms_logic_words.specs.Content.{is_in_letters}
use Rattle.ms_logic.specs.inner.Examples.{set_P_and_Q}
use Rattle.ms_logic_measures.specs.Starts.{Start, some_truth_values, whole_word, part_of_letter, IsStartOver, with_free_bits, state_at, next_at, left_by}
use Rattle.ms_logic_measures.proofs.SubsetStarts.{from_P, inside, no_bit_read, rest_of, state_after_word}
use Rattle.ms_logic_measures.specs.inner.MeasureExamples.{set_Q_and_P}
use Rattle.ms_logic_measures.proofs.Counting.{of_each_pair, not_0_1, not_1_0}

-- the four starts: the empty word, P = {0} with Q = {}, and one letter of which no bit, or the bit 0 for Q, is read
abbrev outside : Start
outside = whole_word (word [] ((false ∷ true ∷ []) ∷ []))

abbrev zero_read : Start
zero_read = part_of_letter (word [] []) (false ∷ [])

abbrev four : List Start
four = inside ∷ outside ∷ no_bit_read ∷ zero_read ∷ []

-- what a start in the midst of a letter leaves, from a state
abbrev from_state : ℕ → List Bool → Bits → ℕ
from_state s bits rest =
    next_at full_subset_content (slice_get full_subset_content.states s) (with_free_bits is_in_letters set_Q_and_P bits set_P_and_Q rest)

left_in_letter : (w : Word) (bits : List Bool) (s : ℕ) → state_at full_subset_content set_Q_and_P w ≡ s → (rest : Bits) →
    left_by full_subset_content set_Q_and_P (part_of_letter w bits) rest ≡ from_state s bits rest
left_in_letter w bits s is rest = ap (λ state. from_state state bits rest) is

different : (one other : Start) (p q : Bool) (a b : ℕ) → left_by full_subset_content set_Q_and_P one (rest_of p q) ≡ a →
    left_by full_subset_content set_Q_and_P other (rest_of p q) ≡ b → (a ≡ b → ⊥) → LeaveSame full_subset_content set_Q_and_P one other → ⊥
different one other p q a b is_a is_b differ alike = differ (sym is_a ∙ (alike (rest_of p q) ∙ is_b))

abbrev IsLikeOne : Start → Type 0
IsLikeOne start = Any (λ one. LeaveSame full_subset_content set_Q_and_P start one) four

like_word : (w : Word) (within : Bool) → state_at full_subset_content set_Q_and_P w ≡ cond within 0 1 → IsLikeOne (whole_word w)
unfolding leaf_of
like_word w true is = (0, inside, omega arith, refl, (λ rest. is))
like_word w false is = (1, outside, omega arith, refl, (λ rest. is))

like_part : (w : Word) (bits : List Bool) (within : Bool) → state_at full_subset_content set_Q_and_P w ≡ cond within 0 1 → length bits < 2 → IsLikeOne (part_of_letter w bits)
unfolding leaf_of
like_part w bits false is few = (1, outside, omega arith, refl, (λ rest. left_in_letter w bits 1 is rest))
like_part w [] true is few = (2, no_bit_read, omega arith, refl, (λ rest. left_in_letter w [] 0 is rest))
like_part w (false ∷ []) true is few = (3, zero_read, omega arith, refl, (λ rest. left_in_letter w (false ∷ []) 0 is rest))
-- once Q has the position, P may have it or not
like_part w (true ∷ []) true is few =
    (0, inside, omega arith, refl, (λ rest. left_in_letter w (true ∷ []) 0 is rest ∙ (from_P (with_free_bits is_in_letters set_Q_and_P (true ∷ []) set_P_and_Q rest) (rest 0) true refl refl ∙ either (rest 0))))
  where
    either : (p : Bool) → ◌≡◌ {A = ℕ} (cond p (cond true 0 1) 0) 0
    either true = refl
    either false = refl
like_part w (a ∷ b ∷ more) true is few = absurd (omega arith)

complete : (start : Start) → IsStartOver set_Q_and_P start → IsLikeOne start
complete (some_truth_values values) over = absurd (omega (arith, over))
complete (whole_word w) over = let after = state_after_word set_Q_and_P w in like_word w after.0 after.1
complete (part_of_letter w bits) over = let after = state_after_word set_Q_and_P w in like_part w bits after.0 after.1 over.1

-- P sub Q has four references over Q and P too
pub turned_references : LeadsToReferences full_subset_content set_Q_and_P 4
unfolding leaf_of rest_of
turned_references = record {
  chosen = four;
  items = All-from_recursion (IsStartOver set_Q_and_P) four
      (record { truth = refl; letters = tt }, (record { truth = refl; letters = (refl, tt) }, ((record { truth = refl; letters = tt }, omega arith), ((record { truth = refl; letters = tt }, omega arith), tt))));
  different = of_each_pair (λ one other. LeaveSame full_subset_content set_Q_and_P one other → ⊥) four (
    (different inside outside true false 0 1 refl refl not_0_1, (different inside no_bit_read true false 0 1 refl refl not_0_1, (different inside zero_read true false 0 1 refl refl not_0_1, tt))),
    (
      (different outside no_bit_read false false 1 0 refl refl not_1_0, (different outside zero_read false false 1 0 refl refl not_1_0, tt)),
      ((different no_bit_read zero_read true true 0 1 refl refl not_0_1, tt), (tt, tt)),
    ),
  );
  complete = complete;
  count = refl;
}
