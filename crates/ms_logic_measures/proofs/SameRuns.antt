-- Contents with other signs or other numbers of variables, and the same states and nodes, run alike.
use Rattle.std.proofs.Common.{◌≡◌, ℕ, zero, suc, Bool, List, [], ◌∷◌, slice_get, refl, sym, ◌∙◌, ap, ◌↔◌}
use Rattle.ms_arena.specs.Diagram.{Bits, leaf_of}
use Rattle.ms_arena.proofs.BitsLemmas.{same_bits}
use Rattle.ms_list.specs.declared.word.Word.{Word}
use Rattle.ms_logic.specs.declared.assignment.Value.{Value}
use Rattle.ms_logic.specs.declared.assignment.Value.TheVariants.{Truth, Number, Set}
use Rattle.ms_logic.specs.Assignment.{Universe}
use Rattle.ms_logic_words.specs.inner.ContentExamples.{full_subset_content, encodings_content, subset_content}
use Rattle.ms_logic_measures.specs.CallMeasures.{LeaveSame, LeaveSameOfBoth, LeadToPairs}
use Rattle.ms_logic_words.specs.Content.{Content, is_in_letters, next_state, state_after, sign_of, sign_at, env_of, shortest_word, answer_by, answer_of}
use Rattle.ms_logic.specs.inner.Examples.{set_P_and_Q}
use Rattle.ms_logic_measures.specs.Starts.{Start, some_truth_values, whole_word, part_of_letter, IsStartOver, narrowed, with_free_bits, next_at, state_at, left_by}
use Rattle.ms_logic_measures.proofs.SubsetStarts.{only_state_left, subset_pairs}
use Rattle.ms_logic_measures.specs.inner.MeasuredContents.{turned_subset}
use Rattle.ms_logic_measures.specs.inner.MeasureExamples.{set_Q_and_P}
use Rattle.ms_logic_measures.proofs.Counting.{number_along}
use Rattle.ms_logic_measures.proofs.TurnedStarts.{turned_references}

-- contents whose states have the same next states run alike
same_runs : {A B : Type 0} (one : Content A) (other : Content B) → ((s : ℕ) (letter : List Bool) → next_state one s letter ≡ next_state other s letter)
    → (s : ℕ) (letters : List (List Bool)) → state_after one s letters ≡ state_after other s letters
same_runs one other next s [] = refl
same_runs one other next s (letter ∷ letters) =
    same_runs one other next (next_state one s letter) letters ∙ ap (λ k. state_after other k letters) (next s letter)

-- with the variables turned round
next-turned : (s : ℕ) (letter : List Bool) → next_state subset_content s letter ≡ next_state turned_subset s letter
unfolding leaf_of
next-turned zero letter = refl
next-turned (suc zero) letter = refl
next-turned (suc (suc s)) letter = refl

sign_of-turned : (w : Word) → sign_of subset_content w ≡ sign_of turned_subset w
unfolding leaf_of
sign_of-turned w = ap (sign_at subset_content) (same_runs subset_content turned_subset next-turned 0 w.letters)

-- two values are encoded by one word, whichever of the two has the greater number
same_word : (universe : Universe) (a b : Value) →
    shortest_word set_P_and_Q (env_of universe set_P_and_Q (a ∷ b ∷ [])) ≡ shortest_word set_Q_and_P (env_of universe set_Q_and_P (a ∷ b ∷ []))
same_word universe (Truth a) (Truth b) = refl
same_word universe (Truth a) (Number b) = refl
same_word universe (Truth a) (Set b) = refl
same_word universe (Number a) (Truth b) = refl
same_word universe (Number a) (Number b) = refl
same_word universe (Number a) (Set b) = refl
same_word universe (Set a) (Truth b) = refl
same_word universe (Set a) (Number b) = refl
same_word universe (Set a) (Set b) = refl

-- the answers at two values, which the turned content has in the other order
pub answer-turned : (universe : Universe) (a b : Value) →
    answer_of (λ said. said) subset_content universe (a ∷ b ∷ []) ≡ answer_of (λ said. said) turned_subset universe (a ∷ b ∷ [])
answer-turned universe a b =
    ap (answer_by (λ said. said)) (sign_of-turned (shortest_word set_P_and_Q (env_of universe set_P_and_Q (a ∷ b ∷ []))) ∙ ap (sign_of turned_subset) (same_word universe a b))

-- with the signs of a file
next-signs : (s : ℕ) (letter : List Bool) → next_state subset_content s letter ≡ next_state full_subset_content s letter
unfolding leaf_of
next-signs zero letter = refl
next-signs (suc zero) letter = refl
next-signs (suc (suc s)) letter = refl

state-signs : (w : Word) → state_at subset_content set_P_and_Q w ≡ state_at full_subset_content set_P_and_Q w
unfolding leaf_of
state-signs w = same_runs subset_content full_subset_content next-signs 0 (narrowed set_P_and_Q w set_P_and_Q).letters

next_at-signs : (s : ℕ) (bits : Bits) → next_at subset_content (slice_get subset_content.states s) bits ≡ next_at full_subset_content (slice_get full_subset_content.states s) bits
next_at-signs zero bits = refl
next_at-signs (suc zero) bits = refl
next_at-signs (suc (suc s)) bits = refl

left-signs : (start : Start) (rest : Bits) → left_by subset_content set_P_and_Q start rest ≡ left_by full_subset_content set_P_and_Q start rest
left-signs (some_truth_values values) rest = refl
left-signs (whole_word w) rest = state-signs w
left-signs (part_of_letter w bits) rest =
    ap (λ s. next_at subset_content (slice_get subset_content.states s) (with_free_bits is_in_letters set_P_and_Q bits set_P_and_Q rest)) (state-signs w)
    ∙ next_at-signs (state_at full_subset_content set_P_and_Q w) (with_free_bits is_in_letters set_P_and_Q bits set_P_and_Q rest)

-- the pairs of references of the file of P sub Q and of `true`
pub file_pairs : LeadToPairs subset_content encodings_content set_P_and_Q 4
file_pairs =
    number_along (LeaveSameOfBoth full_subset_content encodings_content set_P_and_Q) (LeaveSameOfBoth subset_content encodings_content set_P_and_Q) (IsStartOver set_P_and_Q) (IsStartOver set_P_and_Q) 4
    (λ one other. (λ alike. (λ rest. left-signs one rest ∙ (alike.0 rest ∙ sym (left-signs other rest)), alike.1), λ alike. (λ rest. sym (left-signs one rest) ∙ (alike.0 rest ∙ left-signs other rest), alike.1)))
    (λ start. (λ over. over, λ over. over))
    subset_pairs

-- the variables of the turned content are named as those of starts that are turned
state-turned : (w : Word) → state_at turned_subset set_P_and_Q w ≡ state_at full_subset_content set_Q_and_P w
unfolding leaf_of
state-turned w =
    let letters = (narrowed set_Q_and_P w set_P_and_Q).letters in
    sym (same_runs subset_content turned_subset next-turned 0 letters) ∙ same_runs subset_content full_subset_content next-signs 0 letters

next_at-turned : (s : ℕ) (bits : Bits) → next_at turned_subset (slice_get turned_subset.states s) bits ≡ next_at full_subset_content (slice_get full_subset_content.states s) bits
next_at-turned zero bits = refl
next_at-turned (suc zero) bits = refl
next_at-turned (suc (suc s)) bits = refl

-- the bits of one more letter, as the turned content takes them and as the other takes them turned
same_bits_read : (bits : List Bool) (rest : Bits) (place : ℕ) →
    with_free_bits is_in_letters set_P_and_Q bits set_Q_and_P rest place ≡ with_free_bits is_in_letters set_Q_and_P bits set_P_and_Q rest place
same_bits_read bits rest zero = refl
same_bits_read bits rest (suc zero) = refl
same_bits_read bits rest (suc (suc place)) = refl

left-turned : (start : Start) (rest : Bits) → left_by turned_subset set_P_and_Q start rest ≡ left_by full_subset_content set_Q_and_P start rest
unfolding leaf_of
left-turned (some_truth_values values) rest = refl
left-turned (whole_word w) rest = state-turned w
left-turned (part_of_letter w bits) rest =
    ap (λ s. next_at turned_subset (slice_get turned_subset.states s) (with_free_bits is_in_letters set_P_and_Q bits set_Q_and_P rest)) (state-turned w)
    ∙ (next_at-turned (state_at full_subset_content set_Q_and_P w) (with_free_bits is_in_letters set_P_and_Q bits set_Q_and_P rest)
    ∙ ap (next_at full_subset_content (slice_get full_subset_content.states (state_at full_subset_content set_Q_and_P w))) (same_bits (same_bits_read bits rest)))

-- a start over both variables in one order is one over them in the other
turned_start : (start : Start) → IsStartOver set_Q_and_P start ↔ IsStartOver set_P_and_Q start
turned_start (some_truth_values values) = (λ over. over, λ over. over)
turned_start (whole_word w) = (λ over. record { truth = over.truth; letters = over.letters }, λ over. record { truth = over.truth; letters = over.letters })
turned_start (part_of_letter w bits) =
    (λ over. (record { truth = over.0.truth; letters = over.0.letters }, over.1), λ over. (record { truth = over.0.truth; letters = over.0.letters }, over.1))

-- the pairs of references of the turned file and of `true`
pub turned_pairs : LeadToPairs turned_subset encodings_content set_P_and_Q 4
turned_pairs =
    number_along (LeaveSame full_subset_content set_Q_and_P) (LeaveSameOfBoth turned_subset encodings_content set_P_and_Q) (IsStartOver set_Q_and_P) (IsStartOver set_P_and_Q) 4
    (λ one other. (λ alike. (λ rest. left-turned one rest ∙ (alike rest ∙ sym (left-turned other rest)), λ rest. only_state_left one rest ∙ sym (only_state_left other rest)), λ alike rest. sym (left-turned one rest) ∙ (alike.0 rest ∙ left-turned other rest)))
    turned_start
    turned_references
