-- The references to which starts over P and Q lead the contents of P sub Q and of `true`.
use Rattle.std.proofs.Common.{◌≡◌, ℕ, zero, suc, ◌<◌, Bool, true, false, cond, List, [], ◌∷◌, length, map, slice_get, slice_index_or, Any, refl, sym, ◌∙◌, ap, arith}
use Rattle.ms_arena.specs.declared.node.Ref.TheVariants.{Inner}
use Rattle.ms_arena.specs.Diagram.{Bits, leaf_of}
use Rattle.ms_list.specs.declared.word.Word.{Word}
use Rattle.ms_logic.specs.declared.mode.Mode.TheVariants.{Ws1s}
use Rattle.ms_logic_words.specs.inner.ContentExamples.{full_subset_content, encodings_content, word}
use Rattle.ms_logic_measures.specs.CallMeasures.{IsNumberOf, LeaveSame, LeadsToReferences, LeadToPairs, no_restriction}
use Rattle.ms_logic_words.specs.Content.{AreLetters, is_in_letters, state_after}
use Rattle.ms_logic.specs.Assignment.{Variable}
use Rattle.ms_logic.specs.inner.Examples.{set_P_and_Q}
use Rattle.ms_logic_measures.specs.Starts.{Start, some_truth_values, whole_word, part_of_letter, IsStartOver, bits_for, narrowed, with_free_bits, state_at, next_at, left_by}
use Rattle.ms_logic_words.proofs.SubsetRuns.{last_of_subset, last_of_true}
use Rattle.ms_logic_words.proofs.SubsetWords.{is_within}

-- the four starts: the empty word, P = {0} with Q = {}, and one letter of which no bit, or the bit 1 for P, is read
abbrev pub inside : Start
inside = whole_word (word [] [])

abbrev outside : Start
outside = whole_word (word [] ((true ∷ false ∷ []) ∷ []))

abbrev pub no_bit_read : Start
no_bit_read = part_of_letter (word [] []) []

abbrev one_bit_read : Start
one_bit_read = part_of_letter (word [] []) (true ∷ [])

abbrev four : List Start
four = inside ∷ outside ∷ no_bit_read ∷ one_bit_read ∷ []

pub letters_for : (variables : List Variable) (letters : List (List Bool)) → AreLetters set_P_and_Q (map (λ letter. bits_for is_in_letters variables letter set_P_and_Q) letters)
letters_for variables [] = tt
letters_for variables (letter ∷ letters) = (refl, letters_for variables letters)

-- the state after a word over both variables, in either order: 0 or 1
pub state_after_word : (variables : List Variable) (w : Word) → (within : Bool) × (state_at full_subset_content variables w ≡ cond within 0 1)
state_after_word variables w =
    let letters = map (λ letter. bits_for is_in_letters variables letter set_P_and_Q) w.letters in
    (is_within letters, last_of_subset (narrowed variables w set_P_and_Q) (record { truth = refl; letters = letters_for variables w.letters }))

-- the references of the first state and of the second
pub from_P : (bits : Bits) (p q : Bool) → bits 0 ≡ p → bits 1 ≡ q → leaf_of full_subset_content.nodes (Inner 1) bits ≡ cond p (cond q 0 1) 0
unfolding leaf_of
from_P bits true true is_p is_q = rw is_p (rw is_q refl)
from_P bits true false is_p is_q = rw is_p (rw is_q refl)
from_P bits false q is_p is_q = rw is_p refl

abbrev pub bits_of_letter : List Bool → Bits → Bits
bits_of_letter bits rest = with_free_bits is_in_letters set_P_and_Q bits set_P_and_Q rest

-- what the four starts leave
left_inside : (rest : Bits) → left_by full_subset_content set_P_and_Q inside rest ≡ 0
unfolding leaf_of
left_inside rest = refl

left_outside : (rest : Bits) → left_by full_subset_content set_P_and_Q outside rest ≡ 1
unfolding leaf_of
left_outside rest = refl

-- what a start in the midst of a letter leaves, from the state 0 and from the state 1
abbrev pub from_state : ℕ → List Bool → Bits → ℕ
from_state s bits rest = next_at full_subset_content (slice_get full_subset_content.states s) (bits_of_letter bits rest)

left_in_letter : (w : Word) (bits : List Bool) (s : ℕ) → state_at full_subset_content set_P_and_Q w ≡ s → (rest : Bits) →
    left_by full_subset_content set_P_and_Q (part_of_letter w bits) rest ≡ from_state s bits rest
left_in_letter w bits s is rest = ap (λ state. from_state state bits rest) is

left_at_start : (bits : List Bool) (rest : Bits) → left_by full_subset_content set_P_and_Q (part_of_letter (word [] []) bits) rest ≡ from_state 0 bits rest
unfolding leaf_of
left_at_start bits rest = refl

pub from_state_1 : (bits : List Bool) (rest : Bits) → from_state 1 bits rest ≡ 1
unfolding leaf_of
from_state_1 bits rest = refl

-- what is left for each letter
unfoldable pub rest_of : Bool → Bool → Bits
rest_of p q zero = p
rest_of p q (suc place) = q

left_no_bit : (p q : Bool) → left_by full_subset_content set_P_and_Q no_bit_read (rest_of p q) ≡ cond p (cond q 0 1) 0
unfolding rest_of
left_no_bit p q = left_at_start [] (rest_of p q) ∙ from_P (bits_of_letter [] (rest_of p q)) p q refl refl

left_one_bit : (p q : Bool) → left_by full_subset_content set_P_and_Q one_bit_read (rest_of p q) ≡ cond q 0 1
unfolding rest_of
left_one_bit p q = left_at_start (true ∷ []) (rest_of p q) ∙ from_P (bits_of_letter (true ∷ []) (rest_of p q)) true q refl refl

-- two starts that leave different states at some bits are not alike
differ_at : (one other : Start) (rest : Bits) (a b : ℕ) → left_by full_subset_content set_P_and_Q one rest ≡ a →
    left_by full_subset_content set_P_and_Q other rest ≡ b → (a ≡ b → ⊥) → LeaveSame full_subset_content set_P_and_Q one other → ⊥
differ_at one other rest a b is_a is_b differ alike = differ (sym is_a ∙ (alike rest ∙ is_b))

items : (k : ℕ) (d : Start) → k < 4 → IsStartOver set_P_and_Q (slice_index_or four k d)
items zero d below = record { truth = refl; letters = tt }
items (suc zero) d below = record { truth = refl; letters = (refl, tt) }
items (suc (suc zero)) d below = (record { truth = refl; letters = tt }, omega arith)
items (suc (suc (suc zero))) d below = (record { truth = refl; letters = tt }, omega arith)
items (suc (suc (suc (suc k)))) d below = absurd (omega arith)

different : (i j : ℕ) (d : Start) → i < j → j < 4 →
    LeaveSame full_subset_content set_P_and_Q (slice_index_or four i d) (slice_index_or four j d) → ⊥
different i zero d below within = absurd (omega arith)
different zero (suc zero) d below within =
    differ_at inside outside (rest_of false false) 0 1 (left_inside (rest_of false false)) (left_outside (rest_of false false)) (λ same. omega (arith, same))
different zero (suc (suc zero)) d below within =
    differ_at inside no_bit_read (rest_of true false) 0 1 (left_inside (rest_of true false)) (left_no_bit true false) (λ same. omega (arith, same))
different zero (suc (suc (suc zero))) d below within =
    differ_at inside one_bit_read (rest_of true false) 0 1 (left_inside (rest_of true false)) (left_one_bit true false) (λ same. omega (arith, same))
different (suc zero) (suc zero) d below within = absurd (omega arith)
different (suc zero) (suc (suc zero)) d below within =
    differ_at outside no_bit_read (rest_of false false) 1 0 (left_outside (rest_of false false)) (left_no_bit false false) (λ same. omega (arith, same))
different (suc zero) (suc (suc (suc zero))) d below within =
    differ_at outside one_bit_read (rest_of true true) 1 0 (left_outside (rest_of true true)) (left_one_bit true true) (λ same. omega (arith, same))
different (suc (suc i)) (suc zero) d below within = absurd (omega arith)
different (suc (suc zero)) (suc (suc zero)) d below within = absurd (omega arith)
different (suc (suc zero)) (suc (suc (suc zero))) d below within =
    differ_at no_bit_read one_bit_read (rest_of false false) 0 1 (left_no_bit false false) (left_one_bit false false) (λ same. omega (arith, same))
different (suc (suc (suc i))) (suc (suc zero)) d below within = absurd (omega arith)
different (suc (suc (suc i))) (suc (suc (suc zero))) d below within = absurd (omega arith)
different i (suc (suc (suc (suc j)))) d below within = absurd (omega arith)

abbrev IsLikeOne : Start → Type 0
IsLikeOne start = Any (λ one. LeaveSame full_subset_content set_P_and_Q start one) four

like_word : (w : Word) (within : Bool) → state_at full_subset_content set_P_and_Q w ≡ cond within 0 1 → IsLikeOne (whole_word w)
like_word w true is = (0, inside, omega arith, refl, (λ rest. is ∙ sym (left_inside rest)))
like_word w false is = (1, outside, omega arith, refl, (λ rest. is ∙ sym (left_outside rest)))

like_part : (w : Word) (bits : List Bool) (within : Bool) → state_at full_subset_content set_P_and_Q w ≡ cond within 0 1 → length bits < 2 → IsLikeOne (part_of_letter w bits)
like_part w bits false is few =
    (1, outside, omega arith, refl, (λ rest. left_in_letter w bits 1 is rest ∙ (from_state_1 bits rest ∙ sym (left_outside rest))))
like_part w [] true is few =
    (2, no_bit_read, omega arith, refl, (λ rest. left_in_letter w [] 0 is rest ∙ sym (left_at_start [] rest)))
like_part w (true ∷ []) true is few =
    (3, one_bit_read, omega arith, refl, (λ rest. left_in_letter w (true ∷ []) 0 is rest ∙ sym (left_at_start (true ∷ []) rest)))
like_part w (false ∷ []) true is few =
    (0, inside, omega arith, refl, (λ rest. left_in_letter w (false ∷ []) 0 is rest ∙ (from_P (bits_of_letter (false ∷ []) rest) false (rest 1) refl refl ∙ sym (left_inside rest))))
like_part w (a ∷ b ∷ more) true is few = absurd (omega arith)

complete : (start : Start) → IsStartOver set_P_and_Q start → IsLikeOne start
complete (some_truth_values values) over = absurd (omega (arith, over))
complete (whole_word w) over = let after = state_after_word set_P_and_Q w in like_word w after.0 after.1
complete (part_of_letter w bits) over = let after = state_after_word set_P_and_Q w in like_part w bits after.0 after.1 over.1

-- P sub Q has four references
pub subset_references : LeadsToReferences full_subset_content set_P_and_Q 4
subset_references = record { chosen = four; items = items; different = different; complete = complete; count = refl }

-- where alike items are alike in a second way too, there are as many by both ways together
pub number_of_both : {A : Type 0} (AreAlike AreAlikeToo : A → A → Type 0) (IsItem : A → Type 0) (n : ℕ) →
    ((one other : A) → AreAlike one other → AreAlikeToo one other) → IsNumberOf AreAlike IsItem n → IsNumberOf (λ one other. AreAlike one other × AreAlikeToo one other) IsItem n
number_of_both AreAlike AreAlikeToo IsItem n implies counted = record {
  chosen = counted.chosen;
  items = counted.items;
  different = λ i j d below within alike. counted.different i j d below within alike.0;
  complete = λ item is. let like = counted.complete item is in (like.0, like.1, like.2, like.3, (like.4, implies item like.1 like.4));
  count = counted.count;
}

-- what is left of the content of `true` is its one state
pub only_state_left : (start : Start) (rest : Bits) → left_by encodings_content set_P_and_Q start rest ≡ 0
unfolding leaf_of
only_state_left (some_truth_values values) rest = refl
only_state_left (whole_word w) rest = last_of_true (narrowed set_P_and_Q w set_P_and_Q)
only_state_left (part_of_letter w bits) rest =
    ap (λ s. next_at encodings_content (slice_get encodings_content.states s) (with_free_bits is_in_letters set_P_and_Q bits set_P_and_Q rest)) (last_of_true (narrowed set_P_and_Q w set_P_and_Q))

-- the pairs of references of P sub Q and of `true`
pub subset_pairs : LeadToPairs full_subset_content encodings_content set_P_and_Q 4
subset_pairs =
    number_of_both (LeaveSame full_subset_content set_P_and_Q) (LeaveSame encodings_content set_P_and_Q) (IsStartOver set_P_and_Q) 4 (λ one other alike rest. only_state_left one rest ∙ sym (only_state_left other rest)) subset_references

-- the pairs of references of P sub Q and of itself
pub subset_twice : LeadToPairs full_subset_content full_subset_content set_P_and_Q 4
subset_twice =
    number_of_both (LeaveSame full_subset_content set_P_and_Q) (LeaveSame full_subset_content set_P_and_Q) (IsStartOver set_P_and_Q) 4 (λ one other alike. alike) subset_references

-- a missing restriction is led to its one state
pub only_state : (letters : List (List Bool)) → state_after (no_restriction Ws1s) 0 letters ≡ 0
unfolding leaf_of
only_state [] = refl
only_state (letter ∷ letters) = only_state letters

same_only_state : (w v : Word) → LeaveSame (no_restriction Ws1s) [] (whole_word w) (whole_word v)
unfolding leaf_of
same_only_state w v rest = only_state (narrowed [] w []).letters ∙ sym (only_state (narrowed [] v []).letters)

any_word : (k : ℕ) (d : Start) → k < 1 → IsStartOver [] (slice_index_or (inside ∷ []) k d)
any_word zero d below = record { truth = refl; letters = tt }
any_word (suc k) d below = absurd (omega arith)

like_inside : (start : Start) → IsStartOver [] start → Any (λ one. LeaveSame (no_restriction Ws1s) [] start one) (inside ∷ [])
like_inside (some_truth_values values) over = absurd (omega (arith, over))
like_inside (whole_word w) over = (0, inside, omega arith, refl, same_only_state w (word [] []))
like_inside (part_of_letter w bits) over = absurd (let few = over.1 in omega (arith, few))

pub one_reference : LeadsToReferences (no_restriction Ws1s) [] 1
one_reference = record { chosen = inside ∷ []; items = any_word; different = λ i j d below within alike. omega arith; complete = like_inside; count = refl }
