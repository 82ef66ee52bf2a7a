-- The sets of references to which starts over P lead the content of P sub Q, over all values of Q.
use Rattle.std.proofs.Common.{◌≡◌, ℕ, zero, suc, ◌<◌, Bool, true, false, cond, ◌||◌, List, [], ◌∷◌, ◌++◌, length, map, slice_get, slice_index_or, Any, refl, sym, ◌∙◌, ap, arith}
use Rattle.std.specs.List.{zip}
use Rattle.std.proofs.lemmas.Bool.{false≢true}
use Rattle.ms_arena.specs.Diagram.{Bits, leaf_of}
use Rattle.ms_list.specs.declared.word.Word.{Word}
use Rattle.ms_logic.specs.declared.mode.Mode.TheVariants.{Ws1s}
use Rattle.ms_logic.specs.declared.mode.Order.TheVariants.{Two}
use Rattle.ms_logic.specs.Assignment.{Variable}
use Rattle.ms_logic_words.specs.inner.ContentExamples.{full_subset_content, word}
use Rattle.ms_logic_measures.specs.CallMeasures.{LeaveSame, LeadToPairs, LeadsWhere, LeadToSameSet, IsProjectMeasure, word_with, no_restriction}
use Rattle.ms_logic_words.specs.Content.{IsWordOver, AreLetters, is_in_letters, head_bit}
use Rattle.ms_logic.specs.inner.Examples.{set_P_and_Q, variable}
use Rattle.ms_logic_measures.specs.Starts.{Start, some_truth_values, whole_word, part_of_letter, IsStartOver, bits_for, narrowed, with_free_bits, state_at, next_at, left_by}
use Rattle.ms_logic_words.proofs.SubsetRuns.{last_of_subset}
use Rattle.ms_logic_words.proofs.SubsetWords.{is_within}
use Rattle.ms_logic_measures.proofs.SubsetStarts.{number_of_both, letters_for, only_state, bits_of_letter, rest_of, from_P, from_state, from_state_1, subset_references, one_reference}

abbrev just_P : List Variable
just_P = variable 0 Two ∷ []

abbrev set_Q : Variable
set_Q = variable 1 Two

-- the letters of a word over P with bits for Q
abbrev with_Q : List (List Bool) → List Bool → List (List Bool)
with_Q letters bits = map (λ p. p.0 ++ p.1 ∷ []) (zip letters bits)

-- they have one bit for P and one for Q
kept_letters : (letters : List (List Bool)) (bits : List Bool) → AreLetters just_P letters →
    map (λ letter. bits_for is_in_letters set_P_and_Q letter set_P_and_Q) (with_Q letters bits) ≡ with_Q letters bits
kept_letters [] bits are = refl
kept_letters ([] ∷ letters) bits are = absurd (let short = are.0 in omega (arith, short))
kept_letters ((a ∷ b ∷ more) ∷ letters) bits are = absurd (let long = are.0 in omega (arith, long))
kept_letters ((a ∷ []) ∷ letters) [] are = refl
kept_letters ((a ∷ []) ∷ letters) (b ∷ bits) are = ap (λ rest. (a ∷ b ∷ []) ∷ rest) (kept_letters letters bits are.1)

-- the state after a word over P with bits for Q
state_with : (w : Word) (bits : List Bool) → IsWordOver just_P w → state_at full_subset_content set_P_and_Q (word_with Two bits w) ≡ cond (is_within (with_Q w.letters bits)) 0 1
state_with w bits over =
    last_of_subset (narrowed set_P_and_Q (word_with Two bits w) set_P_and_Q) (record { truth = refl; letters = letters_for set_P_and_Q (with_Q w.letters bits) })
    ∙ ap (λ letters. cond (is_within letters) 0 1) (kept_letters w.letters bits over.letters)

-- whether P has a member
has_P : List (List Bool) → Bool
has_P [] = false
has_P (letter ∷ letters) = head_bit letter || has_P letters

-- one bit for each letter
bits_like : Bool → List (List Bool) → List Bool
bits_like b [] = []
bits_like b (letter ∷ letters) = b ∷ bits_like b letters

length-bits_like : (b : Bool) (letters : List (List Bool)) → length (bits_like b letters) ≡ length letters
unfolding bits_like
length-bits_like b [] = refl
length-bits_like b (letter ∷ letters) = ap suc (length-bits_like b letters)

-- every P is within the set of all its positions
within_all : (letters : List (List Bool)) → AreLetters just_P letters → is_within (with_Q letters (bits_like true letters)) ≡ true
unfolding is_within bits_like
within_all [] are = refl
within_all ([] ∷ letters) are = absurd (let short = are.0 in omega (arith, short))
within_all ((a ∷ b ∷ more) ∷ letters) are = absurd (let long = are.0 in omega (arith, long))
within_all ((true ∷ []) ∷ letters) are = within_all letters are.1
within_all ((false ∷ []) ∷ letters) are = within_all letters are.1

-- a P with a member is not within the empty set
not_within_empty : (letters : List (List Bool)) → AreLetters just_P letters → has_P letters ≡ true → is_within (with_Q letters (bits_like false letters)) ≡ false
unfolding is_within bits_like has_P
not_within_empty [] are has = absurd (false≢true has)
not_within_empty ([] ∷ letters) are has = absurd (let short = are.0 in omega (arith, short))
not_within_empty ((a ∷ b ∷ more) ∷ letters) are has = absurd (let long = are.0 in omega (arith, long))
not_within_empty ((true ∷ []) ∷ letters) are has = refl
not_within_empty ((false ∷ []) ∷ letters) are has = not_within_empty letters are.1 has

-- what is not within some Q has a member
some_member : (letters : List (List Bool)) (bits : List Bool) → AreLetters just_P letters → is_within (with_Q letters bits) ≡ false → has_P letters ≡ true
unfolding is_within has_P
some_member [] bits are fails = absurd (false≢true (sym fails))
some_member ([] ∷ letters) bits are fails = absurd (let short = are.0 in omega (arith, short))
some_member ((a ∷ b ∷ more) ∷ letters) bits are fails = absurd (let long = are.0 in omega (arith, long))
some_member ((a ∷ []) ∷ letters) [] are fails = absurd (false≢true (sym fails))
some_member ((true ∷ []) ∷ letters) (b ∷ bits) are fails = refl
some_member ((false ∷ []) ∷ letters) (b ∷ bits) are fails = some_member letters bits are.1 fails

-- the state that one word reaches with some Q, another reaches too, if it has a member of P where the first has
same_state : (w v : Word) (bits : List Bool) → IsWordOver just_P w → IsWordOver just_P v → (has_P w.letters ≡ true → has_P v.letters ≡ true) →
    (others : List Bool) × (length others ≡ length v.letters)
    × (state_at full_subset_content set_P_and_Q (word_with Two bits w) ≡ state_at full_subset_content set_P_and_Q (word_with Two others v))
same_state w v bits over other_over implies = by_test (is_within (with_Q w.letters bits)) refl
  where
    by_test : (b : Bool) → is_within (with_Q w.letters bits) ≡ b → (others : List Bool) × (length others ≡ length v.letters)
        × (state_at full_subset_content set_P_and_Q (word_with Two bits w) ≡ state_at full_subset_content set_P_and_Q (word_with Two others v))
    by_test true is =
        (bits_like true v.letters, length-bits_like true v.letters, state_with w bits over ∙ (ap (λ b. cond b 0 1) (is ∙ sym (within_all v.letters other_over.letters)) ∙ sym (state_with v (bits_like true v.letters) other_over)))
    by_test false is =
        (bits_like false v.letters, length-bits_like false v.letters, state_with w bits over ∙ (ap (λ b. cond b 0 1) (is ∙ sym (not_within_empty v.letters other_over.letters (implies (some_member w.letters bits over.letters is)))) ∙ sym (state_with v (bits_like false v.letters) other_over)))

-- a missing restriction is always led to its one state
one_state_left : (variables : List Variable) (start : Start) (rest : Bits) → left_by (no_restriction Ws1s) variables start rest ≡ 0
unfolding leaf_of
one_state_left variables (some_truth_values values) rest = refl
one_state_left variables (whole_word w) rest = only_state (narrowed variables w []).letters
one_state_left variables (part_of_letter w bits) rest =
    ap (λ s. next_at (no_restriction Ws1s) (slice_get (no_restriction Ws1s).states s) (with_free_bits is_in_letters variables bits [] rest)) (only_state (narrowed variables w []).letters)

one_state_same : (variables : List Variable) (one other : Start) → LeaveSame (no_restriction Ws1s) variables one other
one_state_same variables one other rest = one_state_left variables one rest ∙ sym (one_state_left variables other rest)

-- so the first word leads where the second leads, and so it is in the midst of a letter
words_lead : (w v : Word) → IsWordOver just_P w → IsWordOver just_P v → (has_P w.letters ≡ true → has_P v.letters ≡ true) →
    LeadsWhere full_subset_content (no_restriction Ws1s) set_Q (whole_word w) (whole_word v)
words_lead w v over other_over implies = λ bits long.
    let found = same_state w v bits over other_over implies in
    (found.0, found.1, (λ rest. found.2, one_state_same set_P_and_Q (whole_word (word_with Two bits w)) (whole_word (word_with Two found.0 v))))

parts_lead : (w v : Word) → IsWordOver just_P w → IsWordOver just_P v → (has_P w.letters ≡ true → has_P v.letters ≡ true) →
    LeadsWhere full_subset_content (no_restriction Ws1s) set_Q (part_of_letter w []) (part_of_letter v [])
parts_lead w v over other_over implies = λ bits long.
    let found = same_state w v bits over other_over implies in
    (found.0, found.1, (λ rest. ap (λ s. from_state s [] rest) found.2, one_state_same set_P_and_Q (part_of_letter (word_with Two bits w) []) (part_of_letter (word_with Two found.0 v) [])))

-- the four starts: no position, and one position, which is in P; and each in the midst of the next letter
abbrev none : Word
none = word [] []

abbrev one : Word
one = word [] ((true ∷ []) ∷ [])

none_over : IsWordOver just_P none
none_over = record { truth = refl; letters = tt }

one_over : IsWordOver just_P one
one_over = record { truth = refl; letters = (refl, tt) }

abbrev four : List Start
four = whole_word none ∷ whole_word one ∷ part_of_letter none [] ∷ part_of_letter one [] ∷ []

abbrev AreAlike : Start → Start → Type 0
AreAlike start other = LeadToSameSet full_subset_content (no_restriction Ws1s) set_Q start other

like_word : (w : Word) → IsWordOver just_P w → (b : Bool) → has_P w.letters ≡ b → Any (λ other. AreAlike (whole_word w) other) four
unfolding has_P
like_word w over true has =
    (1, whole_word one, omega arith, refl, (words_lead w one over one_over (λ h. refl), words_lead one w one_over over (λ h. has)))
like_word w over false has =
    (0, whole_word none, omega arith, refl, (words_lead w none over none_over (λ h. absurd (false≢true (sym has ∙ h))), words_lead none w none_over over (λ h. absurd (false≢true h))))

like_part : (w : Word) → IsWordOver just_P w → (b : Bool) → has_P w.letters ≡ b → Any (λ other. AreAlike (part_of_letter w []) other) four
unfolding has_P
like_part w over true has =
    (3, part_of_letter one [], omega arith, refl, (parts_lead w one over one_over (λ h. refl), parts_lead one w one_over over (λ h. has)))
like_part w over false has =
    (2, part_of_letter none [], omega arith, refl, (parts_lead w none over none_over (λ h. absurd (false≢true (sym has ∙ h))), parts_lead none w none_over over (λ h. absurd (false≢true h))))

complete : (start : Start) → IsStartOver just_P start → Any (λ other. AreAlike start other) four
complete (some_truth_values values) over = absurd (omega (arith, over))
complete (whole_word w) over = like_word w over (has_P w.letters) refl
complete (part_of_letter w []) over = like_part w over.0 (has_P w.letters) refl
complete (part_of_letter w (b ∷ bits)) over = absurd (let few = over.1 in omega (arith, few))

items : (k : ℕ) (d : Start) → k < 4 → IsStartOver just_P (slice_index_or four k d)
items zero d below = none_over
items (suc zero) d below = one_over
items (suc (suc zero)) d below = (none_over, omega arith)
items (suc (suc (suc zero))) d below = (one_over, omega arith)
items (suc (suc (suc (suc k)))) d below = absurd (omega arith)

-- what the four starts leave, with bits for Q
at_none : (bits : List Bool) (rest : Bits) → left_by full_subset_content set_P_and_Q (whole_word (word_with Two bits none)) rest ≡ 0
unfolding is_within
at_none bits rest = state_with none bits none_over

at_one : (b : Bool) (rest : Bits) → left_by full_subset_content set_P_and_Q (whole_word (word_with Two (b ∷ []) one)) rest ≡ cond b 0 1
unfolding is_within
at_one true rest = state_with one (true ∷ []) one_over
at_one false rest = state_with one (false ∷ []) one_over

in_letter : (p q : Bool) → from_state 0 [] (rest_of p q) ≡ cond p (cond q 0 1) 0
unfolding rest_of
in_letter p q = from_P (bits_of_letter [] (rest_of p q)) p q refl refl

after_none : (bits : List Bool) (p q : Bool) → left_by full_subset_content set_P_and_Q (part_of_letter (word_with Two bits none) []) (rest_of p q) ≡ cond p (cond q 0 1) 0
unfolding is_within
after_none bits p q = ap (λ s. from_state s [] (rest_of p q)) (state_with none bits none_over) ∙ in_letter p q

after_one : (rest : Bits) → left_by full_subset_content set_P_and_Q (part_of_letter (word_with Two (false ∷ []) one) []) rest ≡ 1
unfolding is_within
after_one rest = ap (λ s. from_state s [] rest) (state_with one (false ∷ []) one_over) ∙ from_state_1 [] rest

after_one_outside : (bits : List Bool) → length bits ≡ 1 → left_by full_subset_content set_P_and_Q (part_of_letter (word_with Two bits one) []) (rest_of true false) ≡ 1
unfolding is_within
after_one_outside [] long = absurd (omega (arith, long))
after_one_outside (true ∷ []) long = ap (λ s. from_state s [] (rest_of true false)) (state_with one (true ∷ []) one_over) ∙ in_letter true false
after_one_outside (false ∷ []) long = after_one (rest_of true false)
after_one_outside (a ∷ b ∷ bits) long = absurd (omega (arith, long))

not_0_1 : (a b : ℕ) → a ≡ 0 → b ≡ 1 → a ≡ b → ⊥
not_0_1 a b is_a is_b same = omega (arith, is_a, is_b, same)

different : (i j : ℕ) (d : Start) → i < j → j < 4 → AreAlike (slice_index_or four i d) (slice_index_or four j d) → ⊥
different i zero d below within alike = omega (arith, below)
different zero (suc zero) d below within alike =
    let found = alike.1 (false ∷ []) refl in not_0_1 _ _ (at_none found.0 (rest_of true false)) (at_one false (rest_of true false)) (sym (found.2.0 (rest_of true false)))
different zero (suc (suc zero)) d below within alike =
    let found = alike.0 [] refl in not_0_1 _ _ (at_none [] (rest_of true false)) (after_none found.0 true false) (found.2.0 (rest_of true false))
different zero (suc (suc (suc zero))) d below within alike =
    let found = alike.0 [] refl in not_0_1 _ _ (at_none [] (rest_of true false)) (after_one_outside found.0 found.1) (found.2.0 (rest_of true false))
different (suc zero) (suc zero) d below within alike = omega (arith, below)
different (suc zero) (suc (suc zero)) d below within alike =
    let found = alike.0 (true ∷ []) refl in not_0_1 _ _ (at_one true (rest_of true false)) (after_none found.0 true false) (found.2.0 (rest_of true false))
different (suc zero) (suc (suc (suc zero))) d below within alike =
    let found = alike.0 (true ∷ []) refl in not_0_1 _ _ (at_one true (rest_of true false)) (after_one_outside found.0 found.1) (found.2.0 (rest_of true false))
different (suc (suc i)) (suc zero) d below within alike = omega (arith, below)
different (suc (suc zero)) (suc (suc zero)) d below within alike = omega (arith, below)
different (suc (suc zero)) (suc (suc (suc zero))) d below within alike =
    let found = alike.1 (false ∷ []) refl in not_0_1 _ _ (after_none found.0 false false) (after_one (rest_of false false)) (sym (found.2.0 (rest_of false false)))
different (suc (suc (suc i))) (suc (suc zero)) d below within alike = omega (arith, below)
different (suc (suc (suc i))) (suc (suc (suc zero))) d below within alike = omega (arith, below)
different i (suc (suc (suc (suc j)))) d below within alike = omega (arith, within)

pairs : LeadToPairs full_subset_content (no_restriction Ws1s) set_P_and_Q 4
pairs =
    number_of_both (LeaveSame full_subset_content set_P_and_Q) (LeaveSame (no_restriction Ws1s) set_P_and_Q) (IsStartOver set_P_and_Q) 4 (λ start other alike. one_state_same set_P_and_Q start other) subset_references

-- ex2 Q: P sub Q
pub subset_project : IsProjectMeasure full_subset_content (no_restriction Ws1s) set_Q 4 9
subset_project = record {
  made = record { chosen = four; items = items; different = different; complete = complete; count = refl };
  pairs = 4;
  parts = 5;
  pairs_read = pairs;
  parts_read = (4, 1, subset_references, one_reference, refl);
  read = refl;
}
