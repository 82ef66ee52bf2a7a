-- Starts over the variables of a content leave its references that are reached, and each of them is left by a start.
use Rattle.std.proofs.Common.{◌≡◌, ℕ, zero, suc, ◌<◌, inl, inr, Bool, true, false, List, [], ◌∷◌, ◌++◌, length, map, slice_get, Option, Some, None, refl, sym, ap, subst, ◌∙◌, arith}
use Rattle.ms_list.specs.declared.word.Word.{Word}
use Rattle.ms_arena.specs.declared.node.Ref.{Ref}
use Rattle.ms_arena.specs.declared.node.Ref.TheVariants.{Leaf, Inner}
use Rattle.ms_arena.specs.declared.node.Node.{Node}
use Rattle.ms_arena.specs.Bits.{below_from}
use Rattle.ms_arena.specs.Diagram.{Bits, leaf_of, IsBefore, IsValid}
use Rattle.ms_arena.proofs.Canonicity.{end_for, IsBefore-end_for}
use Rattle.ms_arena.proofs.Lists.{slice_get-held}
use Rattle.ms_arena.proofs.Paths.{IsBefore-later, leaf_of-leaf, leaf_of-node}
use Rattle.ms_logic.specs.Assignment.{Variable}
use Rattle.ms_logic_words.specs.Content.{StateOf, Content, IsWordOver, AreLetters, NamesPart, is_truth_value, is_in_letters, letter_bits, first_state, next_from, next_state, state_after, last_state}
use Rattle.ms_logic_measures.specs.Starts.{Start, some_truth_values, whole_word, part_of_letter, IsStartOver, bits_for, narrowed, with_free_bits, state_at, next_at}
use Rattle.ms_logic_starts.specs.ContentStarts.{IsReachedState, IsReachedPart, StartLeaves, HasDistinctVariables}
use Rattle.ms_logic_starts.specs.FirstBits.{BitsLeave}
use Rattle.ms_logic_starts.specs.inner.Ranks.{bits_before}
use Rattle.ms_logic_starts.proofs.FirstBitsLemmas.{reached_within}
use Rattle.ms_logic_starts.proofs.LeftLemmas.{leaf_of_all, left_after, left_before}
use Rattle.ms_logic_starts.proofs.RankLemmas.{bits_for_own, length-bits_before, rank_of_all}

AreLetters-push : (vs : List Variable) (letters : List (List Bool)) (letter : List Bool) → AreLetters vs letters → AreLetters vs (letter ∷ []) → AreLetters vs (letters ++ letter ∷ [])
AreLetters-push vs [] letter are own = own
AreLetters-push vs (first ∷ letters) letter are own = (are.0, AreLetters-push vs letters letter are.1 own)

module _ {Sign : Type 0} (content : Content Sign) where
  state_after-push : (letters : List (List Bool)) (letter : List Bool) (state : ℕ)
      → state_after content state (letters ++ letter ∷ []) ≡ next_state content (state_after content state letters) letter
  state_after-push [] letter state = refl
  state_after-push (first ∷ letters) letter state = state_after-push letters letter (next_state content state first)

  valid_part : (reference : Ref) → NamesPart content reference → IsValid content.nodes reference
  valid_part (Leaf state) named = tt
  valid_part (Inner place) named = named

  module _ (is : HasDistinctVariables content) where
    named_end : (place : ℕ) (node : Node) (bit : Bool) → slice_get content.nodes place ≡ Some node → NamesPart content (end_for node bit)
    named_end place node true held = is.rules.high_named place node held
    named_end place node false held = is.rules.low_named place node held

    leaf_before : (count : ℕ) (root : Ref) → IsBefore count root → NamesPart content root → (bits : Bits) → leaf_of content.nodes root bits < length content.states
    leaf_before count (Leaf state) before named bits = subst (λ n. n < length content.states) (sym (leaf_of-leaf content.nodes bits state)) named
    leaf_before zero (Inner place) before named bits = absurd (omega (arith, before))
    leaf_before (suc count) (Inner place) before named bits =
        let held = slice_get-held content.nodes place named in
        let bit = bits held.0.var in
        subst (λ n. n < length content.states) (sym (leaf_of-node content.nodes is.rules.ordered bits place held.0 held.1))
        (leaf_before count (end_for held.0 bit)
        (IsBefore-later place count (end_for held.0 bit) (omega (arith, before)) (IsBefore-end_for content.nodes is.rules.ordered place held.0 bit held.1))
        (named_end place held.0 bit held.1) bits)

    -- bits lead to states
    leaf_within : (root : Ref) → NamesPart content root → (bits : Bits) → leaf_of content.nodes root bits < length content.states
    leaf_within root named bits = leaf_before (length content.nodes) root (valid_part root named) named bits

    next_within : (state : ℕ) (letter : List Bool) → next_state content state letter < length content.states
    next_within state letter = by_state (slice_get content.states state) refl
      where
        by_state : (found : Option (StateOf Sign)) → slice_get content.states state ≡ found → next_from content found letter < length content.states
        by_state None held = is.rules.some_state
        by_state (Some there) held = leaf_within there.next (is.rules.next_named state there held) (letter_bits content.variables letter)

    after_within : (letters : List (List Bool)) (state : ℕ) → state < length content.states → state_after content state letters < length content.states
    after_within [] state within = within
    after_within (letter ∷ letters) state within = after_within letters (next_state content state letter) (next_within state letter)

    last_within : (word : Word) → last_state content word < length content.states
    last_within word = after_within word.letters (first_state content word.truth) (leaf_within content.start is.rules.start_named _)

    -- a word over the variables of the content is narrowed to itself
    letters_own : (letters : List (List Bool)) → AreLetters content.variables letters
        → map (λ letter. bits_for is_in_letters content.variables letter content.variables) letters ≡ letters
    letters_own [] are = refl
    letters_own (letter ∷ letters) are =
        ap (λ (first : List Bool). first ∷ map (λ other. bits_for is_in_letters content.variables other content.variables) letters)
        (bits_for_own is_in_letters content.variables letter is.distinct are.0)
        ∙ ap (λ (more : List (List Bool)). letter ∷ more) (letters_own letters are.1)

    narrowed_own : (word : Word) → IsWordOver content.variables word → narrowed content.variables word content.variables ≡ word
    narrowed_own word over =
        let truth = bits_for_own is_truth_value content.variables word.truth is.distinct over.truth in
        let letters = letters_own word.letters over.letters in
        λ i. record { truth = truth i; letters = letters i }

    state_own : (word : Word) → IsWordOver content.variables word → state_at content content.variables word ≡ last_state content word
    state_own word over = ap (last_state content) (narrowed_own word over)

    -- all truth values that bits give
    truth_of : Bits → List Bool
    truth_of bits = bits_before is_truth_value (length content.variables) content.variables bits

    -- what is left of the start
    part_of_start : (level : ℕ) (first : Bits) (reference : Ref) → BitsLeave content.nodes content.start level first reference → IsReachedPart content reference
    unfolding truth_of
    part_of_start level first (Inner place) left = inl left.behind
    part_of_start level first (Leaf state) left =
        let none : Bits = λ _. false in
        let bits = below_from level first none in
        let leads : leaf_of content.nodes content.start bits ≡ state = left.function none ∙ leaf_of-leaf content.nodes none state in (
          subst (λ n. n < length content.states) leads (leaf_within content.start is.rules.start_named bits),
          (
            record { truth = truth_of bits; letters = [] },
            record { truth = length-bits_before is_truth_value (length content.variables) content.variables bits ∙ rank_of_all is_truth_value content.variables; letters = tt },
            leaf_of_all is_truth_value content.variables is.distinct content.nodes is.rules.ordered content.start (valid_part content.start is.rules.start_named)
                is.rules.start_tests bits
                ∙ leads,
          ),
        )

    -- what is left of a state's reference
    module _ (i : ℕ) (state : StateOf Sign) (held : slice_get content.states i ≡ Some state) where
      valid_next : IsValid content.nodes state.next
      valid_next = valid_part state.next (is.rules.next_named i state held)

      next_is : (bits : Bits) → next_at content (slice_get content.states i) bits ≡ leaf_of content.nodes state.next bits
      next_is bits = ap (λ found. next_at content found bits) held

      part_of_state : (reached : IsReachedState content i) (level : ℕ) (first : Bits) (reference : Ref) → BitsLeave content.nodes state.next level first reference → IsReachedPart content reference
      part_of_state reached level first (Inner place) left = inr (i, state, reached, held, left.behind)
      part_of_state reached level first (Leaf goal) left =
          let none : Bits = λ _. false in
          let bits = below_from level first none in
          let leads : leaf_of content.nodes state.next bits ≡ goal = left.function none ∙ leaf_of-leaf content.nodes none goal in
          let word = reached.0 in
          let letter = bits_before is_in_letters (length content.variables) content.variables bits in (
            subst (λ n. n < length content.states) leads (leaf_within state.next (is.rules.next_named i state held) bits),
            (
              record { truth = word.truth; letters = word.letters ++ letter ∷ [] },
              record {
                truth = reached.1.truth;
                letters = AreLetters-push content.variables word.letters letter reached.1.letters
                    (length-bits_before is_in_letters (length content.variables) content.variables bits ∙ rank_of_all is_in_letters content.variables, tt);
              },
              state_after-push word.letters letter (first_state content word.truth)
                  ∙ (ap (λ s. next_state content s letter) reached.2
                  ∙ (ap (λ found. next_from content found letter) held
                  ∙ (leaf_of_all is_in_letters content.variables is.distinct content.nodes is.rules.ordered state.next valid_next (is.rules.next_tests i state held) bits
                  ∙ leads))),
            ),
          )

    -- each start leaves a part that is reached
    pub start_leaves_part : (start : Start) → IsStartOver content.variables start → (reference : Ref) × IsReachedPart content reference × StartLeaves content start reference
    start_leaves_part (some_truth_values values) over =
        let left = left_after is_truth_value content.variables is.distinct content.nodes is.rules.ordered content.start (valid_part content.start is.rules.start_named)
        is.rules.start_tests values in
        (left.2, part_of_start left.0 left.1 left.2 left.3, left.4)
    start_leaves_part (whole_word word) over =
        let state = state_at content content.variables word in
        (Leaf state, (last_within (narrowed content.variables word content.variables), (word, over, sym (state_own word over))), λ rest. sym (leaf_of-leaf content.nodes rest state))
    start_leaves_part (part_of_letter word bits) over =
        let i = state_at content content.variables word in
        let held = slice_get-held content.states i (last_within (narrowed content.variables word content.variables)) in
        let left = left_after is_in_letters content.variables is.distinct content.nodes is.rules.ordered held.0.next (valid_next i held.0 held.1)
        (is.rules.next_tests i held.0 held.1) bits in (
          left.2,
          part_of_state i held.0 held.1 (word, over.0, sym (state_own word over.0)) left.0 left.1 left.2 left.3,
          λ rest. next_is i held.0 held.1 (with_free_bits is_in_letters content.variables bits content.variables rest) ∙ left.4 rest,
        )

    -- and each such part is left by a start
    pub part_is_left : (reference : Ref) → IsReachedPart content reference → (start : Start) × IsStartOver content.variables start × StartLeaves content start reference
    part_is_left (Leaf state) reached =
        let word = reached.1.0 in
        let over = reached.1.1 in
        (whole_word word, over, λ rest. state_own word over ∙ (reached.1.2 ∙ sym (leaf_of-leaf content.nodes rest state)))
    part_is_left (Inner place) (inl path) =
        let left = left_before is_truth_value content.variables is.distinct content.nodes is.rules.ordered content.start (valid_part content.start is.rules.start_named)
        is.rules.start_tests place path in
        (some_truth_values left.0, left.1, left.2)
    part_is_left (Inner place) (inr found) =
        let i = found.0 in
        let state = found.1 in
        let word = found.2.0 in
        let over = found.2.1 in
        let left = left_before is_in_letters content.variables is.distinct content.nodes is.rules.ordered state.next (valid_next i state found.3)
        (is.rules.next_tests i state found.3) place found.4 in (
          part_of_letter word left.0,
          (over, left.1),
          λ rest.
              let free : Bits = with_free_bits is_in_letters content.variables left.0 content.variables rest in
              ap (λ s. next_at content (slice_get content.states s) free) (state_own word over ∙ found.2.2)
              ∙ (next_is i state found.3 free ∙ left.2 rest),
        )

    -- a part that is reached is a reference of the content
    pub part_valid : (reference : Ref) → IsReachedPart content reference → IsValid content.nodes reference
    part_valid (Leaf state) reached = tt
    part_valid (Inner place) (inl path) = reached_within content.nodes is.rules.ordered path (valid_part content.start is.rules.start_named)
    part_valid (Inner place) (inr found) = reached_within content.nodes is.rules.ordered found.4 (valid_next found.0 found.1 found.3)
