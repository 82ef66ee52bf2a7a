-- The word that is taken is the first of its sign.
use Rattle.std.proofs.Common.{◌≡◌, ℕ, zero, suc, ◌+◌, ◌-◌, ◌<◌, ◌≤◌, min, Bool, true, false, if◌then◌else◌, ◌⊎◌, inl, inr, List, [], ◌∷◌, ◌++◌, length, slice_get, Some, refl, sym, ap, subst, ◌∙◌, arith, append_assoc}
use Rattle.std.specs.List.{flat_map}
use Rattle.ms_arena.specs.declared.node.Ref.{Ref}
use Rattle.ms_arena.specs.declared.node.Ref.TheVariants.{Leaf}
use Rattle.ms_arena.specs.Diagram.{leaf_of}
use Rattle.ms_arena.proofs.BitsLemmas.{same_bits}
use Rattle.ms_arena.proofs.Lists.{slice_get-held}
use Rattle.ms_logic.specs.declared.mode.Order.{Order}
use Rattle.ms_logic.specs.First.{IsLower}
use Rattle.ms_logic_words.specs.Content.{StateOf, Content, AreLetters, IsFollowed, is_truth_value, is_in_letters, count_of, padded, bits_at, truth_bits, first_state, next_state, state_after, sign_at}
use Rattle.ms_logic_words.specs.declared.sign.Sign.{Sign}
use Rattle.ms_dfa.specs.Automaton.{IsAutomaton}
use Rattle.ms_best.specs.inner.Automaton.{is_sign, distance_of, AreDistancesFrom}
use Rattle.ms_best.specs.FirstWord.{IsFirstWord, NoWordHas}
use Rattle.ms_best.specs.inner.Least.{next_of, least_values, least_letter, least_letters, least_truth, least_word}
use Rattle.ms_best.proofs.LeastValues.{from_first, bits_from, leaf_by, IsRead, least_leads, length-least_values, none_lower}
use Rattle.ms_best.proofs.Nearness.{distance_of-state, no_nearer}
use Rattle.ms_best.proofs.Reaching.{same_sign, followed, next_is, next_within, one_letter, no_fewer, not_far}

-- where lists are put together of parts of equal lengths, the first parts decide, or they are equal and the others do
lower_append : (a b c d : List Bool) → length a ≡ length b → IsLower (a ++ c) (b ++ d) → IsLower a b ⊎ ((a ≡ b) × IsLower c d)
lower_append [] [] c d same lower = inr (refl, lower)
lower_append [] (y ∷ b) c d same lower = absurd (omega (arith, same))
lower_append (x ∷ a) [] c d same lower = absurd (omega (arith, same))
lower_append (false ∷ a) (false ∷ b) c d same lower =
    elim (lower_append a b c d (omega (arith, same)) lower) [ inl less ↦ inl less | inr later ↦ inr (ap (λ l. false ∷ l) later.0, later.1) ]
lower_append (false ∷ a) (true ∷ b) c d same lower = inl tt
lower_append (true ∷ a) (false ∷ b) c d same lower = inl lower
lower_append (true ∷ a) (true ∷ b) c d same lower =
    elim (lower_append a b c d (omega (arith, same)) lower) [ inl less ↦ inl less | inr later ↦ inr (ap (λ l. true ∷ l) later.0, later.1) ]

-- all bits are those from the first variable on
bits_from-first : (values : List Bool) → bits_at values ≡ bits_from 0 values
bits_from-first values = same_bits (λ var. let same : var - 0 ≡ var = omega arith in rw same refl)

module _ (content : Content Sign) (sign : Sign) (distances : List ℕ) (right : AreDistancesFrom content sign distances) (automaton : IsAutomaton content) where
  -- a diagram that is followed by one part of a word
  read_first : (has_value : Order → Bool) (reference : Ref) → IsFollowed content has_value reference → IsRead content has_value 0 content.variables reference
  read_first has_value reference followed = record {
    valid = followed.valid;
    from = from_first content.nodes reference;
    tests = followed.tests;
    rest = λ k. let same : 0 + k ≡ k = omega arith in rw same refl;
  }

  -- the leaf to which the values lead
  abbrev pub led_by : (Order → Bool) → List Bool → Ref → Ref
  led_by has_value values reference = Leaf (leaf_of content.nodes reference (bits_at (padded has_value content.variables values)))

  led_by-first : (has_value : Order → Bool) (values : List Bool) (reference : Ref)
      → led_by has_value values reference ≡ leaf_by content sign distances right automaton.ordered has_value 0 content.variables values reference
  led_by-first has_value values reference = ap (λ bits. Leaf (leaf_of content.nodes reference bits)) (bits_from-first (padded has_value content.variables values))

  -- the values that are taken lead as near as the reference is
  taken_lead : (has_value : Order → Bool) (reference : Ref) → IsFollowed content has_value reference
      → distance_of content distances (led_by has_value (least_values content distances has_value 0 content.variables reference) reference) ≡ distance_of content distances reference
  taken_lead has_value reference followed =
      ap (distance_of content distances) (led_by-first has_value (least_values content distances has_value 0 content.variables reference) reference)
      ∙ least_leads content sign distances right automaton.ordered has_value 0 content.variables reference (read_first has_value reference followed)

  -- and no lower ones do
  taken_are_least : (has_value : Order → Bool) (reference : Ref) (values : List Bool) → IsFollowed content has_value reference
      → length values ≡ count_of has_value content.variables
      → distance_of content distances (led_by has_value values reference) ≡ distance_of content distances reference
      → IsLower values (least_values content distances has_value 0 content.variables reference) → ⊥
  taken_are_least has_value reference values followed count leads =
      none_lower content sign distances right automaton.ordered has_value 0 content.variables reference values (read_first has_value reference followed) count
      (ap (distance_of content distances) (sym (led_by-first has_value values reference)) ∙ leads)

  -- any values lead no nearer
  led_no_nearer : (has_value : Order → Bool) (reference : Ref) (values : List Bool) → IsFollowed content has_value reference
      → distance_of content distances reference ≤ distance_of content distances (led_by has_value values reference)
  led_no_nearer has_value reference values followed =
      no_nearer content sign distances right automaton.ordered (bits_at (padded has_value content.variables values)) (length content.nodes) reference (omega arith) followed.valid

  -- a state at 0 has the sign
  is_at_sign : (state : ℕ) → state < length content.states → distance_of content distances (Leaf state) ≡ 0 → sign_at content state ≡ Some sign
  is_at_sign state within none =
      let held = slice_get-held content.states state within in
      let by_sign = by_test (is_sign held.0.sign sign) (distance_of content distances held.0.next) (sym (distance_of-state content sign distances right state held.0 held.1) ∙ none) in
      rw held.1 (ap Some (same_sign held.0.sign sign by_sign))
    where
      by_test : (test : Bool) (near : ℕ) → (if test then 0 else min (length content.states) (near + 1)) ≡ 0 → test ≡ true
      by_test true near same = refl
      by_test false near same = absurd (omega (arith, same, within))

  -- the diagram of a state that is further from the sign is one letter nearer
  diagram_nearer : (state : ℕ) (found : StateOf Sign) (count : ℕ) → slice_get content.states state ≡ Some found
      → distance_of content distances (Leaf state) ≡ suc count → suc count < length content.states → distance_of content distances found.next ≡ count
  diagram_nearer state found count held far few =
      by_test (is_sign found.sign sign) (distance_of content distances found.next) (sym (distance_of-state content sign distances right state found held) ∙ far)
    where
      by_test : (test : Bool) (near : ℕ) → (if test then 0 else min (length content.states) (near + 1)) ≡ suc count → near ≡ count
      by_test true near same = absurd (omega (arith, same))
      by_test false near same = omega (arith, same, few)

  -- the letter that is taken leads one nearer
  letter_leads : (state count : ℕ) → state < length content.states → distance_of content distances (Leaf state) ≡ suc count → suc count < length content.states
      → distance_of content distances (Leaf (next_state content state (least_letter content distances state))) ≡ count
  letter_leads state count within far few =
      let held = slice_get-held content.states state within in
      ap (λ s. distance_of content distances (Leaf s)) (next_is content sign distances right automaton state held.0 (least_letter content distances state) held.1)
      ∙ ap (λ (s : Ref). distance_of content distances (led_by is_in_letters (least_values content distances is_in_letters 0 content.variables s) held.0.next)) (ap next_of held.1)
      ∙ taken_lead is_in_letters held.0.next (followed content sign distances right automaton state held.0 held.1)
      ∙ diagram_nearer state held.0 count held.1 far few

  pub length-least_letters : (count state : ℕ) → length (least_letters content distances count state) ≡ count
  length-least_letters zero state = refl
  length-least_letters (suc count) state = omega (arith, length-least_letters count (next_state content state (least_letter content distances state)))

  length-least_letter : (state : ℕ) → length (least_letter content distances state) ≡ count_of is_in_letters content.variables
  length-least_letter state = length-least_values content distances is_in_letters 0 content.variables (next_of (slice_get content.states state))

  are_letters : (count state : ℕ) → AreLetters content.variables (least_letters content distances count state)
  are_letters zero state = tt
  are_letters (suc count) state = (length-least_letter state, are_letters count (next_state content state (least_letter content distances state)))

  -- the letters that are taken lead to the sign
  letters_lead : (count state : ℕ) → state < length content.states → distance_of content distances (Leaf state) ≡ count → count < length content.states
      → sign_at content (state_after content state (least_letters content distances count state)) ≡ Some sign
  letters_lead zero state within far few = is_at_sign state within far
  letters_lead (suc count) state within far few =
      letters_lead count (next_state content state (least_letter content distances state)) (next_within content sign distances right automaton state (least_letter content distances state) within)
      (letter_leads state count within far few) (omega (arith, few))

  -- no lower letters do
  letters_are_least : (count state : ℕ) (letters : List (List Bool)) → state < length content.states → distance_of content distances (Leaf state) ≡ count → count < length content.states
      → AreLetters content.variables letters → length letters ≡ count → sign_at content (state_after content state letters) ≡ Some sign
      → IsLower (flat_map (λ letter. letter) letters) (flat_map (λ letter. letter) (least_letters content distances count state)) → ⊥
  letters_are_least zero state [] within far few over long signed lower = lower
  letters_are_least zero state (letter ∷ letters) within far few over long signed lower = absurd (omega (arith, long))
  letters_are_least (suc count) state [] within far few over long signed lower = absurd (omega (arith, long))
  letters_are_least (suc count) state (letter ∷ letters) within far few over long signed lower =
      let held = slice_get-held content.states state within in
      let next = next_state content state letter in
      let next_in = next_within content sign distances right automaton state letter within in
      let near = no_fewer content sign distances right automaton letters next next_in signed in
      let exact : distance_of content distances (Leaf next) ≡ count = omega (arith, near, long, far, one_letter content sign distances right automaton state letter within) in
      let led : distance_of content distances (led_by is_in_letters letter held.0.next) ≡ distance_of content distances held.0.next
      = ap (λ s. distance_of content distances (Leaf s)) (sym (next_is content sign distances right automaton state held.0 letter held.1)) ∙ exact ∙ sym (diagram_nearer state held.0 count held.1 far few) in
      elim (lower_append letter (least_letter content distances state) (flat_map (λ l. l) letters) (flat_map (λ l. l) (least_letters content distances count (next_state content state (least_letter content distances state))))
      (over.0 ∙ sym (length-least_letter state)) lower) [
        | inl less ↦
            taken_are_least is_in_letters held.0.next letter (followed content sign distances right automaton state held.0 held.1) over.0 led
            (let P : Ref → Type 0 = λ r. IsLower letter (least_values content distances is_in_letters 0 content.variables r) in subst P (ap next_of held.1) less)
        | inr later ↦
            (let taken = least_letter content distances state in
            let P : List Bool → Type 0 = λ l. sign_at content (state_after content (next_state content state l) letters) ≡ Some sign in
            letters_are_least count (next_state content state taken) letters (next_within content sign distances right automaton state taken within) (letter_leads state count within far few) (omega (arith, few))
            over.1 (omega (arith, long)) (subst P later.0 signed) later.1)
      ]

  -- the word that is taken is the first of the sign
  pub is_first : distance_of content distances content.start < length content.states → IsFirstWord content sign (least_word content distances)
  is_first few =
      let truth = least_truth content distances in
      let within : first_state content truth < length content.states = automaton.closed.start.states (truth_bits content.variables truth) in
      let exact : distance_of content distances (Leaf (first_state content truth)) ≡ distance_of content distances content.start = taken_lead is_truth_value content.start automaton.closed.start in
      record {
        over = record {
          truth = length-least_values content distances is_truth_value 0 content.variables content.start;
          letters = are_letters (distance_of content distances content.start) (first_state content truth);
        };
        has_sign = letters_lead (distance_of content distances content.start) (first_state content truth) within exact few;
        none_before = λ other over signed before.
            let other_within : first_state content other.truth < length content.states = automaton.closed.start.states (truth_bits content.variables other.truth) in
            let near = no_fewer content sign distances right automaton other.letters (first_state content other.truth) other_within signed in
            let lower = led_no_nearer is_truth_value content.start other.truth automaton.closed.start in
            let long = length-least_letters (distance_of content distances content.start) (first_state content truth) in
            elim before [
              | inl shorter ↦ omega (arith, shorter, near, lower, long)
              | inr (same, less) ↦
                  elim (lower_append other.truth truth (flat_map (λ l. l) other.letters) (flat_map (λ l. l) (least_letters content distances (distance_of content distances content.start) (first_state content truth)))
                  (over.truth ∙ sym (length-least_values content distances is_truth_value 0 content.variables content.start)) less) [
                    | inl less_truth ↦
                        taken_are_least is_truth_value content.start other.truth automaton.closed.start over.truth (omega (arith, same, near, lower, long)) less_truth
                    | inr later ↦
                        (let P : List Bool → Type 0 = λ t. sign_at content (state_after content (first_state content t) other.letters) ≡ Some sign in
                        letters_are_least (distance_of content distances content.start) (first_state content truth) other.letters within exact few over.letters (omega (arith, same, long)) (subst P later.0 signed) later.1)
                  ]
            ];
      }

  -- where the start is as far as there are states, no word has the sign
  pub none_has : length content.states ≤ distance_of content distances content.start → NoWordHas content sign
  none_has far = λ word over signed.
      let within : first_state content word.truth < length content.states = automaton.closed.start.states (truth_bits content.variables word.truth) in
      omega (arith, far, led_no_nearer is_truth_value content.start word.truth automaton.closed.start, not_far content sign distances right automaton word.letters (first_state content word.truth) within signed)

-- letters that have been read from a state, and those that are still to be read
pub letters_more : (content : Content Sign) (distances : List ℕ) (count left state : ℕ) (letters : List (List Bool)) (all : List (List Bool)) → left ≡ suc count
    → letters ++ least_letters content distances left state ≡ all
    → (letters ++ least_letter content distances state ∷ []) ++ least_letters content distances count (next_state content state (least_letter content distances state)) ≡ all
letters_more content distances count left state letters all more sofar =
    append_assoc letters (least_letter content distances state ∷ []) (least_letters content distances count (next_state content state (least_letter content distances state)))
    ∙ ap (λ n. letters ++ least_letters content distances n state) (sym more)
    ∙ sofar
