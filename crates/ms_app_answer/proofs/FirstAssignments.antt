-- The first word of a sign encodes the first assignment at which the sign is right.
use Rattle.std.proofs.Common.{◌≡◌, ◌≢◌, ℕ, ◌<◌, Bool, ◌⊎◌, inl, inr, List, [], ◌∷◌, ◌++◌, length, map, Some, refl, sym, ap, subst, ◌∙◌, arith}
use Rattle.std.specs.List.{flat_map}
use Rattle.std.proofs.lemmas.Bool.{cases_eq}
use Rattle.std.proofs.lemmas.Option.{same_Some}
use Rattle.ms_list.specs.declared.word.Word.{Word}
use Rattle.ms_logic.specs.declared.assignment.Assignment.{Assignment}
use Rattle.ms_logic_words.specs.declared.sign.Sign.{Sign}
use Rattle.ms_logic_words.specs.declared.sign.Sign.TheVariants.{Yes, No, Outside}
use Rattle.ms_logic.specs.Assignment.{Env, Variable, IsAssignment}
use Rattle.ms_logic_words.specs.Content.{Content, sign_of, shortest_word}
use Rattle.ms_logic.specs.FiniteSet.{numbers_below}
use Rattle.ms_logic.specs.First.{length_of, bits_of, IsLower, IsBefore, IsFirst, assignment_of}
use Rattle.ms_logic.specs.Verdict.{Problem, variables_of, Assigns}
use Rattle.ms_logic_words.specs.Word.{Encodes, IsEncoding}
use Rattle.ms_logic.specs.Letters.{truth_values_of, letter_at}
use Rattle.ms_logic_words.proofs.WordLaws.{encoding_is_over, length_is_least}
use Rattle.ms_dfa.specs.Automaton.{IsAutomaton}
use Rattle.ms_dfa.specs.Values.{Meaning, IsMeaning, HasValues, main_meaning}
use Rattle.ms_dfa.proofs.ValuesLemmas.{IsMeaning-main, sign_if_right, right_if_sign}
use Rattle.ms_best.specs.FirstWord.{bits_of_word, IsFirstWord, NoWordHas}
use Rattle.ms_app_answer.specs.Answer.{ShowsFirst}
use Rattle.ms_build_source.specs.Values.{HasMainValue}

-- letters one after the other are their bits
flat_letters : (g : ℕ → List Bool) (ns : List ℕ) → flat_map (λ (letter : List Bool). letter) (map g ns) ≡ flat_map g ns
flat_letters g [] = refl
flat_letters g (n ∷ ns) = ap (λ l. g n ++ l) (flat_letters g ns)

-- the bits of a word are those of the assignment of its length
bits_encoded : (vs : List Variable) (word : Word) (e : Env) → Encodes vs word e → length word.letters ≡ length_of vs e → bits_of_word word ≡ bits_of vs e
bits_encoded vs word e encodes long =
    ap (λ truth. truth ++ flat_map (λ (letter : List Bool). letter) word.letters) encodes.truth
    ∙ ap (λ letters. truth_values_of vs e ++ flat_map (λ (letter : List Bool). letter) letters) encodes.letters
    ∙ ap (λ bits. truth_values_of vs e ++ bits) (flat_letters (letter_at vs e) (numbers_below (length word.letters)))
    ∙ ap (λ n. truth_values_of vs e ++ flat_map (letter_at vs e) (numbers_below n)) long

module _ (meaning : Meaning) (content : Content Sign) (is_meaning : IsMeaning content.mode content.variables meaning) (values : HasValues meaning content) (sign : Sign) where
  -- the shortest word of an assignment at which the sign is right has it
  shortest_has : (e : Env) → IsAssignment content.mode content.variables e → meaning e sign → sign_of content (shortest_word content.variables e) ≡ Some sign
  shortest_has e assigned right =
      sign_if_right meaning content is_meaning values (shortest_word content.variables e) e sign assigned (length_is_least content.mode content.variables e assigned).0 right

  -- where no word has the sign, it is right at no assignment
  never_right : NoWordHas content sign → (e : Env) → IsAssignment content.mode content.variables e → ¬ meaning e sign
  never_right none e assigned right =
      let encodes = (length_is_least content.mode content.variables e assigned).0 in
      none (shortest_word content.variables e) (encoding_is_over content.variables (shortest_word content.variables e) e encodes) (shortest_has e assigned right)

  module _ (word : Word) (first : IsFirstWord content sign word) (e : Env) (assigned : IsAssignment content.mode content.variables e) (encodes : Encodes content.variables word e) where
    right_first : meaning e sign
    right_first = right_if_sign meaning content is_meaning values word e sign assigned encodes first.has_sign

    -- the first word is as long as its assignment
    as_long : length word.letters ≡ length_of content.variables e
    as_long =
        let least = length_is_least content.mode content.variables e assigned in
        let other = shortest_word content.variables e in
        elim (cases_eq (length word.letters) (length_of content.variables e)) [
          | inl same ↦ same
          | inr differ ↦
              (let shorter : length other.letters < length word.letters = omega (arith, differ, least.1, least.2 word encodes) in
              absurd (first.none_before other (encoding_is_over content.variables other e least.0) (shortest_has e assigned right_first) (inl shorter)))
        ]

    -- the sign is right at no assignment before it
    none_before : (f : Env) → IsAssignment content.mode content.variables f → IsBefore content.variables f e → ¬ meaning f sign
    none_before f assigned_f before right =
        let least = length_is_least content.mode content.variables f assigned_f in
        let other = shortest_word content.variables f in
        let not_before = first.none_before other (encoding_is_over content.variables other f least.0) (shortest_has f assigned_f right) in
        elim before [
          | inl shorter ↦ not_before (inl (omega (arith, shorter, least.1, as_long)))
          | inr (same, lower) ↦
              (let P : List Bool → Type 0 = λ bits. IsLower bits (bits_of_word word) in
              let Q : List Bool → Type 0 = λ bits. IsLower (bits_of content.variables f) bits in
              not_before (inr (least.1 ∙ same ∙ sym as_long, subst P (sym (bits_encoded content.variables other f least.0 least.1)) (subst Q (sym (bits_encoded content.variables word e encodes as_long)) lower))))
        ]

    first_right : IsFirst content.mode content.variables (λ e. meaning e sign) e
    first_right = record { assignment = assigned; holds = right_first; none_before = none_before }

  -- the first word of a sign other than Outside encodes an assignment
  pub first_encodes : (word : Word) → sign ≢ Outside → IsAutomaton content → IsFirstWord content sign word → IsEncoding content.mode content.variables word
  first_encodes word inside automaton first =
      (automaton.encodings word first.over).1 (λ outside. inside (same_Some sign Outside (sym first.has_sign ∙ outside)))

-- Yes and No are not Outside
not_outside : (sign : Sign) → (sign ≡ Yes) ⊎ (sign ≡ No) → sign ≢ Outside
not_outside sign one_of outside = elim one_of as (λ _. ⊥) [ inl is_yes ↦ (let never : ⊥ = cc in never) | inr is_no ↦ (let never : ⊥ = cc in never) ]

module _ (problem : Problem) (content : Content Sign) (sign : Sign) (value : HasMainValue problem content) where
  main_is_meaning : IsMeaning content.mode content.variables (main_meaning problem)
  main_is_meaning = IsMeaning-main content.mode content.variables problem

  -- an assignment of the globals is one of the content's variables
  assigned_by : (e : Env) → Assigns problem e → IsAssignment content.mode content.variables e
  assigned_by e assigns =
      subst (λ vs. IsAssignment content.mode vs e) (sym value.variables) (subst (λ mode. IsAssignment mode (variables_of problem.globals) e) (sym value.mode) assigns)

  -- where no word has the sign, no assignment has the value
  pub none_shown : NoWordHas content sign → (e : Env) → Assigns problem e → ¬ main_meaning problem e sign
  none_shown none e assigns = never_right (main_meaning problem) content main_is_meaning value.values sign none e (assigned_by e assigns)

  -- what is shown of the first word is the first assignment of the value
  pub first_shown : (word : Word) (shown : Assignment) → (sign ≡ Yes) ⊎ (sign ≡ No) → IsAutomaton content → IsFirstWord content sign word
      → ((e : Env) → IsAssignment content.mode content.variables e → Encodes content.variables word e → shown ≡ assignment_of content.variables e)
      → ShowsFirst problem (λ e. main_meaning problem e sign) (Some shown)
  first_shown word shown one_of automaton first shows =
      let found = first_encodes (main_meaning problem) content main_is_meaning value.values sign word (not_outside sign one_of) automaton first in
      let e = found.0 in
      let is_first = first_right (main_meaning problem) content main_is_meaning value.values sign word first e found.1 found.2 in
      let Holds : Env → Type 0 = λ f. main_meaning problem f sign in (
        e,
        subst (λ vs. IsFirst problem.mode vs Holds e) value.variables (subst (λ mode. IsFirst mode content.variables Holds e) value.mode is_first),
        subst (λ vs. shown ≡ assignment_of vs e) value.variables (shows e found.1 found.2),
      )
