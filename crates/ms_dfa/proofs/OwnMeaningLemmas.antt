-- Each word has a sign under an automaton, and each automaton has the values of its own meaning.
use Rattle.std.proofs.Common.{◌≡◌, ◌≢◌, ℕ, ◌<◌, Bool, List, [], ◌∷◌, length, slice_get, Some, refl, sym, ap, subst, ◌∙◌}
use Rattle.std.specs.Option.{option_map}
use Rattle.std.proofs.lemmas.Option.{slice_get_within, get_or_from_slice_get, same_Some}
use Rattle.ms_arena.proofs.Lists.{slice_get-held}
use Rattle.ms_list.specs.declared.word.Word.{Word}
use Rattle.ms_logic_words.specs.declared.sign.Sign.{Sign}
use Rattle.ms_logic_words.specs.declared.sign.Sign.TheVariants.{Yes, No, Undefined, Outside}
use Rattle.ms_logic_words.specs.Content.{StateOf, Content, IsClosed, IsFollowed, IsWordOver, is_in_letters, first_state, next_from, next_state, state_after, last_state, sign_of, truth_bits, letter_bits}
use Rattle.ms_logic_words.specs.WordSign.{IsOutside}
use Rattle.ms_logic_words.proofs.WordLaws.{encoding_is_over}
use Rattle.ms_logic_words.specs.Word.{IsEncoding}
use Rattle.ms_dfa.specs.Automaton.{IsAutomaton}
use Rattle.ms_dfa.specs.Values.{IsMeaning, HasValues, own_meaning}
use Rattle.ms_dfa.proofs.EncodingLemmas.{shortest, sign_of_encoding}

module _ {S : Type 0} (content : Content S) (closed : IsClosed content) where
  -- the state at a place of the list leads on
  followed : (place : ℕ) (state : StateOf S) → slice_get content.states place ≡ Some state → IsFollowed content is_in_letters state.next
  followed place state held =
      subst (λ (found : StateOf S). IsFollowed content is_in_letters found.next) (get_or_from_slice_get content.states place state state held)
      (closed.next place state (slice_get_within content.states place state held))

  -- a letter leads from a state to a state
  pub next_within : (place : ℕ) (letter : List Bool) → place < length content.states → next_state content place letter < length content.states
  next_within place letter within =
      let held = slice_get-held content.states place within in
      subst (λ found. next_from content found letter < length content.states) (sym held.1)
      ((followed place held.0 held.1).states (letter_bits content.variables letter))

  after_within : (place : ℕ) (letters : List (List Bool)) → place < length content.states → state_after content place letters < length content.states
  after_within place [] within = within
  after_within place (letter ∷ letters) within = after_within (next_state content place letter) letters (next_within place letter within)

  -- each word ends in a state
  pub last_within : (word : Word) → last_state content word < length content.states
  last_within word = after_within (first_state content word.truth) word.letters (closed.start.states (truth_bits content.variables word.truth))

  -- and so has a sign
  pub word_has_sign : (word : Word) → (sign : S) × (sign_of content word ≡ Some sign)
  word_has_sign word =
      let held = slice_get-held content.states (last_state content word) (last_within word) in
      (held.0.sign, ap (option_map (λ (found : StateOf S). found.sign)) held.1)

-- a sign that is not another than Outside is Outside
outside_by : (sign : Sign) → ((Some sign ≢ Some Outside) → ⊥) → sign ≡ Outside
outside_by Yes never = absurd (never (λ same. cc))
outside_by No never = absurd (never (λ same. cc))
outside_by Undefined never = absurd (never (λ same. cc))
outside_by Outside never = refl

module _ (content : Content Sign) (automaton : IsAutomaton content) where
  -- a word that encodes no assignment has the sign Outside
  pub sign_outside : (word : Word) → IsWordOver content.variables word → IsOutside content.mode content.variables word → sign_of content word ≡ Some Outside
  sign_outside word over outside =
      let found = word_has_sign content automaton.closed word in
      found.1 ∙ ap Some (outside_by found.0 (λ differs. outside ((automaton.encodings word over).1 (λ same. differs (sym found.1 ∙ same)))))

  -- the signs of an automaton are the values of its own meaning
  pub HasValues-own : HasValues (own_meaning content) content
  HasValues-own = record {
    right = λ word e assigned encodes.
        let found = word_has_sign content automaton.closed word in
        (found.0, found.1, sym (sign_of_encoding content automaton e assigned word encodes) ∙ found.1);
    outside = sign_outside;
  }

  -- of which there is one at each assignment, other than Outside
  pub IsMeaning-own : IsMeaning content.mode content.variables (own_meaning content)
  IsMeaning-own = record {
    one = λ e first second assigned one two. same_Some first second (sym one ∙ two);
    inside = λ e assigned outside.
        let encodes = shortest content automaton e assigned in
        let encoding : IsEncoding content.mode content.variables _ = (e, assigned, encodes) in
        (automaton.encodings _ (encoding_is_over content.variables _ e encodes)).0 encoding outside;
  }
