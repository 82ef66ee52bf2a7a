-- An automaton whose signs are changed is one, where Outside stays and comes from Outside alone.
use Rattle.std.proofs.Common.{◌≡◌, ℕ, ◌+◌, ◌<◌, Bool, List, [], ◌∷◌, ◌++◌, IfSome, take, get_or, length, map, slice_get, Option, Some, None, refl, sym, ap, subst, ◌∙◌, arith}
use Rattle.std.specs.Option.{option_map}
use Rattle.std.proofs.lemmas.List.{length-map, map_push, take_more}
use Rattle.std.proofs.lemmas.Option.{slice_get-map, slice_get_within, get_or_from_slice_get, same_Some}
use Rattle.ms_list.specs.declared.word.Word.{Word}
use Rattle.ms_arena.specs.declared.node.Ref.{Ref}
use Rattle.ms_arena.proofs.Lists.{slice_get-held}
use Rattle.ms_arena.specs.declared.node.Node.{Node}
use Rattle.ms_dfa.specs.declared.state.State.{State}
use Rattle.ms_dfa.specs.declared.track.Track.{Track}
use Rattle.ms_dfa.specs.Automaton.{IsAutomaton, content_of, state_of, states_of, variables_of}
use Rattle.ms_logic.specs.declared.mode.Mode.{Mode}
use Rattle.ms_logic.specs.declared.mode.Order.{Order}
use Rattle.ms_logic_words.specs.declared.sign.Sign.{Sign}
use Rattle.ms_logic_words.specs.declared.sign.Sign.TheVariants.{Yes, No, Undefined, Outside}
use Rattle.ms_logic_words.specs.Content.{StateOf, Content, IsClosed, IsFollowed, is_in_letters, first_state, next_from, next_state, state_after, last_state, sign_at, sign_of, with_zero_letter}
use Rattle.ms_dfa.specs.Values.{HasValues, own_meaning}
use Rattle.ms_dfa.proofs.OwnMeaningLemmas.{word_has_sign, HasValues-own}
use Rattle.ms_product.specs.declared.change.Change.{Change}
use Rattle.ms_product.specs.declared.change.Change.TheVariants.{Negation, Restriction}
use Rattle.ms_product.specs.Combined.{changed, with_sign, with_signs}
use Rattle.ms_product.specs.Signs.{change_by}

-- a change of signs keeps Outside, and makes it of nothing else
pub record KeepsOutside (change : Sign → Sign) : Type 0 where
  pub outside : change Outside ≡ Outside
  pub only : (sign : Sign) → change sign ≡ Outside → sign ≡ Outside

pub KeepsOutside-change : (change : Change) → KeepsOutside (change_by change)
KeepsOutside-change Negation = record {
  outside = refl;
  only = elim [ Yes ↦ (λ same. let never : ⊥ = cc in absurd never) | No ↦ (λ same. let never : ⊥ = cc in absurd never) | Undefined ↦ (λ same. let never : ⊥ = cc in absurd never) | Outside ↦ (λ same. refl) ];
}
KeepsOutside-change Restriction = record {
  outside = refl;
  only = elim [ Yes ↦ (λ same. let never : ⊥ = cc in absurd never) | No ↦ (λ same. let never : ⊥ = cc in absurd never) | Undefined ↦ (λ same. let never : ⊥ = cc in absurd never) | Outside ↦ (λ same. refl) ];
}

module _ (change : Sign → Sign) (content : Content Sign) where
  next-changed : (state : ℕ) (letter : List Bool) → next_state (with_signs change content) state letter ≡ next_state content state letter
  next-changed state letter =
      ap (λ found. next_from (with_signs change content) found letter) (slice_get-map (with_sign change) content.states state) ∙ by (slice_get content.states state)
    where
      by : (found : Option (StateOf Sign)) → next_from (with_signs change content) (option_map (with_sign change) found) letter ≡ next_from content found letter
      by None = refl
      by (Some state_there) = refl

  after-changed : (state : ℕ) (letters : List (List Bool)) → state_after (with_signs change content) state letters ≡ state_after content state letters
  after-changed state [] = refl
  after-changed state (letter ∷ letters) =
      ap (λ s. state_after (with_signs change content) s letters) (next-changed state letter) ∙ after-changed (next_state content state letter) letters

  -- each word has the changed sign
  pub sign_of-changed : (word : Word) → sign_of (with_signs change content) word ≡ option_map change (sign_of content word)
  sign_of-changed word =
      ap (sign_at (with_signs change content)) (after-changed (first_state content word.truth) word.letters)
      ∙ ap (option_map (λ (found : StateOf Sign). found.sign)) (slice_get-map (with_sign change) content.states (last_state content word))
      ∙ by (slice_get content.states (last_state content word))
    where
      by : (found : Option (StateOf Sign)) → option_map (λ (s : StateOf Sign). s.sign) (option_map (with_sign change) found) ≡ option_map change (option_map (λ (s : StateOf Sign). s.sign) found)
      by None = refl
      by (Some state_there) = refl

  count-changed : length (with_signs change content).states ≡ length content.states
  count-changed = length-map content.states (with_sign change)

  followed-changed : (has_value : Order → Bool) (reference : Ref) → IsFollowed content has_value reference → IsFollowed (with_signs change content) has_value reference
  followed-changed has_value reference is = record {
    valid = is.valid;
    states = λ bits. (let below = is.states bits in omega (arith, below, count-changed));
    tests = is.tests;
  }

  closed-changed : IsClosed content → IsClosed (with_signs change content)
  closed-changed closed = record {
    start = followed-changed _ content.start closed.start;
    next = λ place other within.
        let held = slice_get-held content.states place (omega (arith, within, count-changed)) in
        let is = subst (λ (s : StateOf Sign). IsFollowed content is_in_letters s.next) (get_or_from_slice_get content.states place held.0 held.0 held.1)
        (closed.next place held.0 (slice_get_within content.states place held.0 held.1)) in
        let there = slice_get-map (with_sign change) content.states place ∙ ap (option_map (with_sign change)) held.1 in
        subst (λ (s : StateOf Sign). IsFollowed (with_signs change content) is_in_letters s.next)
        (sym (get_or_from_slice_get (with_signs change content).states place (with_sign change held.0) other there)) (followed-changed is_in_letters held.0.next is);
  }

  module _ (automaton : IsAutomaton content) (keeps : KeepsOutside change) where
    pub HasValues-changed : HasValues (changed change (own_meaning content)) (with_signs change content)
    HasValues-changed = record {
      right = λ word e assigned encodes.
          let found = (HasValues-own content automaton).right word e assigned encodes in
          (change found.0, sign_of-changed word ∙ ap (option_map change) found.1, (found.0, found.2, refl));
      outside = λ word over outside.
          sign_of-changed word ∙ ap (option_map change) ((HasValues-own content automaton).outside word over outside) ∙ ap Some keeps.outside;
    }

    -- it is an automaton
    pub IsAutomaton-changed : IsAutomaton (with_signs change content)
    IsAutomaton-changed = record {
      ordered = automaton.ordered;
      reduced = automaton.reduced;
      closed = closed-changed automaton.closed;
      rising = automaton.rising;
      few_states = (let few = automaton.few_states in omega (arith, few, count-changed));
      encodings = λ word over. (
        λ encoding same. (automaton.encodings word over).0 encoding (stays word same),
        λ inside. (automaton.encodings word over).1 (λ same. inside (sign_of-changed word ∙ ap (option_map change) same ∙ ap Some keeps.outside)),
      );
      settled = λ numbers word over encoding. sign_of-changed (with_zero_letter content.variables word) ∙ ap (option_map change) (automaton.settled numbers word over encoding) ∙ sym (sign_of-changed word);
    }
      where
        stays : (word : Word) → sign_of (with_signs change content) word ≡ Some Outside → sign_of content word ≡ Some Outside
        stays word same =
            let found = word_has_sign content automaton.closed word in
            let is : change found.0 ≡ Outside = same_Some (change found.0) Outside (sym (sign_of-changed word ∙ ap (option_map change) found.1) ∙ same) in
            found.1 ∙ ap Some (keeps.only found.0 is)

-- a content of these parts
pub content_is : (nodes : List Node) (mode : Mode) (tracks : List Track) (start : Ref) (states : List State) (content : Content Sign) → nodes ≡ content.nodes → mode ≡ content.mode
    → variables_of tracks ≡ content.variables → start ≡ content.start → states_of states ≡ content.states → content_of nodes mode tracks start states ≡ content
content_is nodes mode tracks start states content same_nodes same_mode same_variables same_start same_states =
    λ i. record { mode = same_mode i; variables = same_variables i; start = same_start i; states = same_states i; nodes = same_nodes i }

-- one state more
pub states-more : (change : Sign → Sign) (content : Content Sign) (made : List State) (place : ℕ) (sign new_sign : Sign) (next : Ref)
    → states_of made ≡ take place (map (with_sign change) content.states) → place < length content.states → sign_at content place ≡ Some sign → new_sign ≡ change sign
    → IfSome (slice_get content.states place) (λ (found : StateOf Sign). next ≡ found.next)
    → states_of (made ++ record { sign = new_sign; next = next } ∷ []) ≡ take (place + 1) (map (with_sign change) content.states)
states-more change content made place sign new_sign next was within is_sign is_new is_next =
    let held = slice_get-held content.states place within in
    let own : sign ≡ held.0.sign = same_Some sign held.0.sign (sym is_sign ∙ ap (option_map (λ (found : StateOf Sign). found.sign)) held.1) in
    let next_is : next ≡ held.0.next = subst (λ found. IfSome found (λ (s : StateOf Sign). next ≡ s.next)) held.1 is_next in
    let all = map (with_sign change) content.states in
    let there : slice_get all place ≡ Some (with_sign change held.0) = slice_get-map (with_sign change) content.states place ∙ ap (option_map (with_sign change)) held.1 in
    let item : get_or all place (with_sign change held.0) ≡ with_sign change held.0 = get_or_from_slice_get all place (with_sign change held.0) (with_sign change held.0) there in
    let sign_is : new_sign ≡ change held.0.sign = is_new ∙ ap change own in
    let state_is : state_of (record { sign = new_sign; next = next }) ≡ with_sign change held.0 = λ i. record { sign = sign_is i; next = next_is i } in
    map_push state_of made (record { sign = new_sign; next = next })
    ∙ ap (λ list. list ++ state_of (record { sign = new_sign; next = next }) ∷ []) was
    ∙ ap (λ (s : StateOf Sign). take place all ++ s ∷ []) (state_is ∙ sym item)
    ∙ sym (take_more all place (with_sign change held.0) (slice_get_within all place (with_sign change held.0) there))
