-- The sets of a subset construction are the sets of states that words reach.
use Rattle.std.proofs.Common.{◌≡◌, ℕ, ◌<◌, Bool, List, [], ◌∷◌, ◌++◌, length, slice_get, Some, refl, sym, ap, subst, ◌∙◌}
use Rattle.std.specs.Prelude.{map as map_list}
use Rattle.std.proofs.lemmas.List.{map-append}
use Rattle.std.proofs.lemmas.Option.{slice_get_within, get_or_from_slice_get}
use Rattle.ms_list.specs.declared.word.Word.{Word}
use Rattle.ms_arena.specs.Diagram.{leaf_of, IsOrdered}
use Rattle.ms_arena.proofs.Lists.{slice_get-held}
use Rattle.ms_diagram.specs.Collect.{IsRisingSet}
use Rattle.ms_diagram.specs.inner.Collecting.{IsRisingSet-same}
use Rattle.ms_logic_words.specs.declared.sign.Sign.{Sign}
use Rattle.ms_logic.specs.Assignment.{Variable}
use Rattle.ms_logic_words.specs.Content.{Content, StateOf, IsClosed, IsFollowed, IsWordOver, AreLetters, count_of, is_truth_value, is_in_letters, truth_bits, letter_bits, first_state, next_state, next_from, state_after, last_state}
use Rattle.ms_dfa.specs.Narrow.{narrowed, narrowed_letter}
use Rattle.ms_dfa.proofs.OwnMeaningLemmas.{last_within}
use Rattle.ms_project.specs.Subsets.{IsLeftOut, opened, next_of, next_ref, IsFirst, IsBehind, Reaches, IsReachedSet}
use Rattle.ms_project.proofs.RestLemmas.{widened, length-widened, widened-narrowed, leaf_of-widened, leaf_of-opened}

-- the state after one more letter
pub state_after-more : (content : Content Sign) (state : ℕ) (letters : List (List Bool)) (letter : List Bool)
    → state_after content state (letters ++ letter ∷ []) ≡ next_state content (state_after content state letters) letter
state_after-more content state [] letter = refl
state_after-more content state (first ∷ letters) letter = state_after-more content (next_state content state first) letters letter

AreLetters-push : (variables : List Variable) (letters : List (List Bool)) (letter : List Bool) → AreLetters variables letters → length letter ≡ count_of is_in_letters variables
    → AreLetters variables (letters ++ letter ∷ [])
AreLetters-push variables [] letter are long = (long, tt)
AreLetters-push variables (first ∷ letters) letter are long = (are.0, AreLetters-push variables letters letter are.1 long)

AreLetters-init : (variables : List Variable) (letters : List (List Bool)) (letter : List Bool) → AreLetters variables (letters ++ letter ∷ []) → AreLetters variables letters
AreLetters-init variables [] letter are = tt
AreLetters-init variables (first ∷ letters) letter are = (are.0, AreLetters-init variables letters letter are.1)

-- one letter more at the end of a word
abbrev pub with_letter : Word → List Bool → Word
with_letter word letter = record word { letters = word.letters ++ letter ∷ [] }

-- a list whose image ends in an item ends in one that has that image
record EndsIn {A B : Type 0} (f : A → B) (xs : List A) (ys : List B) (y : B) : Type 0 where
  init : List A
  last : A
  is : xs ≡ init ++ last ∷ []
  init_image : map_list f init ≡ ys
  last_image : f last ≡ y

ends_in : {A B : Type 0} (f : A → B) (xs : List A) (ys : List B) (y : B) → map_list f xs ≡ ys ++ y ∷ [] → EndsIn f xs ys y
ends_in f [] [] y same = let never : ⊥ = cc in absurd never
ends_in f [] (z ∷ ys) y same = let never : ⊥ = cc in absurd never
ends_in f (x ∷ []) [] y same = record { init = []; last = x; is = refl; init_image = refl; last_image = (let e : f x ≡ y = cc in e) }
ends_in f (x ∷ w ∷ xs) [] y same = let never : ⊥ = cc in absurd never
ends_in f (x ∷ xs) (z ∷ ys) y same =
    let first : f x ≡ z = cc in
    let more : map_list f xs ≡ ys ++ y ∷ [] = cc in
    let found = ends_in f xs ys y more in
    record { init = x ∷ found.init; last = found.last; is = ap (λ list. x ∷ list) found.is; init_image = (λ i. first i ∷ found.init_image i); last_image = found.last_image }

module _ (content : Content Sign) (ordered : IsOrdered content.nodes) (closed : IsClosed content) (rest : List Variable) (bound : ℕ) (into back : List ℕ)
    (out : IsLeftOut content.variables rest bound into back) where
  followed : (state : ℕ) (found : StateOf Sign) → slice_get content.states state ≡ Some found → IsFollowed content is_in_letters found.next
  followed state found held =
      subst (λ (s : StateOf Sign). IsFollowed content is_in_letters s.next) (get_or_from_slice_get content.states state found found held)
      (closed.next state found (slice_get_within content.states state found held))

  -- a state leads by its reference
  next_state-is : (state : ℕ) (found : StateOf Sign) → slice_get content.states state ≡ Some found → (letter : List Bool)
      → next_state content state letter ≡ leaf_of content.nodes (next_of content state) (letter_bits content.variables letter)
  next_state-is state found held letter =
      ap (λ at. next_from content at letter) held ∙ ap (λ at. leaf_of content.nodes (next_ref at) (letter_bits content.variables letter)) (sym held)

  -- what is reached by truth values alone
  first_reached : (truth : List Bool) (state : ℕ) → length truth ≡ count_of is_truth_value rest → IsFirst content back bound (truth_bits rest truth) state
      → Reaches content rest into (record { truth = truth; letters = [] }) state
  first_reached truth state long first =
      let own = widened is_truth_value content.variables rest bound into back out truth first.0 in (
        record { truth = own; letters = [] },
        record { truth = length-widened is_truth_value content.variables rest bound into back out truth first.0; letters = tt },
        ap (λ (t : List Bool). record { truth = t; letters = [] }) (widened-narrowed is_truth_value content.variables rest bound into back out truth first.0 long),
        leaf_of-widened is_truth_value content.variables rest bound into back out content.nodes ordered content.start closed.start.valid closed.start.tests truth first.0 ∙ first.1,
      )

  reached_first : (truth : List Bool) (state : ℕ) → Reaches content rest into (record { truth = truth; letters = [] }) state → IsFirst content back bound (truth_bits rest truth) state
  reached_first truth state reaches = by_letters reaches.0.truth reaches.0.letters reaches.2 reaches.3
    where
      by_letters : (own : List Bool) (letters : List (List Bool)) → narrowed into rest content.variables (record { truth = own; letters = letters }) ≡ record { truth = truth; letters = [] }
          → last_state content (record { truth = own; letters = letters }) ≡ state → IsFirst content back bound (truth_bits rest truth) state
      by_letters own [] same last = (
        truth_bits content.variables own bound,
        leaf_of-opened is_truth_value content.variables rest bound into back out content.nodes ordered content.start closed.start.valid closed.start.tests own truth (ap (λ (w : Word). w.truth) same) ∙ last,
      )
      by_letters own (letter ∷ letters) same last = let none : map_list (narrowed_letter into rest content.variables) (letter ∷ letters) ≡ [] = ap (λ (w : Word). w.letters) same in let never : ⊥ = cc in absurd never

  pub reached_start : (truth : List Bool) (set : List ℕ) → length truth ≡ count_of is_truth_value rest → IsRisingSet set (IsFirst content back bound (truth_bits rest truth))
      → IsReachedSet content rest into (record { truth = truth; letters = [] }) set
  reached_start truth set long is = IsRisingSet-same set (IsFirst content back bound (truth_bits rest truth)) (Reaches content rest into (record { truth = truth; letters = [] }))
      (λ state. first_reached truth state long) (λ state. reached_first truth state) is

  module _ (word : Word) (from : List ℕ) (reached : IsReachedSet content rest into word from) (letter : List Bool) where
    behind_reached : (state : ℕ) → length letter ≡ count_of is_in_letters rest → IsBehind content back bound from (letter_bits rest letter) state → Reaches content rest into (with_letter word letter) state
    behind_reached state long behind =
        let before = reached.only behind.0 behind.2 in
        let own = widened is_in_letters content.variables rest bound into back out letter behind.1 in
        let held = slice_get-held content.states behind.0 (subst (λ s. s < length content.states) before.3 (last_within content closed before.0)) in
        let is = followed behind.0 held.0 held.1 in
        let root_is : held.0.next ≡ next_of content behind.0 = ap next_ref (sym held.1) in (
          with_letter before.0 own,
          record {
            truth = before.1.truth;
            letters = AreLetters-push content.variables before.0.letters own before.1.letters (length-widened is_in_letters content.variables rest bound into back out letter behind.1);
          },
          (let letters = map-append (narrowed_letter into rest content.variables) before.0.letters (own ∷ [])
              ∙ ap (λ (l : List Bool). map_list (narrowed_letter into rest content.variables) before.0.letters ++ l ∷ []) (widened-narrowed is_in_letters content.variables rest bound into back out letter behind.1 long) in
              ap (λ (ls : List (List Bool)). record (narrowed into rest content.variables before.0) { letters = ls }) letters ∙ ap (λ (w : Word). with_letter w letter) before.2),
          state_after-more content (first_state content before.0.truth) before.0.letters own
              ∙ ap (λ s. next_state content s own) before.3
              ∙ ap (λ at. next_from content at own) held.1
              ∙ leaf_of-widened is_in_letters content.variables rest bound into back out content.nodes ordered held.0.next is.valid is.tests letter behind.1
              ∙ ap (λ root. leaf_of content.nodes root (opened back bound (letter_bits rest letter) behind.1)) root_is
              ∙ behind.3,
        )

    reached_behind : (state : ℕ) → Reaches content rest into (with_letter word letter) state → IsBehind content back bound from (letter_bits rest letter) state
    reached_behind state reaches =
        let parts = ends_in (narrowed_letter into rest content.variables) reaches.0.letters word.letters letter (ap (λ (w : Word). w.letters) reaches.2) in
        let init = record reaches.0 { letters = parts.init } in
        let over : IsWordOver content.variables init = record {
          truth = reaches.1.truth;
          letters = AreLetters-init content.variables parts.init parts.last (subst (AreLetters content.variables) parts.is reaches.1.letters);
        } in
        let narrow : narrowed into rest content.variables init ≡ word =
        (let truth : (narrowed into rest content.variables init).truth ≡ word.truth = ap (λ (w : Word). w.truth) reaches.2 in λ i. record { truth = truth i; letters = parts.init_image i }) in
        let place = last_state content init in
        let held = slice_get-held content.states place (last_within content closed init) in
        let is = followed place held.0 held.1 in
        let root_is : held.0.next ≡ next_of content place = ap next_ref (sym held.1) in (
          place,
          letter_bits content.variables parts.last bound,
          reached.all place (init, over, narrow, refl),
          ap (λ root. leaf_of content.nodes root (opened back bound (letter_bits rest letter) (letter_bits content.variables parts.last bound))) (sym root_is)
              ∙ leaf_of-opened is_in_letters content.variables rest bound into back out content.nodes ordered held.0.next is.valid is.tests parts.last letter parts.last_image
              ∙ sym (ap (λ at. next_from content at parts.last) held.1)
              ∙ sym (state_after-more content (first_state content reaches.0.truth) parts.init parts.last)
              ∙ ap (state_after content (first_state content reaches.0.truth)) (sym parts.is)
              ∙ reaches.3,
        )

    -- the set of the states to which a letter leads from those that a word reaches is the set that the longer word reaches
    pub reached_next : (set : List ℕ) → length letter ≡ count_of is_in_letters rest → IsRisingSet set (IsBehind content back bound from (letter_bits rest letter))
        → IsReachedSet content rest into (with_letter word letter) set
    reached_next set long is = IsRisingSet-same set (IsBehind content back bound from (letter_bits rest letter)) (Reaches content rest into (with_letter word letter))
        (λ state. behind_reached state long) reached_behind is
