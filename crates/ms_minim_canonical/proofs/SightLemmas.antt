-- Each state of a canonical content is first seen behind the start or states with smaller numbers.
use Rattle.std.proofs.Common.{◌≡◌, ℕ, zero, suc, ◌<◌, ◌≤◌, ⊎_elim, Bool, List, [], ◌∷◌, ◌++◌, length, take, drop, slice_get, refl, sym, ap, subst, ◌∙◌, arith, append_assoc}
use Rattle.std.specs.List.{flat_map}
use Rattle.std.proofs.lemmas.Bool.{cases_lt, false≢true}
use Rattle.std.proofs.lemmas.List.{take-append-drop}
use Rattle.std.proofs.lemmas.List.Concat.{flat_map-append}
use Rattle.ms_list.specs.declared.word.Word.{Word}
use Rattle.ms_arena.specs.Diagram.{leaf_of}
use Rattle.ms_arena.specs.Leaves.{leaves_within}
use Rattle.ms_arena.specs.Target.{Extends}
use Rattle.ms_arena.proofs.Lists.{slice_get-held}
use Rattle.ms_logic_words.specs.Canonical.{IsCanonical, first_sights_of, seen_leaves}
use Rattle.ms_logic_words.specs.Content.{StateOf, Content, first_state, next_from, next_state, state_after, last_state, truth_bits, letter_bits}
use Rattle.ms_logic.specs.FiniteSet.{IsMember, numbers_below}
use Rattle.ms_dfa.proofs.OwnMeaningLemmas.{next_within}
use Rattle.ms_minim_canonical.proofs.ContentLemmas.{IsClosed-content, valid-named}
use Rattle.ms_minim_canonical.proofs.FirstSightLemmas.{unseen-append, unseen-member, member_below}
use Rattle.ms_minim_canonical.proofs.WalkLemmas.{flat_map-member, leaf_member, member-left, member-right}

-- the leaves behind a state, and those behind the start and the first states
abbrev pub leaves_of : {Sign : Type 0} → Content Sign → StateOf Sign → List ℕ
leaves_of content state = leaves_within content.nodes (length content.nodes) state.next

abbrev pub leaves_to : {Sign : Type 0} → Content Sign → ℕ → List ℕ
leaves_to content count = leaves_within content.nodes (length content.nodes) content.start ++ flat_map (leaves_of content) (take count content.states)

slice_get-take : {X : Type 0} (list : List X) (count place : ℕ) → place < count → slice_get (take count list) place ≡ slice_get list place
slice_get-take [] zero place less = refl
slice_get-take [] (suc count) place less = refl
slice_get-take (x ∷ list) zero place less = absurd (omega arith)
slice_get-take (x ∷ list) (suc count) zero less = refl
slice_get-take (x ∷ list) (suc count) (suc place) less = slice_get-take list count place (omega arith)

module _ {Sign : Type 0} (content : Content Sign) (canonical : IsCanonical content) (count : ℕ) where
  abbrev pub sights : List ℕ
  sights = first_sights_of (leaves_to content count)

  -- the first sights behind the first states are the first numbers
  pub first_numbers : Extends sights (numbers_below (length content.states))
  first_numbers =
      let whole : seen_leaves content ≡ leaves_to content count ++ flat_map (leaves_of content) (drop count content.states)
      = ap (λ states. leaves_within content.nodes (length content.nodes) content.start ++ flat_map (leaves_of content) states) (sym (take-append-drop count content.states))
      ∙ ap (λ leaves. leaves_within content.nodes (length content.nodes) content.start ++ leaves) (flat_map-append (leaves_of content) (take count content.states) (drop count content.states))
      ∙ sym (append_assoc (leaves_within content.nodes (length content.nodes) content.start) (flat_map (leaves_of content) (take count content.states)) (flat_map (leaves_of content) (drop count content.states))) in
      subst (Extends sights) (ap first_sights_of (sym whole) ∙ canonical.states_numbered)
      (unseen-append [] (leaves_to content count) (flat_map (leaves_of content) (drop count content.states)))

  -- a leaf behind the start or one of the first states is one of these numbers
  sighted : (n : ℕ) → IsMember n (leaves_to content count) → n < length sights
  sighted n member = ⊎_elim
      (λ none. absurd (false≢true none))
      (λ seen. member_below (length content.states) sights first_numbers n seen)
      (unseen-member [] (leaves_to content count) n member)

  -- words do not leave the states that were seen, where all of these are among the first
  sighted_start : (truth : List Bool) → first_state content truth < length sights
  sighted_start truth =
      sighted (first_state content truth)
      (member-left (leaves_within content.nodes (length content.nodes) content.start) (flat_map (leaves_of content) (take count content.states)) (first_state content truth)
      (leaf_member content.nodes canonical.rules.ordered (truth_bits content.variables truth) (length content.nodes) content.start
      (valid-named content content.start canonical.rules.start_named) (omega arith)))

  module _ (early : length sights ≤ count) where
    sighted_next : (state : ℕ) (letter : List Bool) → state < length sights → state < length content.states → next_state content state letter < length sights
    sighted_next state letter less within =
        let held = slice_get-held content.states state within in
        subst (λ found. next_from content found letter < length sights) (sym held.1)
        (sighted (leaf_of content.nodes held.0.next (letter_bits content.variables letter))
        (member-right (leaves_within content.nodes (length content.nodes) content.start) (flat_map (leaves_of content) (take count content.states))
        (leaf_of content.nodes held.0.next (letter_bits content.variables letter))
        (flat_map-member (leaves_of content) (take count content.states) state held.0 (leaf_of content.nodes held.0.next (letter_bits content.variables letter))
        (slice_get-take content.states count state (omega (arith, less, early)) ∙ held.1)
        (leaf_member content.nodes canonical.rules.ordered (letter_bits content.variables letter) (length content.nodes) held.0.next
        (valid-named content held.0.next (canonical.rules.next_named state held.0 held.1)) (omega arith)))))

    sighted_after : (state : ℕ) (letters : List (List Bool)) → state < length sights → state < length content.states → state_after content state letters < length sights
    sighted_after state [] less within = less
    sighted_after state (letter ∷ letters) less within =
        sighted_after (next_state content state letter) letters (sighted_next state letter less within)
        (next_within content (IsClosed-content content canonical.rules) state letter within)

    sighted_last : (word : Word) → last_state content word < length sights
    sighted_last word =
        sighted_after (first_state content word.truth) word.letters (sighted_start word.truth)
        ((IsClosed-content content canonical.rules).start.states (truth_bits content.variables word.truth))

  -- so the next state is seen in time
  pub in_time : count < length content.states → count < length sights
  in_time within = ⊎_elim
      (λ less. less)
      (λ early.
      let reached = canonical.states_reached count within in
      let last = sighted_last early reached.0 in
      let is : last_state content reached.0 ≡ count = reached.2 in
      absurd (omega (arith, early, last, is)))
      (cases_lt count (length sights))
