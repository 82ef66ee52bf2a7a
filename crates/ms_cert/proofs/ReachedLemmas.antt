-- One word more of what a search by levels has reached, and one node more.
use Rattle.std.proofs.Common.{◌≡◌, ◌≢◌, ℕ, ◌<◌, ◌≤◌, Bool, true, false, List, [], ◌∷◌, ◌++◌, length, replicate, slice_get, slice_set, Some, refl, sym, ap, subst, ◌∙◌, arith, ⊎_elim, length-set}
use Rattle.std.proofs.lemmas.List.{length-replicate}
use Rattle.std.proofs.lemmas.Option.{none-some, same_Some, slice_get_within}
use Rattle.ms_list.specs.declared.word.Word.{Word}
use Rattle.ms_arena.specs.declared.node.Ref.TheVariants.{Inner}
use Rattle.ms_arena.proofs.Lists.{slice_get-append_some, slice_get-push, slice_get-pushed, slice_get-set_other, slice_get-set_same}
use Rattle.ms_dfa.specs.declared.plain.FileSign.{FileSign}
use Rattle.ms_logic_words.specs.Content.{Content}
use Rattle.ms_cert.specs.inner.Lengths.{letters_in, letters_to}
use Rattle.ms_cert.specs.inner.Levels.{AreUpTo, IsKept, IsKnown, IsReached, IsWordOf, IsWordTo, Leads, Reached, with_node, with_word}
use Rattle.ms_cert.proofs.LevelsLemmas.{get-replicate, leads-kept, letters-kept, true-set, true-stays}

-- what is reached is the same where its parts are
pub reached-same : (one two : Reached) → one.words ≡ two.words → one.known ≡ two.known → one.seen ≡ two.seen → one.order ≡ two.order → one ≡ two
reached-same one two words known seen order =
    let with_words : List Word → Reached = λ w. record { words = w; known = one.known; seen = one.seen; order = one.order } in
    let with_known : List Bool → Reached = λ k. record { words = two.words; known = k; seen = one.seen; order = one.order } in
    let with_seen : List Bool → Reached = λ s. record { words = two.words; known = two.known; seen = s; order = one.order } in
    let with_order : List ℕ → Reached = λ o. record { words = two.words; known = two.known; seen = two.seen; order = o } in
    ap with_words words ∙ ap with_known known ∙ ap with_seen seen ∙ ap with_order order

module _ (content : Content FileSign) (old : Reached) (is : IsReached content old) where
  module _ (level state : ℕ) (word : Word) (few : AreUpTo level old) (of_level : IsWordOf content level state word) (within : state < length content.states) (unknown : ¬ IsKnown old state) where
    differ : (s : ℕ) → IsKnown old s → s ≢ state
    differ s known same = unknown (subst (IsKnown old) same known)

    pub word-kept : IsKept old (with_word old state word)
    word-kept = record {
      known = λ s known. true-stays old.known state s known;
      words = λ s known. slice_get-set_other old.words state s word (differ s known);
      order = λ at s there. slice_get-append_some old.order (state ∷ []) at s there;
    }

    own_word : slice_get (slice_set old.words state word) state ≡ Some word
    own_word = slice_get-set_same old.words state word (omega (arith, is.words_count, within))

    own_letters : letters_to (slice_set old.words state word) state ≡ level
    own_letters = ap letters_in own_word ∙ of_level.long

    pub word-known : IsKnown (with_word old state word) state
    word-known = slice_get-set_same old.known state true (omega (arith, is.known_count, within))

    -- what is known has the same letters as before, or is the state
    old_letters : (s : ℕ) → IsKnown old s → letters_to (slice_set old.words state word) s ≡ letters_to old.words s
    old_letters s known = letters-kept old (with_word old state word) word-kept s known

    pub word-few : AreUpTo level (with_word old state word)
    word-few = λ s known. ⊎_elim
        (λ here. let same = ap (letters_to (slice_set old.words state word)) here in omega (arith, same, own_letters))
        (λ before. let fewer = few s before in omega (arith, fewer, old_letters s before))
        (true-set old.known state s known)

    rises : (early late one other : ℕ) → early ≤ late → slice_get (old.order ++ state ∷ []) early ≡ Some one → slice_get (old.order ++ state ∷ []) late ≡ Some other
        → letters_to (slice_set old.words state word) one ≤ letters_to (slice_set old.words state word) other
    rises early late one other less first then = ⊎_elim
        (λ then_before. ⊎_elim
        (λ first_before.
        let risen = is.rising early late one other less first_before then_before in
        omega (arith, risen, old_letters one (is.ordered early one first_before), old_letters other (is.ordered late other then_before)))
        (λ first_here. let short = slice_get_within old.order late other then_before in absurd (omega (arith, first_here.0, less, short)))
        (slice_get-pushed old.order state early one first))
        (λ then_here.
        let end = ap (letters_to (slice_set old.words state word)) then_here.1 in
        ⊎_elim
        (λ first_before.
        let known = is.ordered early one first_before in
        let fewer = few one known in
        omega (arith, fewer, old_letters one known, end, own_letters))
        (λ first_here.
        let same = ap (letters_to (slice_set old.words state word)) first_here.1 in
        omega (arith, same, end))
        (slice_get-pushed old.order state early one first))
        (slice_get-pushed old.order state late other then)

    pub word-reached : IsReached content (with_word old state word)
    word-reached = record {
      words_count = length-set old.words state word ∙ is.words_count;
      known_count = length-set old.known state true ∙ is.known_count;
      seen_count = is.seen_count;
      words = λ s found known there. ⊎_elim
          (λ here.
          let held : slice_get (slice_set old.words state word) state ≡ Some found = subst (λ (n : ℕ). slice_get (slice_set old.words state word) n ≡ Some found) here there in
          let same : word ≡ found = same_Some word found (sym own_word ∙ held) in
          subst (λ (n : ℕ). IsWordTo content n found) (sym here) (subst (λ (w : Word). IsWordTo content state w) same of_level.word_to))
          (λ before. is.words s found before (sym (slice_get-set_other old.words state s word (differ s before)) ∙ there))
          (true-set old.known state s known);
      seen = λ at seen. leads-kept content old (with_word old state word) (Inner at) word-kept (is.seen at seen);
      listed = λ s known. ⊎_elim
          (λ here. (length old.order, subst (λ (n : ℕ). slice_get (old.order ++ state ∷ []) (length old.order) ≡ Some n) (sym here) (slice_get-push old.order state)))
          (λ before. let was = is.listed s before in (was.0, slice_get-append_some old.order (state ∷ []) was.0 s was.1))
          (true-set old.known state s known);
      ordered = λ at s there. ⊎_elim
          (λ before. true-stays old.known state s (is.ordered at s before))
          (λ here. subst (IsKnown (with_word old state word)) here.1 word-known)
          (slice_get-pushed old.order state at s there);
      rising = rises;
    }

  module _ (place : ℕ) (leads : Leads content old (Inner place)) where
    pub node-kept : IsKept old (with_node old place)
    node-kept = record { known = λ s k. k; words = λ s k. refl; order = λ at s k. k }

    pub node-reached : IsReached content (with_node old place)
    node-reached = record {
      words_count = is.words_count;
      known_count = is.known_count;
      seen_count = length-set old.seen place true ∙ is.seen_count;
      words = is.words;
      seen = λ at seen. ⊎_elim
          (λ here. subst (λ (n : ℕ). Leads content (with_node old place) (Inner n)) (sym here) leads)
          (λ before. is.seen at before)
          (true-set old.seen place at seen);
      listed = is.listed;
      ordered = is.ordered;
      rising = is.rising;
    }

-- nothing is reached at first
pub none-reached : (content : Content FileSign) (words : List Word) → length words ≡ length content.states
    → IsReached content (record { words = words; known = replicate (length content.states) false; seen = replicate (length content.nodes) false; order = [] })
none-reached content words count = record {
  words_count = count;
  known_count = length-replicate (length content.states) false;
  seen_count = length-replicate (length content.nodes) false;
  words = λ s word known there. absurd (get-replicate (length content.states) s known);
  seen = λ at seen. absurd (get-replicate (length content.nodes) at seen);
  listed = λ s known. absurd (get-replicate (length content.states) s known);
  ordered = λ at s there. absurd (none-some s there);
  rising = λ early late one other less first then. absurd (none-some one first);
}

pub none-few : (words : List Word) (n m level : ℕ) → AreUpTo level (record { words = words; known = replicate n false; seen = replicate m false; order = [] })
none-few words n m level = λ s known. absurd (get-replicate n s known)
