-- A search by levels, from the start on: each state in its order, until none is left.
use Rattle.std.proofs.Common.{◌≡◌, ℕ, ◌+◌, ◌<◌, ◌≤◌, Bool, List, [], ◌∷◌, ◌++◌, length, slice_get, Option, Some, refl, sym, ap, subst, ◌∙◌, arith, ⊎_elim, length-append}
use Rattle.std.proofs.lemmas.Bool.{cases_lt}
use Rattle.std.proofs.lemmas.Option.{same_Some, slice_get_within}
use Rattle.ms_list.specs.declared.word.Word.{Word}
use Rattle.ms_arena.specs.Diagram.{Bits, leaf_of}
use Rattle.ms_arena.proofs.Lists.{slice_get-held}
use Rattle.ms_dfa.proofs.GatheredLemmas.{length-gathered}
use Rattle.ms_dfa.proofs.NarrowLemmas.{leaf_of-gathered}
use Rattle.ms_dfa.specs.Narrow.{gathered}
use Rattle.ms_dfa.specs.declared.part.Part.TheVariants.{Truth, Letters}
use Rattle.ms_dfa.specs.declared.plain.FileSign.{FileSign}
use Rattle.ms_logic.specs.Assignment.{Variable}
use Rattle.ms_logic_words.specs.Canonical.{IsCanonical}
use Rattle.ms_logic_words.specs.Content.{AreLetters, Content, IsContent, StateOf, count_of, first_state, is_in_letters, is_truth_value, letter_bits, next_from, next_state, state_after, truth_bits}
use Rattle.ms_dfafile_outside.proofs.ContentLemmas.{valid-part}
use Rattle.ms_cert.specs.Certificate.{AreWordsTo, GrowByLetters}
use Rattle.ms_cert.specs.inner.Lengths.{letters_to}
use Rattle.ms_cert.specs.inner.Levels.{AreUpTo, HasBegun, IsKept, IsKnown, IsReached, IsWordTo, Leads, MakesWords, Reached}
use Rattle.ms_cert.proofs.LengthsLemmas.{letters-held}
use Rattle.ms_cert.proofs.LevelsLemmas.{leads-kept, letters-kept}

letters-push : (variables : List Variable) (letters : List (List Bool)) (letter : List Bool) → AreLetters variables letters → length letter ≡ count_of is_in_letters variables → AreLetters variables (letters ++ letter ∷ [])
letters-push variables [] letter are long = (long, tt)
letters-push variables (first ∷ letters) letter are long = (are.0, letters-push variables letters letter are.1 long)

after-push : (content : Content FileSign) (letters : List (List Bool)) (letter : List Bool) (state : ℕ) → state_after content state (letters ++ letter ∷ []) ≡ next_state content (state_after content state letters) letter
after-push content [] letter state = refl
after-push content (first ∷ letters) letter state = after-push content letters letter (next_state content state first)

module _ (content : Content FileSign) (rules : IsContent content) where
  -- truth values lead from the start to their words
  pub makes-start : (from : Word) (bits : Bits) → MakesWords content Truth from bits content.start
  makes-start from bits = λ other agree. record {
    word_to = record {
      over = record { truth = length-gathered is_truth_value content.variables other 0; letters = tt };
      ends = leaf_of-gathered content.nodes is_truth_value content.variables content.start other rules.ordered (valid-part content content.start rules.start_named) rules.start_tests;
    };
    long = refl;
  }

  -- and a letter from a state to the words with that letter more
  pub makes-next : (from : Word) (bits : Bits) (state : ℕ) (own : StateOf FileSign) → slice_get content.states state ≡ Some own → IsWordTo content state from → MakesWords content Letters from bits own.next
  makes-next from bits state own held to = λ other agree.
      let letter = gathered is_in_letters 0 content.variables other in
      record {
        word_to = record {
          over = record { truth = to.over.truth; letters = letters-push content.variables from.letters letter to.over.letters (length-gathered is_in_letters content.variables other 0) };
          ends = after-push content from.letters letter (first_state content from.truth)
              ∙ ap (λ (s : ℕ). next_state content s letter) to.ends
              ∙ ap (λ (found : Option (StateOf FileSign)). next_from content found letter) held
              ∙ leaf_of-gathered content.nodes is_in_letters content.variables own.next other rules.ordered (valid-part content own.next (rules.next_named state own held)) (rules.next_tests state own held);
        };
        long = length-append from.letters (letter ∷ []);
      }

module _ (content : Content FileSign) where
  -- what the start leads to by words without letters
  pub begun-start : (reached : Reached) → IsReached content reached → AreUpTo 0 reached → Leads content reached content.start → HasBegun content reached 0
  begun-start reached is none leads = record {
    reached_so = is;
    start = leads;
    start_none = λ bits. let least = none (leaf_of content.nodes content.start bits) (leads bits) in omega (arith, least);
    early = λ place state own less there held. absurd (omega arith);
    early_next = λ place state own bits less there held. absurd (omega arith);
    few = λ place state less there. λ other known. let least = none other known in omega (arith, least);
  }

  -- the words that are known have one letter more at most than that of the state which is next
  pub begun-few : (reached : Reached) (done state : ℕ) (word : Word) → HasBegun content reached done → slice_get reached.order done ≡ Some state → slice_get reached.words state ≡ Some word → AreUpTo (length word.letters + 1) reached
  begun-few reached done state word is there held = λ other known.
      let most = is.few done state (omega arith) there other known in
      omega (arith, most, letters-held reached.words state word held)

  -- one state more
  pub begun-more : (old new : Reached) (done state : ℕ) (word : Word) (own : StateOf FileSign) → HasBegun content old done → slice_get old.order done ≡ Some state → slice_get old.words state ≡ Some word → slice_get content.states state ≡ Some own
      → IsReached content new → AreUpTo (length word.letters + 1) new → IsKept old new → Leads content new own.next → HasBegun content new (done + 1)
  begun-more old new done state word own is there held_word held reached few kept leads = record {
    reached_so = reached;
    start = leads-kept content old new content.start kept is.start;
    start_none = λ bits. letters-kept old new kept (leaf_of content.nodes content.start bits) (is.start bits) ∙ is.start_none bits;
    early = λ place s found less at held_found. ⊎_elim
        (λ before. leads-kept content old new found.next kept (is.early place s found before (was place s before at) held_found))
        (λ past.
        let same : found ≡ own = last_own place s found less past at held_found in
        subst (λ (o : StateOf FileSign). Leads content new o.next) (sym same) leads)
        (cases_lt place done);
    early_next = λ place s found bits less at held_found. ⊎_elim
        (λ before.
        let at_old = was place s before at in
        let most = is.early_next place s found bits before at_old held_found in
        let one = letters-kept old new kept (leaf_of content.nodes found.next bits) (is.early place s found before at_old held_found bits) in
        let other = letters-kept old new kept s (is.reached_so.ordered place s at_old) in
        omega (arith, most, one, other))
        (λ past.
        let same : found ≡ own = last_own place s found less past at held_found in
        let same_state : s ≡ state = last_state_is place s less past at in
        let to : leaf_of content.nodes found.next bits ≡ leaf_of content.nodes own.next bits = ap (λ (o : StateOf FileSign). leaf_of content.nodes o.next bits) same in
        let most = few (leaf_of content.nodes own.next bits) (leads bits) in
        let moved = ap (letters_to new.words) to in
        let moved_state = ap (letters_to new.words) same_state in
        omega (arith, most, moved, moved_state, long))
        (cases_lt place done);
    few = λ place s less at. λ other known.
        let most = few other known in
        let risen = reached.rising done place state s (omega (arith, less)) (kept.order done state there) at in
        omega (arith, most, risen, long);
  }
    where
      long : letters_to new.words state ≡ length word.letters
      long = letters-kept old new kept state (is.reached_so.ordered done state there) ∙ letters-held old.words state word held_word

      was : (place s : ℕ) → place < done → slice_get new.order place ≡ Some s → slice_get old.order place ≡ Some s
      was place s before at =
          let past = slice_get_within old.order done state there in
          let some = slice_get-held old.order place (omega (arith, past, before)) in
          some.1 ∙ sym (kept.order place some.0 some.1) ∙ at

      last_state_is : (place s : ℕ) → place < done + 1 → done ≤ place → slice_get new.order place ≡ Some s → s ≡ state
      last_state_is place s less past at =
          let here : place ≡ done = omega arith in
          same_Some s state (sym at ∙ ap (slice_get new.order) here ∙ kept.order done state there)

      last_own : (place s : ℕ) (found : StateOf FileSign) → place < done + 1 → done ≤ place → slice_get new.order place ≡ Some s → slice_get content.states s ≡ Some found → found ≡ own
      last_own place s found less past at held_found =
          same_Some found own (sym held_found ∙ ap (slice_get content.states) (last_state_is place s less past at) ∙ held)

module _ (content : Content FileSign) (canonical : IsCanonical content) (reached : Reached) (done : ℕ) (is : HasBegun content reached done) (all : length reached.order ≤ done) where
  state-of : (state : ℕ) → IsKnown reached state → (own : StateOf FileSign) × (slice_get content.states state ≡ Some own)
  state-of state known =
      let within = slice_get_within reached.known state _ known in
      slice_get-held content.states state (omega (arith, within, is.reached_so.known_count))

  early-of : (state : ℕ) → IsKnown reached state → (place : ℕ) × (place < done) × (slice_get reached.order place ≡ Some state)
  early-of state known =
      let at = is.reached_so.listed state known in
      let within = slice_get_within reached.order at.0 state at.1 in
      (at.0, omega (arith, within, all), at.1)

  next-leads : (state : ℕ) (own : StateOf FileSign) (letter : List Bool) → slice_get content.states state ≡ Some own → next_state content state letter ≡ leaf_of content.nodes own.next (letter_bits content.variables letter)
  next-leads state own letter held = ap (λ (found : Option (StateOf FileSign)). next_from content found letter) held

  known-after : (letters : List (List Bool)) (state : ℕ) → IsKnown reached state → IsKnown reached (state_after content state letters)
  known-after [] state known = known
  known-after (letter ∷ letters) state known =
      let own = state-of state known in
      let at = early-of state known in
      known-after letters (next_state content state letter)
      (subst (IsKnown reached) (sym (next-leads state own.0 letter own.1)) (is.early at.0 state own.0 at.1 at.2 own.1 (letter_bits content.variables letter)))

  -- the words of all states are known
  all-known : (state : ℕ) → state < length content.states → IsKnown reached state
  all-known state within =
      let by = canonical.states_reached state within in
      subst (IsKnown reached) by.2 (known-after by.0.letters (first_state content by.0.truth) (is.start (truth_bits content.variables by.0.truth)))

  known-held : (state : ℕ) (word : Word) → slice_get reached.words state ≡ Some word → IsKnown reached state
  known-held state word held =
      let within = slice_get_within reached.words state word held in
      all-known state (omega (arith, within, is.reached_so.words_count))

  -- and they are as a certificate has them
  pub begun-words : AreWordsTo content reached.words
  begun-words = record {
    count = is.reached_so.words_count;
    over = λ state word held. (is.reached_so.words state word (known-held state word held) held).over;
    ends = λ state word held. (is.reached_so.words state word (known-held state word held) held).ends;
  }

  pub begun-lengths : GrowByLetters content reached.words
  begun-lengths = record {
    start = λ truth word long held. sym (letters-held reached.words (first_state content truth) word held) ∙ is.start_none (truth_bits content.variables truth);
    step = λ state letter word next long held held_next.
        let known = known-held state word held in
        let own = state-of state known in
        let at = early-of state known in
        let most = is.early_next at.0 state own.0 (letter_bits content.variables letter) at.1 at.2 own.1 in
        let led = ap (letters_to reached.words) (next-leads state own.0 letter own.1) in
        omega (arith, most, led, letters-held reached.words state word held, letters-held reached.words (next_state content state letter) next held_next);
  }
