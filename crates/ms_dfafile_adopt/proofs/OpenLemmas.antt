-- Where a zero letter changes a sign, and what is settled where it changes none.
use Rattle.std.proofs.Common.{◌≡◌, ◌≢◌, ℕ, zero, suc, ◌<◌, ⊎_elim, ◌⊎◌, inl, inr, Result, Ok, Err, IfOk, Option, Some, None, IfSome, IfNone, Bool, List, [], ◌∷◌, ◌++◌, length, slice_get, refl, sym, ap, subst, ◌∙◌, arith}
use Rattle.std.specs.Option.{option_map}
use Rattle.std.proofs.lemmas.Bool.{cases_eq}
use Rattle.std.proofs.lemmas.List.{length-map}
use Rattle.std.proofs.lemmas.Option.{same_Some, get_or_from_slice_get, slice_get_within}
use Rattle.ms_list.specs.declared.fault.NoMemory.{NoMemory}
use Rattle.ms_list.specs.declared.word.Word.{Word}
use Rattle.ms_arena.specs.declared.node.Ref.{Ref}
use Rattle.ms_arena.proofs.Lists.{slice_get-held, slice_get-pushed}
use Rattle.ms_logic.specs.declared.mode.Mode.TheVariants.{Ws1s, M2lStr}
use Rattle.ms_logic.specs.declared.mode.Order.{Order}
use Rattle.ms_logic_words.specs.declared.sign.Sign.{Sign}
use Rattle.ms_logic_words.specs.declared.sign.Sign.TheVariants.{Yes, No, Undefined, Outside}
use Rattle.ms_logic_words.specs.Content.{StateOf, Content, IsClosed, IsFollowed, IsWordOver, is_in_letters, next_from, next_state, last_state, sign_at, sign_of, with_zero_letter, zero_letter}
use Rattle.ms_logic_words.specs.Word.{IsEncoding}
use Rattle.ms_logic_words.proofs.WordLaws.{encoding_is_over}
use Rattle.ms_dfa.specs.Automaton.{IsAutomaton, TellsEncodings, state_of, states_of}
use Rattle.ms_dfa.specs.declared.state.State.{State}
use Rattle.ms_dfa.proofs.States.{state_in}
use Rattle.ms_dfa.proofs.OwnMeaningLemmas.{last_within, next_within, word_has_sign}
use Rattle.ms_best.specs.FirstWord.{IsFirstWord, NoWordHas}
use Rattle.ms_dfafile_adopt.specs.inner.Open.{AreChanges, ChangesEach, IsFirstChange, ShowsNoChange, TellsChanges, change_sign}
use Rattle.ms_dfafile_adopt.proofs.ModeLemmas.{encoding_in}
use Rattle.ms_dfafile_adopt.proofs.RunLemmas.{last_state-zero, same_last}

-- two signs are one, or they are not
code_of : Sign → ℕ
code_of Yes = 0
code_of No = 1
code_of Undefined = 2
code_of Outside = 3

of_code : ℕ → Sign
of_code zero = Yes
of_code (suc zero) = No
of_code (suc (suc zero)) = Undefined
of_code (suc (suc (suc n))) = Outside

same_code : (sign : Sign) → of_code (code_of sign) ≡ sign
unfolding code_of of_code
same_code Yes = refl
same_code No = refl
same_code Undefined = refl
same_code Outside = refl

one_sign_or_not : (one other : Sign) → (one ≡ other) ⊎ (one ≢ other)
one_sign_or_not one other = ⊎_elim
    (λ same. inl (sym (same_code one) ∙ ap of_code same ∙ same_code other))
    (λ differ. inr (λ same. differ (ap code_of same)))
    (cases_eq (code_of one) (code_of other))

-- Yes comes of signs that differ, the first of which is no Outside
change_yes : (sign behind : Sign) → change_sign sign behind ≡ Yes → (sign ≢ Outside) × (sign ≢ behind)
change_yes Yes Yes is = let never : ⊥ = cc in absurd never
change_yes Yes No is = (λ same. cc, λ same. cc)
change_yes Yes Undefined is = (λ same. cc, λ same. cc)
change_yes Yes Outside is = (λ same. cc, λ same. cc)
change_yes No Yes is = (λ same. cc, λ same. cc)
change_yes No No is = let never : ⊥ = cc in absurd never
change_yes No Undefined is = (λ same. cc, λ same. cc)
change_yes No Outside is = (λ same. cc, λ same. cc)
change_yes Undefined Yes is = (λ same. cc, λ same. cc)
change_yes Undefined No is = (λ same. cc, λ same. cc)
change_yes Undefined Undefined is = let never : ⊥ = cc in absurd never
change_yes Undefined Outside is = (λ same. cc, λ same. cc)
change_yes Outside behind is = let never : ⊥ = cc in absurd never

yes_change : (sign behind : Sign) → sign ≢ Outside → sign ≢ behind → change_sign sign behind ≡ Yes
yes_change Yes Yes inside differ = absurd (differ refl)
yes_change Yes No inside differ = refl
yes_change Yes Undefined inside differ = refl
yes_change Yes Outside inside differ = refl
yes_change No Yes inside differ = refl
yes_change No No inside differ = absurd (differ refl)
yes_change No Undefined inside differ = refl
yes_change No Outside inside differ = refl
yes_change Undefined Yes inside differ = refl
yes_change Undefined No inside differ = refl
yes_change Undefined Undefined inside differ = absurd (differ refl)
yes_change Undefined Outside inside differ = refl
yes_change Outside behind inside differ = absurd (inside refl)

-- Outside comes of Outside alone
change_outside : (sign behind : Sign) → change_sign sign behind ≡ Outside → sign ≡ Outside
change_outside sign behind is = ⊎_elim
    (λ same. same)
    (λ inside. ⊎_elim
    (λ equal. absurd (never_no sign inside (ap (change_sign sign) equal ∙ is)))
    (λ differ. let never : ⊥ = let yes = yes_change sign behind inside differ in cc in absurd never)
    (one_sign_or_not sign behind))
    (one_sign_or_not sign Outside)
  where
    never_no : (s : Sign) → s ≢ Outside → change_sign s s ≢ Outside
    never_no Yes other same = cc
    never_no No other same = cc
    never_no Undefined other same = cc
    never_no Outside other same = other refl

module _ (content : Content Sign) (automaton : IsAutomaton content) (string : content.mode ≡ M2lStr) where
  abbrev zeros : List Bool
  zeros = zero_letter content.variables

  module _ (states : List State) (are : AreChanges content states) where
    abbrev pub changed : Content Sign
    changed = record content { mode = M2lStr; states = states_of states }

    count : length (states_of states) ≡ length content.states
    count = length-map states state_of ∙ are.long

    -- the state at a place, before and after, and the sign behind a zero letter
    record At (place : ℕ) : Type 0 where
      was : StateOf Sign
      was_held : slice_get content.states place ≡ Some was
      is : State
      is_held : slice_get (states_of states) place ≡ Some (state_of is)
      behind : Sign
      behind_held : sign_at content (next_state content place zeros) ≡ Some behind
      next : is.next ≡ was.next
      sign : is.sign ≡ change_sign was.sign behind

    at_place : (place : ℕ) → place < length content.states → At place
    at_place place within =
        let was = slice_get-held content.states place within in
        let is = slice_get-held states place (let long = are.long in omega (arith, within, long)) in
        let then = slice_get-held content.states (next_state content place zeros) (next_within content automaton.closed place zeros within) in
        let behind : sign_at content (next_state content place zeros) ≡ Some then.0.sign = ap (option_map (λ (s : StateOf Sign). s.sign)) then.1 in
        let each = are.each place was.0 is.0 then.0.sign was.1 is.1 behind in
        record {
          was = was.0;
          was_held = was.1;
          is = is.0;
          is_held = state_in states place is.0 is.1;
          behind = then.0.sign;
          behind_held = behind;
          next = each.0;
          sign = each.1;
        }

    next_same : (place : ℕ) → place < length content.states → (letter : List Bool) → next_state changed place letter ≡ next_state content place letter
    next_same place within letter =
        let at = at_place place within in
        ap (λ found. next_from changed found letter) at.is_held
        ∙ ap (λ (r : Ref). next_from content (Some (record { sign = at.was.sign; next = r })) letter) at.next
        ∙ sym (ap (λ found. next_from content found letter) at.was_held)

    -- a word has the sign that tells whether a zero letter changes its own
    sign_changed : (word : Word) → (one other : Sign) → sign_of content word ≡ Some one → sign_of content (with_zero_letter content.variables word) ≡ Some other
        → sign_of changed word ≡ Some (change_sign one other)
    sign_changed word one other first second =
        let place = last_state content word in
        let at = at_place place (last_within content automaton.closed word) in
        let own : at.was.sign ≡ one = same_Some at.was.sign one (sym (ap (option_map (λ (s : StateOf Sign). s.sign)) at.was_held) ∙ first) in
        let then : at.behind ≡ other = same_Some at.behind other (sym at.behind_held ∙ sym (ap (sign_at content) (last_state-zero content word)) ∙ second) in
        ap (sign_at changed) (same_last changed content automaton.closed (λ truth. refl) next_same word)
        ∙ ap (option_map (λ (s : StateOf Sign). s.sign)) at.is_held
        ∙ ap Some at.sign
        ∙ ap (λ s. Some (change_sign s at.behind)) own
        ∙ ap (λ s. Some (change_sign one s)) then

    in_string : (word : Word) → IsEncoding content.mode content.variables word → IsEncoding M2lStr content.variables word
    in_string word encoding = subst (λ mode. IsEncoding mode content.variables word) string encoding

    pub TellsChanges-made : TellsChanges content changed
    TellsChanges-made = record {
      variables_are = refl;
      yes = λ word over is.
          let one = word_has_sign content automaton.closed word in
          let other = word_has_sign content automaton.closed (with_zero_letter content.variables word) in
          let differ = change_yes one.0 other.0 (same_Some (change_sign one.0 other.0) Yes (sym (sign_changed word one.0 other.0 one.1 other.1) ∙ is)) in (
            in_string word ((automaton.encodings word over).1 (λ same. differ.0 (same_Some one.0 Outside (sym one.1 ∙ same)))),
            λ same. differ.1 (same_Some one.0 other.0 (sym one.1 ∙ same ∙ other.1)),
          );
      shown = λ word shows.
          let one = word_has_sign content automaton.closed word in
          let other = word_has_sign content automaton.closed (with_zero_letter content.variables word) in
          let encoding = subst (λ mode. IsEncoding mode content.variables word) (sym string) shows.0 in
          let inside : one.0 ≢ Outside = λ same. (automaton.encodings word (encoding_is_over content.variables word shows.0.0 shows.0.2)).0 encoding (one.1 ∙ ap Some same) in
          let differ : one.0 ≢ other.0 = λ same. shows.1 (one.1 ∙ ap Some same ∙ sym other.1) in
          sign_changed word one.0 other.0 one.1 other.1 ∙ ap Some (yes_change one.0 other.0 inside differ);
    }

    followed_changed : (has_value : Order → Bool) (reference : Ref) → IsFollowed content has_value reference → IsFollowed changed has_value reference
    followed_changed has_value reference is = record {
      valid = is.valid;
      states = λ bits. (let below = is.states bits in let same = count in omega (arith, below, same));
      tests = is.tests;
    }

    closed_changed : IsClosed changed
    closed_changed = record {
      start = followed_changed _ content.start automaton.closed.start;
      next = λ place other within.
          let same = count in
          let at = at_place place (omega (arith, within, same)) in
          let own = subst (λ (s : StateOf Sign). IsFollowed content is_in_letters s.next) (get_or_from_slice_get content.states place at.was at.was at.was_held)
          (automaton.closed.next place at.was (slice_get_within content.states place at.was at.was_held)) in
          subst (λ (s : StateOf Sign). IsFollowed changed is_in_letters s.next) (sym (get_or_from_slice_get (states_of states) place (state_of at.is) other at.is_held))
          (subst (λ (r : Ref). IsFollowed changed is_in_letters r) (sym at.next) (followed_changed is_in_letters at.was.next own));
    }

    tells_changed : TellsEncodings changed
    tells_changed word over =
        let one = word_has_sign content automaton.closed word in
        let other = word_has_sign content automaton.closed (with_zero_letter content.variables word) in
        let sign = sign_changed word one.0 other.0 one.1 other.1 in (
          λ encoding same.
              (automaton.encodings word over).0 (subst (λ mode. IsEncoding mode content.variables word) (sym string) encoding)
              (one.1 ∙ ap Some (change_outside one.0 other.0 (same_Some (change_sign one.0 other.0) Outside (sym sign ∙ same)))),
          λ differs. in_string word ((automaton.encodings word over).1 (λ same.
              differs (sign ∙ ap (λ s. Some (change_sign s other.0)) (same_Some one.0 Outside (sym one.1 ∙ same))))),
        )

    pub IsAutomaton-changed : IsAutomaton changed
    IsAutomaton-changed = record {
      ordered = automaton.ordered;
      reduced = automaton.reduced;
      closed = closed_changed;
      rising = automaton.rising;
      few_states = (let few = automaton.few_states in let same = count in omega (arith, few, same));
      encodings = tells_changed;
      settled = λ numbers. let never : ⊥ = cc in absurd never;
    }

  -- where zeros change no sign, it is an automaton over all numbers too
  pub IsAutomaton-numbers : ShowsNoChange content → IsAutomaton (record content { mode = Ws1s })
  IsAutomaton-numbers none = record {
    ordered = automaton.ordered;
    reduced = automaton.reduced;
    closed = record {
      start = record { valid = automaton.closed.start.valid; states = automaton.closed.start.states; tests = automaton.closed.start.tests };
      next = λ place other within. let own = automaton.closed.next place other within in record { valid = own.valid; states = own.states; tests = own.tests };
    };
    rising = automaton.rising;
    few_states = automaton.few_states;
    encodings = λ word over. (
      λ encoding. (automaton.encodings word over).0 (encoding_in Ws1s content.mode content.variables word automaton.rising encoding),
      λ differs. encoding_in content.mode Ws1s content.variables word automaton.rising ((automaton.encodings word over).1 differs),
    );
    settled = λ numbers word over encoding.
        let one = word_has_sign content automaton.closed word in
        let other = word_has_sign content automaton.closed (with_zero_letter content.variables word) in
        ⊎_elim
        (λ same. other.1 ∙ ap Some (sym same) ∙ sym one.1)
        (λ differ. absurd (none word (encoding_in Ws1s M2lStr content.variables word automaton.rising encoding, λ same. differ (same_Some one.0 other.0 (sym one.1 ∙ same ∙ other.1)))))
        (one_sign_or_not one.0 other.0);
  }

  pub IsAutomaton-same_states : (states : List State) → states_of states ≡ content.states → ShowsNoChange content → IsAutomaton (record content { mode = Ws1s; states = states_of states })
  IsAutomaton-same_states states same none = subst (λ list. IsAutomaton (record content { mode = Ws1s; states = list })) (sym same) (IsAutomaton-numbers none)

-- one state more
pub ChangesEach-more : (content : Content Sign) (made : List State) (place : ℕ) (own behind sign : Sign) (next : Ref) → ChangesEach content made → length made ≡ place → sign_at content place ≡ Some own
    → IfSome (slice_get content.states place) (λ (found : StateOf Sign). next ≡ found.next) → sign_at content (next_state content place (zero_letter content.variables)) ≡ Some behind
    → sign ≡ change_sign own behind → ChangesEach content (made ++ record { sign = sign; next = next } ∷ [])
ChangesEach-more content made place own behind sign next were long own_is next_is behind_is sign_is p was is then was_held is_held then_held = ⊎_elim
    (λ before. were p was is then was_held before then_held)
    (λ last.
    let at : p ≡ place = last.0 ∙ long in
    let here : slice_get content.states place ≡ Some was = ap (slice_get content.states) (sym at) ∙ was_held in
    let leads : next ≡ was.next = subst (λ found. IfSome found (λ (s : StateOf Sign). next ≡ s.next)) here next_is in
    let signed : own ≡ was.sign = same_Some own was.sign (sym own_is ∙ ap (option_map (λ (s : StateOf Sign). s.sign)) here) in
    let follows : behind ≡ then = same_Some behind then (sym behind_is ∙ ap (λ q. sign_at content (next_state content q (zero_letter content.variables))) (sym at) ∙ then_held) in (
      ap (λ (s : State). s.next) (sym last.1) ∙ leads,
      ap (λ (s : State). s.sign) (sym last.1) ∙ sign_is ∙ (λ i. change_sign (signed i) (follows i)),
    ))
    (slice_get-pushed made (record { sign = sign; next = next }) p is is_held)

-- what is equal to the changed automaton tells the changes
pub tells_by : (content changed : Content Sign) → TellsChanges content changed → (result : Result (Content Sign) NoMemory) → IfOk result (λ made. made ≡ changed) → IfOk result (TellsChanges content)
tells_by content changed tells (Err fault) same = tt
tells_by content changed tells (Ok made) same = subst (TellsChanges content) (sym same) tells

-- the first Yes of the changes is the first change
pub first_by : (content made : Content Sign) → TellsChanges content made → (result : Result (Option Word) NoMemory)
    → IfOk result (λ found. IfSome found (IsFirstWord made Yes)) → IfOk result (λ found. IfSome found (IsFirstChange content))
first_by content made tells (Err fault) first = tt
first_by content made tells (Ok None) first = tt
first_by content made tells (Ok (Some word)) first = record {
  shows = tells.yes word (subst (λ vs. IsWordOver vs word) tells.variables_are first.over) first.has_sign;
  none_before = λ other shows.
      first.none_before other (subst (λ vs. IsWordOver vs other) (sym tells.variables_are) (encoding_is_over content.variables other shows.0.0 shows.0.2)) (tells.shown other shows);
}

pub none_by : (content made : Content Sign) → TellsChanges content made → (result : Result (Option Word) NoMemory)
    → IfOk result (λ found. IfNone found (NoWordHas made Yes)) → IfOk result (λ found. IfNone found (ShowsNoChange content))
none_by content made tells (Err fault) none = tt
none_by content made tells (Ok (Some word)) none = tt
none_by content made tells (Ok None) none = λ word shows.
    none word (subst (λ vs. IsWordOver vs word) (sym tells.variables_are) (encoding_is_over content.variables word shows.0.0 shows.0.2)) (tells.shown word shows)
