-- Readers of the Yes of an automaton: they run it on what the word says of the automaton's own variables.
use Rattle.std.proofs.Common.{◌≡◌, ℕ, Bool, true, false, IsTrue, ◌↔◌, List, [], ◌∷◌, length, map, Option, Some, None, refl, ap, subst, ◌∙◌, arith}
use Rattle.std.specs.List.{range_with_len}
use Rattle.std.proofs.lemmas.Bool.{cases_eq, false≢true}
use Rattle.ms_list.specs.declared.word.Word.{Word}
use Rattle.ms_logic.specs.Assignment.{Env, Variable, IsAssignment}
use Rattle.ms_logic.specs.Lists.{AreRising, IsAmong}
use Rattle.ms_logic_words.specs.Content.{Content, first_state, next_state, sign_at, state_after, truth_bits}
use Rattle.ms_logic_words.specs.Word.{Encodes}
use Rattle.ms_logic_words.specs.declared.sign.Sign.{Sign}
use Rattle.ms_logic_words.specs.declared.sign.Sign.TheVariants.{Yes, No, Undefined, Outside}
use Rattle.ms_dfa.specs.Automaton.{IsAutomaton}
use Rattle.ms_dfa.specs.Narrow.{narrowed, narrowed_letter, narrowed_truth}
use Rattle.ms_dfa.specs.Values.{own_meaning, sign_at_values}
use Rattle.ms_dfa.proofs.EncodingLemmas.{sign_of_encoding}
use Rattle.ms_dfa.proofs.NarrowLemmas.{narrowed_assigned, narrowed_encodes}
use Rattle.ms_dfa.proofs.OwnMeaningLemmas.{next_within}
use Rattle.ms_dfa_explore.specs.Tracks.{places_among}
use Rattle.ms_dfa_explore.proofs.AmongLemmas.{reads_through_places}
use Rattle.ms_logic_readers.proofs.Readers.{Reader, TellsAt, read}
use Rattle.ms_logic_readers.proofs.Relations.{among-range, range-among}

abbrev says_yes : Option Sign → Bool
says_yes (Some Yes) = true
says_yes (Some No) = false
says_yes (Some Undefined) = false
says_yes (Some Outside) = false
says_yes None = false

yes-said : (found : Option Sign) → (found ≡ Some Yes) ↔ IsTrue (says_yes found)
yes-said (Some Yes) = ((λ same. refl), (λ is. refl))
yes-said (Some No) = ((λ same. cc), (λ is. absurd (false≢true is)))
yes-said (Some Undefined) = ((λ same. cc), (λ is. absurd (false≢true is)))
yes-said (Some Outside) = ((λ same. cc), (λ is. absurd (false≢true is)))
yes-said None = ((λ same. cc), (λ is. absurd (false≢true is)))

module _ (wide : List Variable) (rising : AreRising wide) (content : Content Sign) (automaton : IsAutomaton content) (among : (v : Variable) → IsAmong content.variables v → IsAmong wide v) where
  abbrev places : List ℕ
  places = places_among content.variables wide

  abbrev begin : List Bool → ℕ
  begin truth = first_state content (narrowed_truth places content.variables wide truth)

  abbrev step : ℕ → List Bool → ℕ
  step s letter = next_state content s (narrowed_letter places content.variables wide letter)

  read-states : (s : ℕ) (letters : List (List Bool)) → read step s letters ≡ state_after content s (map (narrowed_letter places content.variables wide) letters)
  read-states s [] = refl
  read-states s (letter ∷ letters) = read-states (step s letter) letters

  -- the word over the automaton's variables encodes what the word over all does
  read-sign : (word : Word) (e : Env) → IsAssignment content.mode wide e → Encodes wide word e → sign_at content (read step (begin word.truth) word.letters) ≡ sign_at_values content e
  read-sign word e assigned encodes =
      let through = reads_through_places content.variables wide automaton.rising rising among e in
      ap (sign_at content) (read-states (begin word.truth) word.letters)
      ∙ sign_of_encoding content automaton e (narrowed_assigned places content.variables wide e e through content.mode assigned) (narrowed places content.variables wide word)
      (narrowed_encodes places content.variables wide e e through word encodes)

  pub yes-reader : Reader (TellsAt content.mode wide (λ e. own_meaning content e Yes))
  yes-reader = record {
    State = ℕ;
    test = cases_eq;
    states = range_with_len 0 (length content.states);
    start = begin;
    next = step;
    accepts = λ s. says_yes (sign_at content s);
    start_among = λ truth.
        let below = automaton.closed.start.states (truth_bits content.variables (narrowed_truth places content.variables wide truth)) in
        among-range 0 (length content.states) (begin truth) (omega arith) (omega (arith, below));
    next_among = λ s letter among'.
        let was = range-among 0 (length content.states) s among' in
        let below = next_within content automaton.closed s (narrowed_letter places content.variables wide letter) (omega (arith, was)) in
        among-range 0 (length content.states) (step s letter) (omega arith) (omega (arith, below));
    right = λ word e assigned encodes.
        let P : Option Sign → Type 0 = λ found. (found ≡ Some Yes) ↔ IsTrue (says_yes (sign_at content (read step (begin word.truth) word.letters))) in
        subst P (read-sign word e assigned encodes) (yes-said (sign_at content (read step (begin word.truth) word.letters)));
  }
