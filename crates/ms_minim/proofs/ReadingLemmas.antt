-- A content whose signs are read is closed as it was, and runs as before; only the signs are those that are read.
use Rattle.std.proofs.Common.{◌≡◌, ℕ, ◌+◌, ◌<◌, Bool, Err, List, [], ◌∷◌, length, slice_get, Option, Some, None, refl, sym, ap, subst, ◌∙◌, arith}
use Rattle.std.specs.Option.{option_map}
use Rattle.std.proofs.lemmas.List.{length-map, map-id}
use Rattle.std.proofs.lemmas.Option.{slice_get_within, slice_get-map, get_or_from_slice_get}
use Rattle.ms_list.specs.declared.word.Word.{Word}
use Rattle.ms_list.specs.declared.fault.StepFault.{StepFault}
use Rattle.ms_list.specs.declared.fault.StepFault.TheVariants.{Nodes, Memory}
use Rattle.ms_arena.specs.declared.node.Ref.{Ref}
use Rattle.ms_arena.proofs.Lists.{slice_get-held}
use Rattle.ms_dfa.specs.Automaton.{IsAutomaton}
use Rattle.ms_logic.specs.declared.mode.Order.{Order}
use Rattle.ms_logic_words.specs.declared.sign.Sign.{Sign}
use Rattle.ms_logic_words.specs.Content.{StateOf, Content, IsClosed, IsFollowed, is_in_letters, next_from, next_state, state_after, first_state, last_state, sign_at, sign_of}
use Rattle.ms_dfa_explore.specs.Explored.{OnRefused}
use Rattle.ms_minim.specs.declared.reading.SignReading.{SignReading}
use Rattle.ms_minim.specs.declared.reading.SignReading.TheVariants.{AsTheyAre}
use Rattle.ms_minim.specs.SignReading.{IsRead, read_content, read_sign, read_state}

-- signs that are read as they are
pub read-own : (content : Content Sign) → read_content AsTheyAre content ≡ content
read-own content = λ i. record { mode = content.mode; variables = content.variables; start = content.start; states = map-id content.states i; nodes = content.nodes }

module _ (reading : SignReading) (content : Content Sign) where
  abbrev read : Content Sign
  read = read_content reading content

  pub length-read : length read.states ≡ length content.states
  length-read = length-map content.states (read_state reading)

  pub read_at : (place : ℕ) → slice_get read.states place ≡ option_map (read_state reading) (slice_get content.states place)
  read_at place = slice_get-map (read_state reading) content.states place

  pub read-followed : (has_value : Order → Bool) (reference : Ref) → IsFollowed content has_value reference → IsFollowed read has_value reference
  read-followed has_value reference is = record {
    valid = is.valid;
    states = λ bits. (let less = is.states bits in let long = length-read in omega (arith, less, long));
    tests = is.tests;
  }

  closed-read : IsClosed content → IsClosed read
  closed-read closed = record {
    start = read-followed _ content.start closed.start;
    next = λ place other less.
        let held = slice_get-held content.states place (let long = length-read in omega (arith, less, long)) in
        let there : slice_get read.states place ≡ Some (read_state reading held.0) = read_at place ∙ ap (option_map (read_state reading)) held.1 in
        let own : IsFollowed content is_in_letters held.0.next
        = subst (λ (found : StateOf Sign). IsFollowed content is_in_letters found.next) (get_or_from_slice_get content.states place held.0 held.0 held.1)
        (closed.next place held.0 (slice_get_within content.states place held.0 held.1)) in
        subst (λ (found : StateOf Sign). IsFollowed read is_in_letters found.next) (sym (get_or_from_slice_get read.states place (read_state reading held.0) other there))
        (read-followed is_in_letters held.0.next own);
  }

  pub IsRead-automaton : IsAutomaton content → IsRead read
  IsRead-automaton automaton = record {
    ordered = automaton.ordered;
    reduced = automaton.reduced;
    closed = closed-read automaton.closed;
    rising = automaton.rising;
    few_states = (let long = length-read in let few = automaton.few_states in omega (arith, long, few));
  }

  next-read : (state : ℕ) (letter : List Bool) → next_state read state letter ≡ next_state content state letter
  next-read state letter = ap (λ found. next_from read found letter) (read_at state) ∙ by (slice_get content.states state)
    where
      by : (found : Option (StateOf Sign)) → next_from read (option_map (read_state reading) found) letter ≡ next_from content found letter
      by None = refl
      by (Some there) = refl

  pub after-read : (state : ℕ) (letters : List (List Bool)) → state_after read state letters ≡ state_after content state letters
  after-read state [] = refl
  after-read state (letter ∷ letters) = ap (λ next. state_after read next letters) (next-read state letter) ∙ after-read (next_state content state letter) letters

  -- a word has the sign that is read of its own
  pub sign_of-read : (word : Word) → sign_of read word ≡ option_map (read_sign reading) (sign_of content word)
  sign_of-read word = ap (sign_at read) (after-read (first_state content word.truth) word.letters) ∙ ap (option_map (λ (found : StateOf Sign). found.sign)) (read_at (last_state content word)) ∙ by (slice_get content.states (last_state content word))
    where
      by : (found : Option (StateOf Sign)) → option_map (λ (state : StateOf Sign). state.sign) (option_map (read_state reading) found)
          ≡ option_map (read_sign reading) (option_map (λ (state : StateOf Sign). state.sign) found)
      by None = refl
      by (Some there) = refl

-- it has as many states, so a refusal for their number is one for that of the automaton's
pub refused-read : (A : Type 0) (reading : SignReading) (content : Content Sign) (limit : ℕ) (fault : StepFault)
    → OnRefused {A = Content Sign} (Err fault) (λ refused. (refused ≡ limit) × (limit < length content.nodes + length (read_content reading content).states))
    → OnRefused {A = A} (Err fault) (λ refused. (refused ≡ limit) × (limit < length content.nodes + length content.states))
refused-read A reading content limit Memory refused = tt
refused-read A reading content limit (Nodes most) refused =
    let long = length-read reading content in
    let less = refused.1 in
    (refused.0, omega (arith, less, long))
