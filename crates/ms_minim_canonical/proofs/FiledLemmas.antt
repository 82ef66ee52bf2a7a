-- An automaton under the signs of a file of a version and over other variables of the same orders runs as before.
use Rattle.std.proofs.Common.{◌≡◌, ℕ, Bool, List, [], ◌∷◌, slice_get, Option, Some, None, refl, sym, ap, subst, ◌∙◌, arith}
use Rattle.std.specs.Option.{option_map}
use Rattle.std.proofs.lemmas.List.{length-map}
use Rattle.std.proofs.lemmas.Option.{slice_get_within, slice_get-map, get_or_from_slice_get}
use Rattle.ms_list.specs.declared.word.Word.{Word}
use Rattle.ms_arena.specs.declared.node.Node.{Node}
use Rattle.ms_arena.specs.declared.node.Ref.{Ref}
use Rattle.ms_arena.specs.Diagram.{leaf_of}
use Rattle.ms_arena.proofs.Lists.{slice_get-held}
use Rattle.ms_dfa.specs.Automaton.{state_of, states_of}
use Rattle.ms_dfa.specs.declared.plain.FileSign.{FileSign}
use Rattle.ms_dfa.specs.declared.plain.FileVersion.{FileVersion}
use Rattle.ms_dfa.specs.declared.state.State.{State}
use Rattle.ms_logic.specs.declared.mode.Mode.{Mode}
use Rattle.ms_logic.specs.declared.mode.Order.{Order}
use Rattle.ms_logic_words.specs.declared.sign.Sign.{Sign}
use Rattle.ms_logic.specs.Assignment.{Variable}
use Rattle.ms_logic_words.specs.Content.{StateOf, Content, IsClosed, IsFollowed, bits_at, is_in_letters, is_truth_value, next_from, next_state, state_after, first_state, last_state, sign_at, sign_of, letter_bits}
use Rattle.ms_dfa.specs.Files.{file_sign}
use Rattle.ms_dfa.proofs.OrdersLemmas.{has_value-same, orders_of, padded-same}
use Rattle.ms_minim_canonical.proofs.RenumberedLemmas.{filed, filed_state, filed_states}

module _ (version : FileVersion) (mode : Mode) (vs ws : List Variable) (same : orders_of vs ≡ orders_of ws) (nodes : List Node) (start : Ref) (states : List State) where
  abbrev pub plain : Content Sign
  plain = record { mode = mode; variables = vs; start = start; states = states_of states; nodes = nodes }

  abbrev pub made : Content FileSign
  made = filed version mode ws nodes start states

  first-filed : (truth : List Bool) → first_state made truth ≡ first_state plain truth
  first-filed truth = ap (λ values. leaf_of nodes start (bits_at values)) (sym (padded-same is_truth_value vs ws same truth))

  letter-filed : (letter : List Bool) → letter_bits ws letter ≡ letter_bits vs letter
  letter-filed letter = ap bits_at (sym (padded-same is_in_letters vs ws same letter))

  next-filed : (state : ℕ) (letter : List Bool) → next_state made state letter ≡ next_state plain state letter
  next-filed state letter =
      ap (λ found. next_from made found letter) (slice_get-map (filed_state version) states state) ∙ by (slice_get states state)
      ∙ sym (ap (λ found. next_from plain found letter) (slice_get-map state_of states state))
    where
      by : (found : Option State) → next_from made (option_map (filed_state version) found) letter ≡ next_from plain (option_map state_of found) letter
      by None = refl
      by (Some there) = ap (leaf_of nodes there.next) (letter-filed letter)

  pub after-filed : (state : ℕ) (letters : List (List Bool)) → state_after made state letters ≡ state_after plain state letters
  after-filed state [] = refl
  after-filed state (letter ∷ letters) = ap (λ next. state_after made next letters) (next-filed state letter) ∙ after-filed (next_state plain state letter) letters

  pub last-filed : (word : Word) → last_state made word ≡ last_state plain word
  last-filed word = ap (λ state. state_after made state word.letters) (first-filed word.truth) ∙ after-filed (first_state plain word.truth) word.letters

  pub sign-filed : (state : ℕ) → sign_at made state ≡ option_map (file_sign version) (sign_at plain state)
  sign-filed state =
      ap (option_map (λ (found : StateOf FileSign). found.sign)) (slice_get-map (filed_state version) states state) ∙ by (slice_get states state)
      ∙ sym (ap (λ found. option_map (file_sign version) (option_map (λ (there : StateOf Sign). there.sign) found)) (slice_get-map state_of states state))
    where
      by : (found : Option State) → option_map (λ (there : StateOf FileSign). there.sign) (option_map (filed_state version) found)
          ≡ option_map (file_sign version) (option_map (λ (there : StateOf Sign). there.sign) (option_map state_of found))
      by None = refl
      by (Some there) = refl

  pub sign_of-filed : (word : Word) → sign_of made word ≡ option_map (file_sign version) (sign_of plain word)
  sign_of-filed word = ap (sign_at made) (last-filed word) ∙ sign-filed (last_state plain word)

  followed-filed : (has_value : Order → Bool) (reference : Ref) → IsFollowed plain has_value reference → IsFollowed made has_value reference
  followed-filed has_value reference is = record {
    valid = is.valid;
    states = λ bits. (let less = is.states bits in let long = length-map states state_of in let long_too = length-map states (filed_state version) in omega (arith, less, long, long_too));
    tests = λ var tested. has_value-same vs ws same has_value var (is.tests var tested);
  }

  pub closed-filed : IsClosed plain → IsClosed made
  closed-filed closed = record {
    start = followed-filed is_truth_value start closed.start;
    next = λ place other less.
        let held = slice_get-held states place (let long = length-map states (filed_state version) in omega (arith, less, long)) in
        let there : slice_get (states_of states) place ≡ Some (state_of held.0) = slice_get-map state_of states place ∙ ap (option_map state_of) held.1 in
        let too : slice_get (filed_states version states) place ≡ Some (filed_state version held.0) = slice_get-map (filed_state version) states place ∙ ap (option_map (filed_state version)) held.1 in
        let own : IsFollowed plain is_in_letters held.0.next
        = subst (λ (found : StateOf Sign). IsFollowed plain is_in_letters found.next) (get_or_from_slice_get (states_of states) place (state_of held.0) (state_of held.0) there)
        (closed.next place (state_of held.0) (slice_get_within (states_of states) place (state_of held.0) there)) in
        subst (λ (found : StateOf FileSign). IsFollowed made is_in_letters found.next) (sym (get_or_from_slice_get (filed_states version states) place (filed_state version held.0) other too))
        (followed-filed is_in_letters held.0.next own);
  }
