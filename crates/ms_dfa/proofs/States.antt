-- A state of an automaton, by its place.
use Rattle.std.proofs.Common.{◌≡◌, ℕ, All, Bool, List, slice_get, Some, ap, subst, ◌∙◌, sym}
use Rattle.std.proofs.lemmas.Option.{slice_get-map, slice_get_within, get_or_from_slice_get}
use Rattle.std.specs.Option.{option_map}
use Rattle.ms_arena.specs.Diagram.{leaf_of}
use Rattle.ms_logic_words.specs.Content.{StateOf, Content, IsClosed, IsFollowed, is_in_letters, next_from, next_state, letter_bits}
use Rattle.ms_logic_words.specs.declared.sign.Sign.{Sign}
use Rattle.ms_dfa.specs.declared.state.State.{State}
use Rattle.ms_dfa.specs.Automaton.{state_of, states_of}

-- a fact of each item, at a place
All-slice_get : {X : Type 0} (P : X → Type 0) (items : List X) (i : ℕ) (item : X) → All P items → slice_get items i ≡ Some item → P item
All-slice_get P items i item all there = subst P (get_or_from_slice_get items i item item there) (all i item (slice_get_within items i item there))

-- the state at a place, as the content shows it
pub state_in : (states : List State) (i : ℕ) (state : State) → slice_get states i ≡ Some state → slice_get (states_of states) i ≡ Some (state_of state)
state_in states i state there = slice_get-map state_of states i ∙ ap (option_map state_of) there

-- the diagram of a state leads to states by letters
pub next_is_followed : (inside content : Content Sign) → inside ≡ content → IsClosed inside → (i : ℕ) (state : State)
    → slice_get inside.states i ≡ Some (state_of state) → IsFollowed content is_in_letters state.next
next_is_followed inside content same closed i state there =
    subst (λ (seen : Content Sign). IsFollowed seen is_in_letters state.next) same
    (All-slice_get (λ (found : StateOf Sign). IsFollowed inside is_in_letters found.next) inside.states i (state_of state) closed.next there)

-- the state after a letter is a leaf of the diagram of the state before it
pub next_state_at : (inside content : Content Sign) → inside ≡ content → (i : ℕ) (state : State) (letter : List Bool)
    → slice_get inside.states i ≡ Some (state_of state)
    → leaf_of content.nodes state.next (letter_bits content.variables letter) ≡ next_state content i letter
next_state_at inside content same i state letter there =
    ap (λ found. next_from content found letter) (sym (ap (λ (seen : Content Sign). slice_get seen.states i) (sym same) ∙ there))
