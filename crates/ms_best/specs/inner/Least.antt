-- The least word of a sign, taken bit by bit: among the letters that come nearest, at each variable the bit 0 where that
-- is as near.
use Rattle.std.specs.Prelude.{ℕ, zero, suc, ◌+◌, ◌==◌, Bool, false, not, if◌then◌else◌, List, [], ◌∷◌, slice_get, Option, Some, None}
use Rattle.ms_list.specs.declared.word.Word.{Word}
use Rattle.ms_arena.specs.declared.node.Ref.{Ref}
use Rattle.ms_arena.specs.declared.node.Ref.TheVariants.{Leaf}
use Rattle.ms_arena.specs.Halves.{half_of}
use Rattle.ms_logic.specs.declared.mode.Order.{Order}
use Rattle.ms_logic.specs.Assignment.{Variable}
use Rattle.ms_logic_words.specs.Content.{StateOf, Content, is_truth_value, is_in_letters, first_state, next_state}
use Rattle.ms_logic_words.specs.declared.sign.Sign.{Sign}
use Rattle.ms_best.specs.inner.Automaton.{distance_of}

-- whether the bit 0 of a variable leads farther than need be
abbrev pub needs_one : Content Sign → List ℕ → ℕ → Ref → Bool
needs_one content distances var reference =
    not (distance_of content distances (half_of content.nodes var false reference) == distance_of content distances reference)

-- the bits, for the variables from a place on, that lead nearest from a reference
abbrev pub least_values : Content Sign → List ℕ → (Order → Bool) → ℕ → List Variable → Ref → List Bool
least_values content distances has_value place [] reference = []
least_values content distances has_value place (v ∷ vs) reference =
    if has_value v.order
    then needs_one content distances place reference
    ∷ least_values content distances has_value (place + 1) vs (half_of content.nodes place (needs_one content distances place reference) reference)
    else least_values content distances has_value (place + 1) vs reference

-- the diagram of a state
abbrev pub next_of : Option (StateOf Sign) → Ref
next_of None = Leaf 0
next_of (Some state) = state.next

-- the letter that leads nearest from a state
abbrev pub least_letter : Content Sign → List ℕ → ℕ → List Bool
least_letter content distances state =
    least_values content distances is_in_letters 0 content.variables (next_of (slice_get content.states state))

-- so many letters from a state on
abbrev pub least_letters : Content Sign → List ℕ → ℕ → ℕ → List (List Bool)
least_letters content distances zero state = []
least_letters content distances (suc count) state =
    least_letter content distances state ∷ least_letters content distances count (next_state content state (least_letter content distances state))

-- the truth values that lead nearest
abbrev pub least_truth : Content Sign → List ℕ → List Bool
least_truth content distances = least_values content distances is_truth_value 0 content.variables content.start

abbrev pub least_word : Content Sign → List ℕ → Word
least_word content distances = record {
  truth = least_truth content distances;
  letters = least_letters content distances (distance_of content distances content.start) (first_state content (least_truth content distances));
}
