-- Starts: words and first parts of words, and what they leave of a content. What is left of a diagram once some variables have
-- their bits is a function from the bits of the others to states. Where the diagram is reduced, it is one of its references,
-- and two references are equal exactly where their functions are; so references are counted here as the functions that they are.
use Rattle.std.specs.Prelude.{ℕ, ◌<◌, ◌==◌, Bool, false, if◌then◌else◌, List, [], ◌∷◌, length, map, slice_get, Option, Some, None, unwrap_or}
use Rattle.std.specs.Option.{option_and_then}
use Rattle.ms_list.specs.declared.word.Word.{Word}
use Rattle.ms_arena.specs.Diagram.{Bits, leaf_of}
use Rattle.ms_logic.specs.declared.mode.Order.{Order}
use Rattle.ms_logic.specs.Assignment.{Variable}
use Rattle.ms_logic_words.specs.Content.{StateOf, Content, IsWordOver, is_truth_value, is_in_letters, count_of, tail_bits, last_state}

pub data Start : Type 0 where
  -- some first truth values, fewer than all
  some_truth_values : (values : List Bool) → Start
  -- a word
  whole_word : (word : Word) → Start
  -- a word, and some first bits of one more letter, fewer than all
  part_of_letter : (word : Word) (bits : List Bool) → Start

-- a start over a list of variables
abbrev pub IsStartOver : List Variable → Start → Type 0
IsStartOver variables (some_truth_values values) = length values < count_of is_truth_value variables
IsStartOver variables (whole_word word) = IsWordOver variables word
IsStartOver variables (part_of_letter word bits) = IsWordOver variables word × (length bits < count_of is_in_letters variables)

abbrev pub first_bit : List Bool → Option Bool
first_bit [] = None
first_bit (bit ∷ more) = Some bit

-- the bit that some first bits, given to the variables that have one in the order of the list, give a variable by its number
abbrev pub given_bit : (Order → Bool) → List Variable → List Bool → ℕ → Option Bool
given_bit has_bit [] bits x = None
given_bit has_bit (v ∷ vs) bits x =
    if has_bit v.order
    then (if v.name == x then first_bit bits else given_bit has_bit vs (tail_bits bits) x)
    else given_bit has_bit vs bits x

-- the bits of a word over a list of variables that belong to some among them
abbrev pub bits_for : (Order → Bool) → List Variable → List Bool → List Variable → List Bool
bits_for has_bit variables bits [] = []
bits_for has_bit variables bits (v ∷ some) =
    if has_bit v.order
    then unwrap_or (given_bit has_bit variables bits v.name) false ∷ bits_for has_bit variables bits some
    else bits_for has_bit variables bits some

-- a word over a list of variables, as a word over some among them
abbrev pub narrowed : List Variable → Word → List Variable → Word
narrowed variables word some = record {
  truth = bits_for is_truth_value variables word.truth some;
  letters = map (λ letter. bits_for is_in_letters variables letter some) word.letters;
}

-- some first bits over a list of variables, and behind them free bits, as bits of the variables of a content by their places
abbrev pub with_free_bits : (Order → Bool) → List Variable → List Bool → List Variable → Bits → Bits
with_free_bits has_bit variables bits some rest =
    λ place. unwrap_or (option_and_then (λ v. given_bit has_bit variables bits v.name) (slice_get some place)) (rest place)

-- the state after the word of a start, whose bits belong to a list of variables
abbrev pub state_at : {Sign : Type 0} → Content Sign → List Variable → Word → ℕ
state_at content variables word = last_state content (narrowed variables word content.variables)

-- where the first bits of a letter, and behind them free bits, lead from a state
abbrev pub next_at : {Sign : Type 0} → Content Sign → Option (StateOf Sign) → Bits → ℕ
next_at content None bits = 0
next_at content (Some state) bits = leaf_of content.nodes state.next bits

-- what a start over a list of variables leaves of a content: the state to which it leads together with the bits that it leaves
-- free. Bits of variables that the content lacks are passed over.
abbrev pub left_by : {Sign : Type 0} → Content Sign → List Variable → Start → Bits → ℕ
left_by content variables (some_truth_values values) rest =
    leaf_of content.nodes content.start (with_free_bits is_truth_value variables values content.variables rest)
left_by content variables (whole_word word) rest = state_at content variables word
left_by content variables (part_of_letter word bits) rest =
    next_at content (slice_get content.states (state_at content variables word)) (with_free_bits is_in_letters variables bits content.variables rest)
