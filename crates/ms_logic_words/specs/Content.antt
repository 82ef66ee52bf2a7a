-- A finite automaton on ordered diagrams, as plain data, and its run on a word: states with signs, and for each state a
-- decision diagram that leads from a letter to the next state. It serves automata, automaton files and measures alike,
-- each with signs of its own.
use Rattle.std.specs.Prelude.{◌≡◌, ℕ, ◌+◌, ◌<◌, Bool, true, false, not, IsTrue, if◌then◌else◌, List, [], ◌∷◌, ◌++◌, All, length, map, replicate, slice_get, slice_index_or, Option, Some, None}
use Rattle.std.specs.List.{AllByRecursion}
use Rattle.std.specs.Option.{option_map}
use Rattle.ms_list.specs.declared.word.Word.{Word}
use Rattle.ms_arena.specs.declared.node.Ref.{Ref}
use Rattle.ms_arena.specs.declared.node.Node.{Node}
use Rattle.ms_arena.specs.declared.node.Ref.TheVariants.{Leaf, Inner}
use Rattle.ms_arena.specs.Diagram.{Bits, leaf_of, IsValid, IsOrdered}
use Rattle.ms_arena.specs.Reach.{TestsOnly}
use Rattle.ms_logic.specs.declared.mode.Mode.{Mode}
use Rattle.ms_logic.specs.declared.mode.Mode.TheVariants.{Ws1s}
use Rattle.ms_logic.specs.declared.mode.Order.{Order}
use Rattle.ms_logic.specs.declared.mode.Order.TheVariants.{Zero, One, Two}
use Rattle.ms_logic.specs.declared.assignment.Value.{Value}
use Rattle.ms_logic.specs.Assignment.{Universe, Env, Variable, assign_all, IsAssignment}
use Rattle.ms_logic.specs.First.{length_of}
use Rattle.ms_logic.specs.Truth.{Answer, answer_undefined}
use Rattle.ms_logic_words.specs.Word.{Encodes}
use Rattle.ms_logic_words.specs.WordSign.{word_of}

-- a state: its sign, and the reference from which a letter leads on
pub record StateOf (Sign : Type 0) : Type 0 where
  pub sign : Sign
  pub next : Ref

-- A state goes by its place in the list of states, and a diagram has states at its leaves and tests variables by
-- their places in the list of variables: from the start the variables of order 0, and from a state the others.
pub record Content (Sign : Type 0) : Type 0 where
  pub mode : Mode
  pub variables : List Variable
  pub start : Ref
  pub states : List (StateOf Sign)
  pub nodes : List Node

-- the first of the bits, and 0 where there is none
abbrev pub head_bit : List Bool → Bool
head_bit [] = false
head_bit (bit ∷ more) = bit

abbrev pub tail_bits : List Bool → List Bool
tail_bits [] = []
tail_bits (bit ∷ more) = more

-- whether a variable of an order is a truth value
abbrev pub is_truth_value : Order → Bool
is_truth_value Zero = true
is_truth_value One = false
is_truth_value Two = false

-- whether a variable of an order has a bit in each letter
abbrev pub is_in_letters : Order → Bool
is_in_letters order = not (is_truth_value order)

-- values that are given, one after the other, for some of the variables, by the place of the variable; 0 elsewhere
abbrev pub padded : (Order → Bool) → List Variable → List Bool → List Bool
padded has_value [] values = []
padded has_value (v ∷ vs) values =
    if has_value v.order then head_bit values ∷ padded has_value vs (tail_bits values) else false ∷ padded has_value vs values

-- the bit at each place of a list, and 0 past its end
abbrev pub bits_at : List Bool → Bits
bits_at values = λ place. slice_index_or values place false

-- truth values, and a letter, as the bits that a diagram is followed by
abbrev pub truth_bits : List Variable → List Bool → Bits
truth_bits variables values = bits_at (padded is_truth_value variables values)

abbrev pub letter_bits : List Variable → List Bool → Bits
letter_bits variables letter = bits_at (padded is_in_letters variables letter)

-- how many of the variables have a value
abbrev pub count_of : (Order → Bool) → List Variable → ℕ
count_of has_value [] = 0
count_of has_value (v ∷ vs) = if has_value v.order then count_of has_value vs + 1 else count_of has_value vs

-- each letter has one bit for each variable of order 1 or 2
abbrev pub AreLetters : List Variable → List (List Bool) → Type 0
AreLetters variables letters = AllByRecursion (λ letter. length letter ≡ count_of is_in_letters variables) letters

-- a word over the variables: a truth value for each of order 0, and letters
pub record IsWordOver (variables : List Variable) (word : Word) : Type 0 where
  pub truth : length word.truth ≡ count_of is_truth_value variables
  pub letters : AreLetters variables word.letters

-- the state to which truth values lead from the start
abbrev pub first_state : {Sign : Type 0} → Content Sign → List Bool → ℕ
first_state content truth = leaf_of content.nodes content.start (truth_bits content.variables truth)

-- the state to which a letter leads from a state; from a place of no state to 0
abbrev pub next_from : {Sign : Type 0} → Content Sign → Option (StateOf Sign) → List Bool → ℕ
next_from content None letter = 0
next_from content (Some state) letter = leaf_of content.nodes state.next (letter_bits content.variables letter)

abbrev pub next_state : {Sign : Type 0} → Content Sign → ℕ → List Bool → ℕ
next_state content state letter = next_from content (slice_get content.states state) letter

-- the state after letters
abbrev pub state_after : {Sign : Type 0} → Content Sign → ℕ → List (List Bool) → ℕ
state_after content state [] = state
state_after content state (letter ∷ letters) = state_after content (next_state content state letter) letters

-- the last state of the run of a word
abbrev pub last_state : {Sign : Type 0} → Content Sign → Word → ℕ
last_state content word = state_after content (first_state content word.truth) word.letters

-- the sign of a state
abbrev pub sign_at : {Sign : Type 0} → Content Sign → ℕ → Option Sign
sign_at content state = option_map (λ found. found.sign) (slice_get content.states state)

-- the sign of a word: that of the last state of its run
abbrev pub sign_of : {Sign : Type 0} → Content Sign → Word → Option Sign
sign_of content word = sign_at content (last_state content word)

-- at this place of the list stands a variable with a value
abbrev pub HasValueAt : List Variable → (Order → Bool) → ℕ → Type 0
HasValueAt variables has_value place = (v : Variable) × (slice_get variables place ≡ Some v) × IsTrue (has_value v.order)

-- every leaf of a reference is the place of a state
abbrev pub LeadsToStates : {Sign : Type 0} → Content Sign → Ref → Type 0
LeadsToStates content reference = (bits : Bits) → leaf_of content.nodes reference bits < length content.states

-- a reference of a content: its node is there, it leads to states, and it tests variables with a value alone
pub record IsFollowed {Sign : Type 0} (content : Content Sign) (has_value : Order → Bool) (reference : Ref) : Type 0 where
  pub valid : IsValid content.nodes reference
  pub states : LeadsToStates content reference
  pub tests : TestsOnly content.nodes (HasValueAt content.variables has_value) reference

-- the start and each state lead to states by the right variables
pub record IsClosed {Sign : Type 0} (content : Content Sign) : Type 0 where
  pub start : IsFollowed content is_truth_value content.start
  pub next : All (λ state. IsFollowed content is_in_letters state.next) content.states

-- a letter with the bit 0 for each variable
abbrev pub zero_letter : List Variable → List Bool
zero_letter variables = replicate (count_of is_in_letters variables) false

-- a word, with one zero letter more at its end
abbrev pub with_zero_letter : List Variable → Word → Word
with_zero_letter variables word = record word { letters = word.letters ++ zero_letter variables ∷ [] }

-- variables of these orders, each by its place
abbrev pub variables_from : ℕ → List Order → List Variable
variables_from place [] = []
variables_from place (order ∷ more) = record { name = place; order = order } ∷ variables_from (place + 1) more

abbrev pub variables_by_place : List Order → List Variable
variables_by_place orders = variables_from 0 orders

-- in WS1S, some word that encodes an assignment has another sign than the same word with a zero letter at its end
pub record IsOpen {Sign : Type 0} (content : Content Sign) : Type 0 where
  pub numbers : content.mode ≡ Ws1s
  pub e : Env
  pub word : Word
  pub assignment : IsAssignment content.mode content.variables e
  pub encodes : Encodes content.variables word e
  pub changes : ¬ (sign_of content word ≡ sign_of content (with_zero_letter content.variables word))

-- the shortest word that encodes the values
abbrev pub shortest_word : List Variable → Env → Word
shortest_word variables e = word_of (length_of variables e) variables e

-- the values, one after the other, of the variables of a list
abbrev pub env_of : Universe → List Variable → List Value → Env
env_of universe variables values =
    assign_all (map (λ v. v.name) variables) values (record { universe = universe; truth = λ x. false; number = λ x. 0; set = λ x. [] })

abbrev pub answer_by : {Sign : Type 0} → (Sign → Answer) → Option Sign → Answer
answer_by read None = answer_undefined
answer_by read (Some sign) = read sign

-- the answer of an automaton at the values of its variables, where each sign is read as an answer: that of the
-- shortest word that encodes them
abbrev pub answer_of : {Sign : Type 0} → (Sign → Answer) → Content Sign → Universe → List Value → Answer
answer_of read content universe values =
    answer_by read (sign_of content (shortest_word content.variables (env_of universe content.variables values)))

-- a reference names a state or a node of the content
abbrev pub NamesPart : {Sign : Type 0} → Content Sign → Ref → Type 0
NamesPart content (Leaf state) = state < length content.states
NamesPart content (Inner place) = place < length content.nodes

-- the rules of the content of a file
pub record IsContent {Sign : Type 0} (content : Content Sign) : Type 0 where
  pub some_state : 0 < length content.states
  pub ordered : IsOrdered content.nodes
  pub start_named : NamesPart content content.start
  pub next_named : (i : ℕ) (state : StateOf Sign) → slice_get content.states i ≡ Some state → NamesPart content state.next
  pub low_named : (place : ℕ) (node : Node) → slice_get content.nodes place ≡ Some node → NamesPart content node.low
  pub high_named : (place : ℕ) (node : Node) → slice_get content.nodes place ≡ Some node → NamesPart content node.high
  pub variables : (place : ℕ) (node : Node) → slice_get content.nodes place ≡ Some node → node.var < length content.variables
  pub start_tests : TestsOnly content.nodes (HasValueAt content.variables is_truth_value) content.start
  pub next_tests :
      (i : ℕ) (state : StateOf Sign) → slice_get content.states i ≡ Some state → TestsOnly content.nodes (HasValueAt content.variables is_in_letters) state.next
