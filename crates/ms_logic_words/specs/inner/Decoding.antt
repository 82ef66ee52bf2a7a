-- The assignment that a word encodes, read off its bits.
use Rattle.std.specs.Prelude.{◌≡◌, ℕ, ◌+◌, max, Bool, false, List, [], ◌∷◌, length, filter, slice_index_or, Some, None}
use Rattle.std.specs.List.{AllByRecursion}
use Rattle.ms_list.specs.declared.word.Word.{Word}
use Rattle.ms_logic.specs.declared.mode.Order.{Order}
use Rattle.ms_logic.specs.declared.mode.Order.TheVariants.{Zero, One, Two}
use Rattle.ms_logic.specs.declared.mode.Mode.{Mode}
use Rattle.ms_logic.specs.declared.mode.Mode.TheVariants.{Ws1s, M2lStr}
use Rattle.ms_logic.specs.declared.assignment.Value.{Value}
use Rattle.ms_logic.specs.declared.assignment.Value.TheVariants.{Truth, Number, Set}
use Rattle.ms_logic.specs.Assignment.{Universe, Env, Variable}
use Rattle.ms_logic_words.specs.Content.{env_of}
use Rattle.ms_logic.specs.FiniteSet.{least, numbers_below}
use Rattle.ms_logic.specs.Letters.{bound_of_set}

-- the bit of a letter in a column
abbrev pub bit_in : List (List Bool) → ℕ → ℕ → Bool
bit_in letters column position = slice_index_or (slice_index_or letters position []) column false

-- the positions at which a column has the bit 1
abbrev pub positions_of : List (List Bool) → ℕ → List ℕ
positions_of letters column = filter (bit_in letters column) (numbers_below (length letters))

-- the value of a variable of an order: its truth value at a place among them, or what its column says
abbrev pub decoded_value : Word → Order → ℕ → ℕ → Value
decoded_value word Zero place column = Truth (slice_index_or word.truth place false)
decoded_value word One place column = Number (least (positions_of word.letters column))
decoded_value word Two place column = Set (positions_of word.letters column)

-- the place of the next truth value, and the next column
abbrev pub place_after : Order → ℕ → ℕ
place_after Zero place = place + 1
place_after One place = place
place_after Two place = place

abbrev pub column_after : Order → ℕ → ℕ
column_after Zero column = column
column_after One column = column + 1
column_after Two column = column + 1

-- the values of variables, the first of which has its truth value or its column there
abbrev pub decoded_values : Word → ℕ → ℕ → List Variable → List Value
decoded_values word place column [] = []
decoded_values word place column (v ∷ vs) =
    decoded_value word v.order place column ∷ decoded_values word (place_after v.order place) (column_after v.order column) vs

-- the least number above a number, or above each member of a set
abbrev pub bound_of_value : Value → ℕ
bound_of_value (Truth value) = 0
bound_of_value (Number n) = n + 1
bound_of_value (Set members) = bound_of_set members

abbrev pub bound_of_values : List Value → ℕ
bound_of_values [] = 0
bound_of_values (value ∷ values) = max (bound_of_value value) (bound_of_values values)

-- the length of the assignment: in WS1S the bound of its values, and that of the string in M2L-Str
abbrev pub decoded_length : Mode → ℕ → ℕ → ℕ
decoded_length Ws1s letters bound = bound
decoded_length M2lStr letters bound = letters

-- the universe of a word with so many letters: each number in WS1S, and its positions in M2L-Str
abbrev pub decoded_universe : Mode → ℕ → Universe
decoded_universe Ws1s letters = None
decoded_universe M2lStr letters = Some letters

-- the assignment that a word over the variables is read as: each variable has its decoded value
abbrev pub decoded : Mode → List Variable → Word → Env
decoded mode variables word = env_of (decoded_universe mode (length word.letters)) variables (decoded_values word 0 0 variables)

-- a column has exactly one 1, if it is that of a variable of order 1
abbrev pub HasOneBit : List (List Bool) → Order → ℕ → Type 0
HasOneBit letters Zero column = Unit {0}
HasOneBit letters One column = length (positions_of letters column) ≡ 1
HasOneBit letters Two column = Unit {0}

-- the same of each variable of a list, the first of which has its column there
abbrev pub HaveOneBit : List (List Bool) → ℕ → List Variable → Type 0
HaveOneBit letters column [] = Unit {0}
HaveOneBit letters column (v ∷ vs) = HasOneBit letters v.order column × HaveOneBit letters (column_after v.order column) vs

-- the column of each variable of order 1 has exactly one 1
abbrev pub HasOneBitEach : List Variable → Word → Type 0
HasOneBitEach variables word = HaveOneBit word.letters 0 variables

-- each variable is a set
abbrev pub AreSets : List Variable → Type 0
AreSets variables = AllByRecursion (λ v. v.order ≡ Two) variables
