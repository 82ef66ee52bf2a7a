-- Words over a list of variables: a truth value for each variable of order 0, and letters that have one bit for each
-- other variable. The letter at a position has the bit 1 for the number at that position and for each set that has
-- the position as a member (Büchi, 1960).
use Rattle.std.specs.Prelude.{◌≡◌, ℕ, ◌≤◌, List, length, Some, None}
use Rattle.ms_list.specs.declared.word.Word.{Word}
use Rattle.ms_logic.specs.declared.mode.Mode.{Mode}
use Rattle.ms_logic.specs.Assignment.{Universe, Env, Variable, IsAssignment}
use Rattle.ms_logic.specs.Letters.{truth_values_of, letters_below, bound_of}

-- a string of the universe has n letters; in WS1S any number of letters will do
abbrev pub HasLength : Universe → ℕ → Type 0
HasLength None n = Unit {0}
HasLength (Some size) n = n ≡ size

-- a word encodes the values that e gives the variables: its truth values and its letters are theirs, and each number
-- and each member is one of its positions
pub record Encodes (variables : List Variable) (word : Word) (e : Env) : Type 0 where
  pub truth : word.truth ≡ truth_values_of variables e
  pub letters : word.letters ≡ letters_below (length word.letters) variables e
  pub room : bound_of variables e ≤ length word.letters
  pub string : HasLength e.universe (length word.letters)

-- a word encodes some assignment of the variables
abbrev pub IsEncoding : Mode → List Variable → Word → Type 0
IsEncoding mode variables word = (e : Env) × IsAssignment mode variables e × Encodes variables word e
