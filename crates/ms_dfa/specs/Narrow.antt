-- A word read over other variables: each of them has the bits that the word has at a place that a map gives.
use Rattle.std.specs.Prelude.{◌≡◌, ℕ, ◌+◌, Bool, if◌then◌else◌, List, [], ◌∷◌, slice_get, slice_index, Some}
use Rattle.std.specs.Prelude.{map as map_list}
use Rattle.ms_list.specs.declared.word.Word.{Word}
use Rattle.ms_arena.specs.Diagram.{Bits}
use Rattle.ms_diagram.specs.Bring.{read_through}
use Rattle.ms_logic.specs.declared.mode.Mode.{Mode}
use Rattle.ms_logic.specs.declared.mode.Order.{Order}
use Rattle.ms_logic.specs.declared.mode.Order.TheVariants.{One}
use Rattle.ms_logic.specs.Assignment.{Env, Variable, value_at}
use Rattle.ms_logic_words.specs.Content.{is_truth_value, is_in_letters, truth_bits, letter_bits}
use Rattle.ms_logic.specs.Lists.{AreRising}
use Rattle.ms_logic_words.specs.Word.{IsEncoding}

-- the bits of the variables with a value, in the order of the list, the first of which stands at this place
abbrev pub gathered : (Order → Bool) → ℕ → List Variable → Bits → List Bool
gathered has_value place [] bits = []
gathered has_value place (v ∷ vs) bits =
    if has_value v.order then bits place ∷ gathered has_value (place + 1) vs bits else gathered has_value (place + 1) vs bits

-- the map has, for the place of each of the narrow variables, a place of the wide ones
abbrev pub narrowed_truth : List ℕ → List Variable → List Variable → List Bool → List Bool
narrowed_truth map narrow wide truth = gathered is_truth_value 0 narrow (read_through map (truth_bits wide truth))

abbrev pub narrowed_letter : List ℕ → List Variable → List Variable → List Bool → List Bool
narrowed_letter map narrow wide letter = gathered is_in_letters 0 narrow (read_through map (letter_bits wide letter))

-- the word over the narrow variables
abbrev pub narrowed : List ℕ → List Variable → List Variable → Word → Word
narrowed map narrow wide word = record { truth = narrowed_truth map narrow wide word.truth; letters = map_list (narrowed_letter map narrow wide) word.letters }

-- the map leads each narrow variable to a wide one of its order, and the first assignment gives it what the second gives
-- that one
pub record ReadsThrough (map : List ℕ) (narrow wide : List Variable) (f e : Env) : Type 0 where
  pub universe : f.universe ≡ e.universe
  pub values :
      (place : ℕ) (v : Variable) → slice_get narrow place ≡ Some v
      → (w : Variable) × (slice_get wide (slice_index map place) ≡ Some w) × (w.order ≡ v.order) × (value_at v.order v.name f ≡ value_at w.order w.name e)

-- a wide variable of order 1 is one of narrow variables over which the word encodes an assignment
pub record IsCovered (mode : Mode) (wide : List Variable) (word : Word) (place : ℕ) : Type 0 where
  pub map : List ℕ
  pub narrow : List Variable
  pub rising : AreRising narrow
  pub encoding : IsEncoding mode narrow (narrowed map narrow wide word)
  pub own : ℕ
  pub variable : Variable
  pub there : slice_get narrow own ≡ Some variable
  pub number : variable.order ≡ One
  pub leads : slice_index map own ≡ place
