-- The letters of an assignment: a truth value for each variable of order 0, and at each position one bit for each other variable.
use Rattle.std.specs.Prelude.{ℕ, ◌+◌, ◌==◌, max, Bool, List, [], ◌∷◌, map}
use Rattle.ms_logic.specs.declared.mode.Order.{Order}
use Rattle.ms_logic.specs.declared.mode.Order.TheVariants.{Zero, One, Two}
use Rattle.ms_logic.specs.Assignment.{Env, Variable}
use Rattle.ms_logic.specs.FiniteSet.{is_member, numbers_below}

-- a bit in front of others, for a variable of order 0 alone: its truth value
abbrev pub with_truth_value : Order → ℕ → Env → List Bool → List Bool
with_truth_value Zero x e more = e.truth x ∷ more
with_truth_value One x e more = more
with_truth_value Two x e more = more

-- the truth values of the variables of order 0, in the order of the list
abbrev pub truth_values_of : List Variable → Env → List Bool
truth_values_of [] e = []
truth_values_of (v ∷ vs) e = with_truth_value v.order v.name e (truth_values_of vs e)

-- a bit in front of others, for a variable of order 1 or 2 alone: whether the position is its number, or a member of its set
abbrev pub with_bit : Order → ℕ → ℕ → Env → List Bool → List Bool
with_bit Zero x position e more = more
with_bit One x position e more = (e.number x == position) ∷ more
with_bit Two x position e more = is_member position (e.set x) ∷ more

-- the letter at a position: the bits of the variables of order 1 and 2, in the order of the list
abbrev pub letter_at : List Variable → Env → ℕ → List Bool
letter_at [] e position = []
letter_at (v ∷ vs) e position = with_bit v.order v.name position e (letter_at vs e position)

-- the letters at the positions below n
abbrev pub letters_below : ℕ → List Variable → Env → List (List Bool)
letters_below n vs e = map (letter_at vs e) (numbers_below n)

-- the least number above each member
abbrev pub bound_of_set : List ℕ → ℕ
bound_of_set [] = 0
bound_of_set (n ∷ more) = max (n + 1) (bound_of_set more)

-- the least number above the number, or above each member of the set, that a variable has
abbrev pub bound_at : Order → ℕ → Env → ℕ
bound_at Zero x e = 0
bound_at One x e = e.number x + 1
bound_at Two x e = bound_of_set (e.set x)

-- the least number above each number and each member among the values of the variables
abbrev pub bound_of : List Variable → Env → ℕ
bound_of [] e = 0
bound_of (v ∷ vs) e = max (bound_at v.order v.name e) (bound_of vs e)
