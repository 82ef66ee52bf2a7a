-- The order in which assignments come: by length, then by their truth values, then position by position by their bits.
use Rattle.std.specs.Prelude.{◌≡◌, ℕ, ◌<◌, Bool, true, false, ◌⊎◌, List, [], ◌∷◌, ◌++◌, map, Some, None}
use Rattle.std.specs.List.{flat_map}
use Rattle.ms_logic.specs.declared.assignment.Assignment.{Assignment}
use Rattle.ms_logic.specs.declared.mode.Mode.{Mode}
use Rattle.ms_logic.specs.Assignment.{Universe, Env, Variable, value_at, IsAssignment}
use Rattle.ms_logic.specs.FiniteSet.{numbers_below}
use Rattle.ms_logic.specs.Letters.{truth_values_of, letter_at, bound_of}

-- the length of the string, and in WS1S the bound
abbrev pub length_by : Universe → ℕ → ℕ
length_by None bound = bound
length_by (Some size) bound = size

-- the length of an assignment: that of the string, and in WS1S the least number above each number and each member
abbrev pub length_of : List Variable → Env → ℕ
length_of variables e = length_by e.universe (bound_of variables e)

-- the truth values, and then the bits position by position
abbrev pub bits_of : List Variable → Env → List Bool
bits_of variables e = truth_values_of variables e ++ flat_map (letter_at variables e) (numbers_below (length_of variables e))

-- at the first place where the lists differ, the first list has 0 and the second 1
abbrev pub IsLower : List Bool → List Bool → Type 0
IsLower [] right = ⊥
IsLower (a ∷ left) [] = ⊥
IsLower (false ∷ left) (false ∷ right) = IsLower left right
IsLower (false ∷ left) (true ∷ right) = Unit {0}
IsLower (true ∷ left) (false ∷ right) = ⊥
IsLower (true ∷ left) (true ∷ right) = IsLower left right

-- the first environment comes before the second
abbrev pub IsBefore : List Variable → Env → Env → Type 0
IsBefore variables e f =
    (length_of variables e < length_of variables f)
    ⊎ ((length_of variables e ≡ length_of variables f) × IsLower (bits_of variables e) (bits_of variables f))

-- the first assignment of the variables that has a property
pub record IsFirst (mode : Mode) (variables : List Variable) (Holds : Env → Type 0) (e : Env) : Type 0 where
  pub assignment : IsAssignment mode variables e
  pub holds : Holds e
  pub none_before : (f : Env) → IsAssignment mode variables f → IsBefore variables f e → ¬ Holds f

-- what is shown of an environment: its length, and the value of each variable in the order of the list
abbrev pub assignment_of : List Variable → Env → Assignment
assignment_of variables e = record { length = length_of variables e; values = map (λ v. value_at v.order v.name e) variables }
