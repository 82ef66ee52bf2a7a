-- A list by place, from a first place on, as the list of its entries.
use Rattle.std.specs.Prelude.{ℕ, suc, List, [], ◌∷◌, Option, None, Some}

-- the places that have something, with what they have
abbrev pub place_entries : {V : Type 0} → ℕ → List (Option V) → List (ℕ × V)
place_entries first [] = []
place_entries first (None ∷ slots) = place_entries (suc first) slots
place_entries first (Some made ∷ slots) = (first, made) ∷ place_entries (suc first) slots
