-- The variables of two lists in one list, and where those of one list stand in another.
use Rattle.std.specs.Prelude.{◌≡◌, ℕ, suc, nat_lt, nat_eq, ◌⊎◌, if◌then◌else◌, List, [], ◌∷◌, ◌++◌, map}
use Rattle.ms_logic.specs.Assignment.{Variable}

-- the variables at the beginning of a list whose numbers are below this one, and those behind them
abbrev pub before : ℕ → List Variable → List Variable
before name [] = []
before name (v ∷ vs) = if nat_lt v.name name then v ∷ before name vs else []

abbrev pub from : ℕ → List Variable → List Variable
from name [] = []
from name (v ∷ vs) = if nat_lt v.name name then from name vs else v ∷ vs

-- a list without its first variable, where that has this number
abbrev pub without_first : ℕ → List Variable → List Variable
without_first name [] = []
without_first name (v ∷ vs) = if nat_eq v.name name then vs else v ∷ vs

-- the variables of both lists, each once, in rising order where both lists rise
abbrev pub merged : List Variable → List Variable → List Variable
merged [] right = right
merged (v ∷ vs) right = before v.name right ++ v ∷ merged vs (without_first v.name (from v.name right))

-- the variables of a list, each once, in rising order, with those that are there already
abbrev pub gathered_with : List Variable → List Variable → List Variable
gathered_with there [] = there
gathered_with there (v ∷ vs) = gathered_with (merged there (v ∷ [])) vs

abbrev pub distinct : List Variable → List Variable
distinct vs = gathered_with [] vs

-- where the first variable with this number stands in a list, and past its end where there is none
abbrev pub place_of : ℕ → List Variable → ℕ
place_of name [] = 0
place_of name (v ∷ vs) = if nat_eq v.name name then 0 else suc (place_of name vs)

-- the places of variables in a list
abbrev pub places_among : List Variable → List Variable → List ℕ
places_among narrow wide = map (λ v. place_of v.name wide) narrow
