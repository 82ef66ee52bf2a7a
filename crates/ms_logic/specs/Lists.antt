-- What holds of each item of a list, and lists of variables: being one of them, those without a number, rising numbers.
use Rattle.std.specs.Prelude.{◌≡◌, ◌⊎◌, List, [], ◌∷◌, ℕ, ◌<◌, ◌==◌, not, filter}
use Rattle.ms_logic.specs.Assignment.{Variable}

-- P holds of each item
abbrev pub Each : {A : Type 0} → (A → Type 0) → List A → Type 0
Each P [] = Unit {0}
Each P (x ∷ xs) = P x × Each P xs

-- a variable is one of a list
abbrev pub IsAmong : List Variable → Variable → Type 0
IsAmong [] v = ⊥
IsAmong (w ∷ ws) v = (w ≡ v) ⊎ IsAmong ws v

-- the variables of a list that do not have this number
abbrev pub without : ℕ → List Variable → List Variable
without name vs = filter (λ v. not (v.name == name)) vs

-- a number is below that of the first variable of a list, if there is one
abbrev pub IsBelowFirst : ℕ → List Variable → Type 0
IsBelowFirst name [] = Unit {0}
IsBelowFirst name (v ∷ vs) = name < v.name

-- the numbers of the variables rise: globals come first, then bound variables, outer ones before inner ones
abbrev pub AreRising : List Variable → Type 0
AreRising [] = Unit {0}
AreRising (v ∷ vs) = IsBelowFirst v.name vs × AreRising vs
