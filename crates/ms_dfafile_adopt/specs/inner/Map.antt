-- Where the names of a file and those of pairs stand.
use Rattle.std.specs.Prelude.{◌≡◌, ◌≢◌, ℕ, List, length, map, slice_get, slice_index, Option, Some, None}
use Rattle.std.specs.Borrow.{Bor}
use Rattle.std.specs.HashMap.{HashMap, get}
use Rattle.std.specs.Str.{bytes_eq}
use Rattle.ms_logic.specs.declared.checked.MapPair.{MapPair}
use Rattle.ms_dfa.specs.declared.plain.FileVar.{FileVar}

abbrev pub file_names : List FileVar → List (List ℕ)
file_names variables = map (λ variable. variable.name) variables

abbrev pub pair_names : List MapPair → List (List ℕ)
pair_names pairs = map (λ pair. pair.name) pairs

-- a place at which the name stands, or nothing where it stands at none
abbrev pub FindsName : List (List ℕ) → List ℕ → Option ℕ → Type 0
FindsName names name None = (place : ℕ) → slice_get names place ≢ Some name
FindsName names name (Some place) = slice_get names place ≡ Some name

-- a table that finds a place of each name
abbrev pub IsIndex : {S : Type 0} → List (List ℕ) → HashMap (Bor (List ℕ)) ℕ S → Type 0
IsIndex names table = (name : Bor (List ℕ)) → FindsName names name.now (get (λ (one other : Bor (List ℕ)). bytes_eq one.now other.now) table name)

-- the places of names in another list
pub record ArePlacesOf (names wanted : List (List ℕ)) (places : List ℕ) : Type 0 where
  pub long : length places ≡ length wanted
  pub there : (i : ℕ) (name : List ℕ) → slice_get wanted i ≡ Some name → slice_get names (slice_index places i) ≡ Some name

-- each of the names stands in the other list
abbrev pub IsEachThere : List (List ℕ) → List (List ℕ) → Type 0
IsEachThere names wanted = (i : ℕ) (name : List ℕ) → slice_get wanted i ≡ Some name → (place : ℕ) × (slice_get names place ≡ Some name)

-- the variables of a file have the orders of the pairs at these places
abbrev pub HaveOrdersAt : List FileVar → List MapPair → List ℕ → Type 0
HaveOrdersAt variables pairs places =
    (i : ℕ) (variable : FileVar) (pair : MapPair) → slice_get variables i ≡ Some variable → slice_get pairs (slice_index places i) ≡ Some pair
    → pair.order ≡ variable.order
