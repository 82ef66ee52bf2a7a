-- Which pair of an import names which variable of a file.
use Rattle.std.specs.Prelude.{◌≡◌, ℕ, List, length, slice_get, slice_index, Some}
use Rattle.ms_logic.specs.declared.checked.MapPair.{MapPair}
use Rattle.ms_dfa.specs.declared.plain.FileVar.{FileVar}
use Rattle.ms_dfa.specs.declared.plain.Plain.{Plain}

-- for each variable of the file the place of the pair that names it, with its order; and each pair names a variable
pub record IsNaming (plain : Plain) (pairs : List MapPair) (places : List ℕ) : Type 0 where
  pub long : length places ≡ length plain.variables
  pub each :
      (i : ℕ) (variable : FileVar) → slice_get plain.variables i ≡ Some variable
      → (pair : MapPair) × (slice_get pairs (slice_index places i) ≡ Some pair) × (pair.name ≡ variable.name) × (pair.order ≡ variable.order)
  pub only :
      (j : ℕ) (pair : MapPair) → slice_get pairs j ≡ Some pair
      → (i : ℕ) × (variable : FileVar) × (slice_get plain.variables i ≡ Some variable) × (variable.name ≡ pair.name)
