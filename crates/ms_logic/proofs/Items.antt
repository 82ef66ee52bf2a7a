-- Items at places of lists.
use Rattle.std.proofs.Common.{◌≡◌, ℕ, List, slice_get, Some}
use Rattle.std.specs.Prelude.{Contains}
use Rattle.std.proofs.lemmas.Option.{slice_get_within, get_or_from_slice_get}

-- the item at a place stands in the list
pub contains_at : {X : Type 0} (items : List X) (place : ℕ) (x : X) → slice_get items place ≡ Some x → Contains items x
contains_at items place x held = (place, slice_get_within items place x held, get_or_from_slice_get items place x x held)
