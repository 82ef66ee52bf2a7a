-- Partitions where no two states have one class: each state may be its own class, and each node its own image.
use Rattle.std.specs.Prelude.{◌≡◌, ℕ, List, length, slice_get, Some}
use Rattle.ms_arena.specs.declared.node.Ref.{Ref}
use Rattle.ms_arena.specs.declared.node.Ref.TheVariants.{Inner}

-- the references to the nodes at so many places, one after the other
pub record AreOwnImages (count : ℕ) (images : List Ref) : Type 0 where
  pub long : length images ≡ count
  pub own : (place : ℕ) (image : Ref) → slice_get images place ≡ Some image → image ≡ Inner place
