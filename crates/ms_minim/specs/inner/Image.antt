-- What the nodes of an automaton that are reached from somewhere become where their leaves are read as classes, one after the other.
use Rattle.std.specs.Prelude.{◌≡◌, ℕ, List, length, slice_get, slice_index, Some, get_or}
use Rattle.ms_arena.specs.declared.node.Ref.{Ref}
use Rattle.ms_arena.specs.declared.node.Ref.TheVariants.{Leaf, Inner}
use Rattle.ms_arena.specs.declared.node.Node.{Node}
use Rattle.ms_arena.specs.Diagram.{Bits, leaf_of, IsValid, TestsAbove}
use Rattle.ms_diagram.specs.Store.{IsStore}
use Rattle.ms_minim.specs.declared.images.Images.{Images}
use Rattle.ms_minim.specs.inner.Origin.{IsOn}

-- the reference has at all bits the class of the leaf that the root has, and tests no variable before those of the root
pub record IsImage (new old : List Node) (classes : List ℕ) (root made : Ref) : Type 0 where
  pub valid : IsValid new made
  pub leaves : (bits : Bits) → leaf_of new made bits ≡ slice_index classes (leaf_of old root bits)
  pub above : (var : ℕ) → TestsAbove old var root → TestsAbove new var made

-- the images of those of the first nodes of a list that are reached from somewhere
abbrev pub HaveImages : List Node → List Node → List ℕ → List ℕ → List Ref → Type 0
HaveImages new old classes origins made =
    (place : ℕ) (image : Ref) → IsOn origins (Inner place) → slice_get made place ≡ Some image → IsImage new old classes (Inner place) image

-- the image of a reference, by those of the nodes
abbrev pub image_of : List Ref → List ℕ → Ref → Ref
image_of images classes (Leaf value) = Leaf (slice_index classes value)
image_of images classes (Inner place) = get_or images place (Leaf 0)

-- the images of all nodes of a list that are reached from somewhere, in a store
pub record AreImages (old : List Node) (classes origins : List ℕ) (images : Images) : Type 0 where
  pub store : IsStore images.store.nodes images.store.limit
  pub long : length images.list ≡ length old
  pub each : HaveImages images.store.nodes old classes origins images.list
