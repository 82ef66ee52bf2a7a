-- What nodes become one after the other, where their leaves are read as classes. Only the contracts and proofs inside this crate cite it.
use Rattle.std.specs.Prelude.{◌≡◌, ℕ, List, get_or, length, slice_get, slice_index, Some}
use Rattle.ms_arena.specs.declared.node.Node.{Node}
use Rattle.ms_arena.specs.declared.node.Ref.{Ref}
use Rattle.ms_arena.specs.declared.node.Ref.TheVariants.{Leaf, Inner}
use Rattle.ms_arena.specs.Diagram.{Bits, IsValid, TestsAbove, leaf_of}
use Rattle.ms_diagram.specs.Store.{IsStore}
use Rattle.ms_dfa.specs.declared.plain.FileState.{FileState}
use Rattle.ms_dfa.specs.declared.plain.Plain.{Plain}
use Rattle.ms_cert.specs.declared.images.Images.{Images}
use Rattle.ms_cert.specs.inner.Difference.{TestBelow}

-- the reference has at all bits the class of the leaf that the root has, and tests no variable before those of the root
pub record IsImage (new old : List Node) (classes : List ℕ) (root made : Ref) : Type 0 where
  pub valid : IsValid new made
  pub leaves : (bits : Bits) → leaf_of new made bits ≡ slice_index classes (leaf_of old root bits)
  pub above : (var : ℕ) → TestsAbove old var root → TestsAbove new var made

-- the images of the first nodes of a list
abbrev pub HaveImages : List Node → List Node → List ℕ → List Ref → Type 0
HaveImages new old classes made = (place : ℕ) (image : Ref) → slice_get made place ≡ Some image → IsImage new old classes (Inner place) image

-- the image of a reference, by those of the nodes
abbrev pub image_of : List Ref → List ℕ → Ref → Ref
image_of images classes (Leaf value) = Leaf (slice_index classes value)
image_of images classes (Inner place) = get_or images place (Leaf 0)

-- the images of all nodes of a file, in a store that tests variables of the file alone
pub record AreImages (plain : Plain) (classes : List ℕ) (images : Images) : Type 0 where
  pub store : IsStore images.store.nodes images.store.limit
  pub below : TestBelow images.store.nodes (length plain.variables)
  pub long : length images.list ≡ length plain.nodes
  pub each : HaveImages images.store.nodes plain.nodes classes images.list

-- the image of the diagram behind a state
abbrev pub IsImageBehind : Plain → List ℕ → Images → ℕ → Ref → Type 0
IsImageBehind plain classes images state made = (own : FileState) → slice_get plain.states state ≡ Some own → IsImage images.store.nodes plain.nodes classes own.next made
