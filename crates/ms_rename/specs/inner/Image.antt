-- What a diagram becomes where its variables are read at other places, in whatever order these stand.
use Rattle.std.specs.Prelude.{◌≡◌, ℕ, List, length, slice_get, Some, get_or}
use Rattle.ms_arena.specs.declared.node.Ref.{Ref}
use Rattle.ms_arena.specs.declared.node.Ref.TheVariants.{Leaf, Inner}
use Rattle.ms_arena.specs.declared.node.Node.{Node}
use Rattle.ms_arena.specs.Diagram.{Bits, leaf_of, IsValid}
use Rattle.ms_diagram.specs.Bring.{read_through}
use Rattle.ms_logic_words.specs.declared.sign.Sign.{Sign}
use Rattle.ms_logic_words.specs.Content.{StateOf, Content}

-- the reference has at all bits the leaf that the root has at the bits that are read through the map
pub record IsImage (new old : List Node) (places : List ℕ) (root made : Ref) : Type 0 where
  pub valid : IsValid new made
  pub leaves : (bits : Bits) → leaf_of new made bits ≡ leaf_of old root (read_through places bits)

-- the images of the first nodes of a list
abbrev pub AreImages : List Node → List Node → List ℕ → List Ref → Type 0
AreImages new old places made = (place : ℕ) (image : Ref) → slice_get made place ≡ Some image → IsImage new old places (Inner place) image

-- the image of a reference, by those of the nodes
abbrev pub image_of : List Ref → Ref → Ref
image_of images (Leaf value) = Leaf value
image_of images (Inner place) = get_or images place (Leaf 0)

-- a content with the images of another's start and states, and with its signs
pub record IsRenamedBy (places : List ℕ) (old new : Content Sign) : Type 0 where
  pub start : IsImage new.nodes old.nodes places old.start new.start
  pub long : length new.states ≡ length old.states
  pub states :
      (number : ℕ) (was is : StateOf Sign) → slice_get old.states number ≡ Some was → slice_get new.states number ≡ Some is
      → (is.sign ≡ was.sign) × IsImage new.nodes old.nodes places was.next is.next

-- a state with the image of its diagram
abbrev pub with_image : List Ref → StateOf Sign → StateOf Sign
with_image images state = record { sign = state.sign; next = image_of images state.next }
