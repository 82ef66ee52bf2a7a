-- What has become of the nodes and states of a file.
use Rattle.std.specs.Prelude.{◌≡◌, ℕ, List, slice_get, Some}
use Rattle.ms_list.specs.declared.fault.StepFault.{StepFault}
use Rattle.ms_list.specs.declared.fault.StepFault.TheVariants.{Nodes, Memory}
use Rattle.ms_edge.specs.declared.refusal.Refusal.{Refusal}
use Rattle.ms_edge.specs.declared.refusal.Refusal.TheVariants as refusal
use Rattle.ms_arena.specs.declared.node.Node.{Node}
use Rattle.ms_arena.specs.declared.node.Ref.{Ref}
use Rattle.ms_arena.specs.declared.node.Ref.TheVariants.{Inner}
use Rattle.ms_arena.specs.Diagram.{Bits, leaf_of, IsValid, TestsAbove}
use Rattle.ms_logic_words.specs.declared.sign.Sign.{Sign}
use Rattle.ms_logic_words.specs.Content.{StateOf}
use Rattle.ms_dfa.specs.declared.plain.FileSign.{FileSign}
use Rattle.ms_rename.specs.inner.Image.{image_of}
use Rattle.ms_dfafile_adopt.specs.Readings.{own_sign}

-- a state of a file, with what its reference has become
abbrev pub own_state : List Ref → StateOf FileSign → StateOf Sign
own_state images state = record { sign = own_sign state.sign; next = image_of images state.next }

-- what a reference has become: it leads to the same leaves, and tests no variable before those that the reference tests
pub record HasBecome (new old : List Node) (reference image : Ref) : Type 0 where
  pub valid : IsValid new image
  pub leaves : (bits : Bits) → leaf_of new image bits ≡ leaf_of old reference bits
  pub above : (lower : ℕ) → TestsAbove old lower reference → TestsAbove new lower image

-- what the first nodes of a list have become
abbrev pub HaveBecome : List Node → List Node → List Ref → Type 0
HaveBecome new old images = (place : ℕ) (image : Ref) → slice_get images place ≡ Some image → HasBecome new old (Inner place) image

-- the refusal of an import for a step that was refused
abbrev pub refusal_of : StepFault → Refusal
refusal_of Memory = refusal.Memory
refusal_of (Nodes limit) = refusal.Nodes 0 limit
