-- A diagram reads only the bits of the variables that it tests.
use Rattle.std.proofs.Common.{◌≡◌, ℕ, zero, suc, ◌<◌, ◌≤◌, Bool, true, false, List, length, slice_get, Some, refl, sym, ap, ◌∙◌, arith}
use Rattle.ms_arena.specs.declared.node.Ref.{Ref}
use Rattle.ms_arena.specs.declared.node.Ref.TheVariants.{Leaf, Inner}
use Rattle.ms_arena.specs.declared.node.Node.{Node}
use Rattle.ms_arena.specs.Diagram.{Bits, leaf_of, IsBefore, IsValid, TestsAbove, IsOrdered}
use Rattle.ms_arena.specs.Reach.{Reaches, here, through_low, through_high, IsTested}
use Rattle.ms_arena.proofs.Lists.{slice_get-held}
use Rattle.ms_arena.proofs.Paths.{IsBefore-later, leaf_of-leaf, leaf_of-node}
use Rattle.ms_arena.proofs.Canonicity.{end_for, IsBefore-end_for}

-- a node tests its own variable
pub IsTested-own : (nodes : List Node) (place : ℕ) (node : Node) → slice_get nodes place ≡ Some node → IsTested nodes (Inner place) node.var
IsTested-own nodes place node held = (place, node, here, held, refl)

-- what an end tests, the node tests
pub IsTested-end : (nodes : List Node) (place : ℕ) (node : Node) (bit : Bool) (var : ℕ) → slice_get nodes place ≡ Some node → IsTested nodes (end_for node bit) var → IsTested nodes (Inner place) var
IsTested-end nodes place node true var held tested = (tested.0, tested.1, through_high node held tested.2, tested.3, tested.4)
IsTested-end nodes place node false var held tested = (tested.0, tested.1, through_low node held tested.2, tested.3, tested.4)

module _ (nodes : List Node) (ordered : IsOrdered nodes) where
  reaches_above : {root : Ref} {goal : ℕ} → Reaches nodes root goal → (low : ℕ) (node : Node) → TestsAbove nodes low root → slice_get nodes goal ≡ Some node → low < node.var
  reaches_above here low node above held = above node held
  reaches_above (through_low {place} middle held_middle path) low node above held =
      let less : low < middle.var = above middle held_middle in
      let more = reaches_above path middle.var node (ordered.rising_low place middle held_middle) held in omega arith
  reaches_above (through_high {place} middle held_middle path) low node above held =
      let less : low < middle.var = above middle held_middle in
      let more = reaches_above path middle.var node (ordered.rising_high place middle held_middle) held in omega arith

  -- a reference that tests above a variable tests later variables alone
  pub IsTested-above : (low : ℕ) (root : Ref) (var : ℕ) → TestsAbove nodes low root → IsTested nodes root var → low < var
  IsTested-above low root var above tested = let more = reaches_above tested.2 low tested.1 above tested.3 in omega (arith, tested.4)

  tested_before : (count : ℕ) (root : Ref) (one two : Bits) → IsBefore count root → count ≤ length nodes
      → ((var : ℕ) → IsTested nodes root var → one var ≡ two var) → leaf_of nodes root one ≡ leaf_of nodes root two
  tested_before count (Leaf value) one two before within agree = leaf_of-leaf nodes one value ∙ sym (leaf_of-leaf nodes two value)
  tested_before zero (Inner place) one two before within agree = absurd (omega arith)
  tested_before (suc count) (Inner place) one two before within agree =
      let held = slice_get-held nodes place (omega arith) in
      leaf_of-node nodes ordered one place held.0 held.1
      ∙ tested_before count (end_for held.0 (one held.0.var)) one two
      (IsBefore-later place count (end_for held.0 (one held.0.var)) (omega arith) (IsBefore-end_for nodes ordered place held.0 (one held.0.var) held.1)) (omega arith)
      (λ var tested. agree var (IsTested-end nodes place held.0 (one held.0.var) var held.1 tested))
      ∙ ap (λ bit. leaf_of nodes (end_for held.0 bit) two) (agree held.0.var (IsTested-own nodes place held.0 held.1))
      ∙ sym (leaf_of-node nodes ordered two place held.0 held.1)

  -- bits that agree on the tested variables lead to one leaf
  pub leaf_of-tested : (root : Ref) (one two : Bits) → IsValid nodes root → ((var : ℕ) → IsTested nodes root var → one var ≡ two var) → leaf_of nodes root one ≡ leaf_of nodes root two
  leaf_of-tested root one two valid agree = tested_before (length nodes) root one two valid (omega arith) agree
