-- The starts that a store of diagrams needs: where some start leads to each new node, and to each number as a leaf, at least as many
-- starts lead apart.
use Rattle.std.specs.Prelude.{◌≡◌, ℕ, ◌+◌, ◌<◌, ◌≤◌, List, length}
use Rattle.ms_arena.specs.declared.node.Ref.{Ref}
use Rattle.ms_arena.specs.declared.node.Ref.TheVariants.{Leaf, Inner}
use Rattle.ms_arena.specs.declared.node.Node.{Node}
use Rattle.ms_arena.specs.Diagram.{Bits, leaf_of, SameFunction, IsOrdered, IsReduced}
use Rattle.ms_logic_starts.specs.AtLeast.{IsAtLeastNumber}

-- some start leads to the reference
abbrev pub IsLedTo : {Start : Type 0} → (Start → Type 0) → (Start → Ref → Type 0) → Ref → Type 0
IsLedTo {Start} IsStart LeadsTo reference = (start : Start) × IsStart start × LeadsTo start reference

-- some start leads to each of so many places behind the old ones, and to each number below a count as a leaf
pub record AreLedTo {Start : Type 0} (IsStart : Start → Type 0) (LeadsTo : Start → Ref → Type 0) (nodes : List Node) (old more count : ℕ) : Type 0 where
  pub within : old + more ≤ length nodes
  pub places : (place : ℕ) → old ≤ place → place < old + more → IsLedTo IsStart LeadsTo (Inner place)
  pub numbers : (number : ℕ) → number < count → IsLedTo IsStart LeadsTo (Leaf number)

-- starts that lead alike lead to references of one function
abbrev pub LeadToOneFunction : {Start : Type 0} → (Start → Start → Type 0) → (Start → Ref → Type 0) → List Node → Type 0
LeadToOneFunction {Start} LeadAlike LeadsTo nodes =
    (one other : Start) (left right : Ref) → LeadAlike one other → LeadsTo one left → LeadsTo other right → SameFunction nodes left right

-- where the list is ordered and reduced, at least as many starts lead apart as there are such places and numbers
abbrev pub NeededLeadApart : {Start : Type 0} → (Start → Type 0) → (Start → Start → Type 0) → (Start → Ref → Type 0) → Type 0
NeededLeadApart IsStart LeadAlike LeadsTo =
    (nodes : List Node) (old more count : ℕ) → IsOrdered nodes → IsReduced nodes → LeadToOneFunction LeadAlike LeadsTo nodes
    → AreLedTo IsStart LeadsTo nodes old more count → IsAtLeastNumber LeadAlike IsStart (more + count)

module _ {Start : Type 0} (leaves : Start → Bits → ℕ) where
  -- both starts leave one function
  abbrev pub LeaveOneFunction : Start → Start → Type 0
  LeaveOneFunction one other = (bits : Bits) → leaves one bits ≡ leaves other bits

  -- the start leaves the function of the reference
  abbrev pub Leaves : List Node → Start → Ref → Type 0
  Leaves nodes start reference = (bits : Bits) → leaves start bits ≡ leaf_of nodes reference bits

  -- the same of starts that leave functions
  abbrev pub NeededLeaveApart : (Start → Type 0) → Type 0
  NeededLeaveApart IsStart =
      (nodes : List Node) (old more count : ℕ) → IsOrdered nodes → IsReduced nodes → AreLedTo IsStart (Leaves nodes) nodes old more count
      → IsAtLeastNumber LeaveOneFunction IsStart (more + count)
