-- What is known of the diagrams that are built.
use Rattle.std.proofs.Common.{◌≡◌, ℕ, ◌<◌, ◌≤◌, Bool, true, false, if◌then◌else◌, List, slice_get, Some, subst, sym}
use Rattle.ms_arena.specs.declared.node.Ref.{Ref}
use Rattle.ms_arena.specs.declared.node.Ref.TheVariants.{Leaf}
use Rattle.ms_arena.specs.declared.node.Node.{Node}
use Rattle.ms_arena.specs.Diagram.{Bits, leaf_of, IsValid, TestsAbove, IsOrdered}
use Rattle.ms_arena.specs.Target.{Extends}
use Rattle.ms_arena.proofs.Appending.{IsValid-extends, TestsAbove-extends, leaf_of-extends}
use Rattle.ms_arena.proofs.Paths.{leaf_of-leaf}

-- a function of bits, 0 or 1, that reads no bit below a variable
pub record IsTruthFrom (nodes : List Node) (var : ℕ) (made : Ref) : Type 0 where
  pub valid : IsValid nodes made
  pub above : (lower : ℕ) → lower < var → TestsAbove nodes lower made
  pub truth : (bits : Bits) → leaf_of nodes made bits < 2

pub record AreParities (nodes : List Node) (var : ℕ) (even odd : Ref) : Type 0 where
  pub ordered : IsOrdered nodes
  pub positive : 0 < var
  pub even_is : IsTruthFrom nodes var even
  pub odd_is : IsTruthFrom nodes var odd

pub IsTruthFrom-extends : (old new : List Node) → IsOrdered old → Extends old new → (var : ℕ) (made : Ref) → IsTruthFrom old var made → IsTruthFrom new var made
IsTruthFrom-extends old new ordered extends var made is = record {
  valid = IsValid-extends old new extends made is.valid;
  above = λ lower less. TestsAbove-extends old new extends lower made is.valid (is.above lower less);
  truth = λ bits. subst (λ leaf. leaf < 2) (sym (leaf_of-extends old new extends ordered made bits is.valid)) (is.truth bits);
}

-- a choice between two such functions is one
pub truth_chosen : (nodes : List Node) (low high : Ref) (bits : Bits) (bit : Bool) → leaf_of nodes low bits < 2 → leaf_of nodes high bits < 2
    → (if bit then leaf_of nodes high bits else leaf_of nodes low bits) < 2
truth_chosen nodes low high bits true first second = second
truth_chosen nodes low high bits false first second = first

-- a leaf that is 0 or 1 is one
pub IsTruthFrom-leaf : (nodes : List Node) (var value : ℕ) (made : Ref) → made ≡ Leaf value → value < 2 → IsTruthFrom nodes var made
IsTruthFrom-leaf nodes var value made is small = subst (λ (r : Ref). IsTruthFrom nodes var r) (sym is) (record {
  valid = tt;
  above = λ lower less. tt;
  truth = λ bits. subst (λ leaf. leaf < 2) (sym (leaf_of-leaf nodes bits value)) small;
})

-- so is what `mk` gives over two of them
pub IsTruthFrom-made : (old new : List Node) (var : ℕ) (low high made : Ref) → IsValid new made → ((lower : ℕ) → lower < var → TestsAbove new lower made)
    → ((bits : Bits) → leaf_of new made bits ≡ (if bits var then leaf_of old high bits else leaf_of old low bits))
    → ((bits : Bits) → leaf_of old low bits < 2) → ((bits : Bits) → leaf_of old high bits < 2) → IsTruthFrom new var made
IsTruthFrom-made old new var low high made valid above function first second = record {
  valid = valid;
  above = above;
  truth = λ bits. subst (λ leaf. leaf < 2) (sym (function bits)) (truth_chosen old low high bits (bits var) (first bits) (second bits));
}

-- each node of the list tests a variable below a count
abbrev pub AllBelow : ℕ → List Node → Type 0
AllBelow count nodes = (place : ℕ) (node : Node) → slice_get nodes place ≡ Some node → node.var < count

-- what is made so far of a chain of the variables below a count
pub record IsChain (nodes : List Node) (count var : ℕ) (root : Ref) : Type 0 where
  pub valid : IsValid nodes root
  pub above : (lower : ℕ) → lower < var → TestsAbove nodes lower root
  pub below : AllBelow count nodes
  pub within : var ≤ count
