-- The function that gives at each bits the number of the set of leaves that several references of another store have there, for
-- both bits of the variable that is left out.
use Rattle.std.specs.Prelude.{◌≡◌, ℕ, min, Bool, List, [], ◌∷◌, length, slice_get, Some, All, Contains}
use Rattle.std.specs.List.Sorted.{IsStrictlyIncreasing}
use Rattle.ms_arena.specs.declared.node.Ref.{Ref}
use Rattle.ms_arena.specs.declared.node.Ref.TheVariants.{Leaf, Inner}
use Rattle.ms_arena.specs.declared.node.Node.{Node}
use Rattle.ms_arena.specs.Diagram.{Bits, leaf_of, IsValid}
use Rattle.ms_arena.specs.Halves.{half_of, level_of}
use Rattle.ms_arena.specs.Target.{Target, Meets}
use Rattle.ms_diagram.specs.Numbering.{IsNumbering, IsMissing, IsLeafOf}
use Rattle.ms_diagram.specs.Projecting.{Projecting, IsReadIn, opened}

-- one of the roots has this leaf at the bits, for one of the bits of the track
abbrev pub IsLeafThere : Projecting → List Ref → Bits → ℕ → Type 0
IsLeafThere view roots bits leaf =
    (root : Ref) × (bit : Bool) × Contains roots root × (leaf_of view.nodes root (opened view bits bit) ≡ leaf)

-- a strictly rising list of the numbers that are members, and of no others
pub record IsRisingSet (set : List ℕ) (IsMember : ℕ → Type 0) : Type 0 where
  pub rising : IsStrictlyIncreasing set
  pub all : (item : ℕ) → IsMember item → Contains set item
  pub only : (item : ℕ) → Contains set item → IsMember item

-- the leaves of the roots are this set at some bits
abbrev pub HasLeafSet : Projecting → List Ref → List ℕ → Type 0
HasLeafSet view roots set = (bits : Bits) × IsRisingSet set (IsLeafThere view roots bits)

-- the number of the set of the leaves of the roots
abbrev pub SetNumber : Projecting → List (List ℕ) → List Ref → Target
SetNumber view sets roots = λ bits number.
    (set : List ℕ) × (slice_get sets number ≡ Some set) × IsRisingSet set (IsLeafThere view roots bits)

-- a set of leaves has no number, and each of the 2^32 - 1 numbers has a set
abbrev pub LacksSet : Projecting → List (List ℕ) → List Ref → Type 0
LacksSet view sets roots =
    (length sets ≡ 4294967295)
    × ((bits : Bits) × ((number : ℕ) (set : List ℕ) → slice_get sets number ≡ Some set → IsRisingSet set (IsLeafThere view roots bits) → ⊥))

-- the sets differ, and each is strictly rising
pub record IsSetNumbering (sets : List (List ℕ)) : Type 0 where
  pub numbering : IsNumbering sets
  pub rising : (number : ℕ) (set : List ℕ) → slice_get sets number ≡ Some set → IsStrictlyIncreasing set

-- the reference has at all bits the number of the set of the leaves of the roots
pub record IsCollected (view : Projecting) (sets : List (List ℕ)) (nodes : List Node) (roots : List Ref) (made : Ref) : Type 0 where
  pub read : All (IsReadIn view) roots
  pub valid : IsValid nodes made
  pub meets : Meets nodes (SetNumber view sets roots) made

-- the halves of the roots for one value of a variable's bit
pub record AreHalves (nodes : List Node) (var : ℕ) (bit : Bool) (roots halves : List Ref) : Type 0 where
  pub all : (root : Ref) → Contains roots root → Contains halves (half_of nodes var bit root)
  pub only : (half : Ref) → Contains halves half → (root : Ref) × Contains roots root × (half_of nodes var bit root ≡ half)

-- the halves of the roots for both values
pub record AreBothHalves (nodes : List Node) (var : ℕ) (roots halves : List Ref) : Type 0 where
  pub all : (root : Ref) (bit : Bool) → Contains roots root → Contains halves (half_of nodes var bit root)
  pub only : (half : Ref) → Contains halves half → (root : Ref) × (bit : Bool) × Contains roots root × (half_of nodes var bit root ≡ half)

-- two lists have the same items
pub record HaveSameItems {X : Type 0} (one two : List X) : Type 0 where
  pub there : (item : X) → Contains one item → Contains two item
  pub back : (item : X) → Contains two item → Contains one item

-- the least level of the roots
abbrev pub least_level : List Node → List Ref → ℕ
least_level nodes [] = 4294967296
least_level nodes (root ∷ roots) = min (level_of nodes root) (least_level nodes roots)

-- the number of a leaf before other numbers, and nothing more for a node
abbrev pub leaf_before : Ref → List ℕ → List ℕ
leaf_before (Leaf value) values = value ∷ values
leaf_before (Inner place) values = values

-- the numbers of the leaves among the roots
abbrev pub leaf_values : List Ref → List ℕ
leaf_values [] = []
leaf_values (root ∷ roots) = leaf_before root (leaf_values roots)

-- the strictly rising list of the numbers of a list
pub record IsSetOf (values set : List ℕ) : Type 0 where
  pub rising : IsStrictlyIncreasing set
  pub same : HaveSameItems values set

-- the reference is the leaf with the number of the set of these numbers
abbrev pub IsSetLeaf : List (List ℕ) → List ℕ → Ref → Type 0
IsSetLeaf sets values made = (set : List ℕ) × IsSetOf values set × IsLeafOf sets set made

-- the set of these numbers has no number, and there is none left
abbrev pub IsSetMissing : List (List ℕ) → List ℕ → Type 0
IsSetMissing sets values = (length sets ≡ 4294967295) × ((set : List ℕ) × IsSetOf values set × IsMissing sets set)
