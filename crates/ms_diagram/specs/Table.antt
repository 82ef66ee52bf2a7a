-- A table of what calls have built so far, as its list of entries, and which entries are right.
pub use Rattle.ms_cache.specs.Memo.{EachEntry}
use Rattle.std.specs.Prelude.{ℕ, List}
use Rattle.ms_arena.specs.declared.node.Ref.{Ref}
use Rattle.ms_arena.specs.declared.node.Node.{Node}
use Rattle.ms_diagram.specs.declared.sides.Sides.{Sides}
use Rattle.ms_diagram.specs.Across.{IsPairedAcross}
use Rattle.ms_diagram.specs.Apply.{IsPaired}
use Rattle.ms_diagram.specs.Bring.{IsBrought}
use Rattle.ms_diagram.specs.Collect.{IsCollected}
use Rattle.ms_diagram.specs.Projecting.{Projecting}
use Rattle.ms_diagram.specs.Relabel.{IsRelabelled}

-- each pair of references has become the reference of the numbers of its leaves' pairs
abbrev pub ArePaired : List Node → List (ℕ × ℕ) → List ((Ref × Ref) × Ref) → Type 0
ArePaired nodes pairs = EachEntry (IsPaired nodes pairs)

-- the same for references of other stores
abbrev pub ArePairedAcross : Sides → List (ℕ × ℕ) → List Node → List ((Ref × Ref) × Ref) → Type 0
ArePairedAcross sides pairs nodes = EachEntry (IsPairedAcross sides pairs nodes)

-- each list of references of the other store has become the reference of the numbers of its sets of leaves
abbrev pub AreCollected : Projecting → List (List ℕ) → List Node → List (List Ref × Ref) → Type 0
AreCollected view sets nodes = EachEntry (IsCollected view sets nodes)

-- each place of the other store has become its renamed function
abbrev pub AreBrought : List Node → List ℕ → List Node → List (ℕ × Ref) → Type 0
AreBrought origin map nodes = EachEntry (IsBrought origin map nodes)

-- each place has become its function with the leaves read in the map
abbrev pub AreRelabelled : List Node → List ℕ → List (ℕ × Ref) → Type 0
AreRelabelled nodes map = EachEntry (IsRelabelled nodes map)
