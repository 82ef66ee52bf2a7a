-- The leaves of a diagram in the order of first sight.
use Rattle.std.specs.Prelude.{◌≡◌, ℕ, nat_eq, List, [], ◌∷◌, ◌++◌, length, true, fold, if◌then◌else◌}
use Rattle.std.specs.List.{list_any}
use Rattle.ms_arena.specs.declared.node.Ref.{Ref}
use Rattle.ms_arena.specs.declared.node.Ref.TheVariants.{Inner}
use Rattle.ms_arena.specs.declared.node.Node.{Node}
use Rattle.ms_arena.specs.Leaves.{leaves_within}

-- a list with one more item behind it, where it was not there yet
abbrev pub noted : List ℕ → ℕ → List ℕ
noted seen item = if list_any (nat_eq item) seen then seen else seen ++ item ∷ []

-- each leaf of the reference once, in the order in which its paths are followed, the low end of each node first
unfoldable pub leaves_of : List Node → Ref → List ℕ
leaves_of nodes root = fold noted [] (leaves_within nodes (length nodes) root)

-- each item is in the list
abbrev pub KnowsAll : List ℕ → List ℕ → Type 0
KnowsAll seen [] = Unit {0}
KnowsAll seen (item ∷ items) = (list_any (nat_eq item) seen ≡ true) × KnowsAll seen items

-- the leaves behind each of these places are in the list
abbrev pub KnowsPlaces : List Node → List ℕ → List ℕ → Type 0
KnowsPlaces nodes leaves [] = Unit {0}
KnowsPlaces nodes leaves (place ∷ places) = KnowsAll leaves (leaves_within nodes (length nodes) (Inner place)) × KnowsPlaces nodes leaves places
