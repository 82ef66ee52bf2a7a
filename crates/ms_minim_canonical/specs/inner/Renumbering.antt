-- A content with its states and nodes in another order, in which a walk first sees them.
use Rattle.std.specs.Prelude.{◌≡◌, ℕ, ◌<◌, List, [], ◌∷◌, ◌++◌, length, fold, slice_get, Option, Some, None}
use Rattle.std.specs.List.{flat_map}
use Rattle.ms_arena.specs.declared.node.Node.{Node}
use Rattle.ms_arena.specs.declared.node.Ref.{Ref}
use Rattle.ms_arena.specs.declared.node.Ref.TheVariants.{Leaf, Inner}
use Rattle.ms_arena.specs.Diagram.{Bits, leaf_of, IsValid}
use Rattle.ms_arena.specs.Leaves.{leaves_within}
use Rattle.ms_diagram.specs.Leaves.{noted, KnowsAll}
use Rattle.ms_dfa.specs.declared.plain.FileState.{FileState}
use Rattle.ms_dfa.specs.declared.plain.FileVersion.{FileVersion}
use Rattle.ms_dfa.specs.declared.state.State.{State}
use Rattle.ms_logic_words.specs.Canonical.{nodes_within}
use Rattle.ms_dfa.specs.Files.{file_sign}

-- two lists of one length whose items are related place by place
abbrev pub ArePaired : {X Y : Type 0} → (X → Y → Type 0) → List X → List Y → Type 0
ArePaired R [] [] = Unit {0}
ArePaired R [] (y ∷ ys) = ⊥
ArePaired R (x ∷ xs) [] = ⊥
ArePaired R (x ∷ xs) (y ∷ ys) = R x y × ArePaired R xs ys

-- the numbers that each of some numbers has behind it are in a list
abbrev pub KnowsBehind : (ℕ → List ℕ) → List ℕ → List ℕ → Type 0
KnowsBehind behind seen [] = Unit {0}
KnowsBehind behind seen (n ∷ ns) = KnowsAll seen (behind n) × KnowsBehind behind seen ns

-- the leaves, and the nodes, that a walk sees from a reference
abbrev pub leaves_from : List Node → Ref → List ℕ
leaves_from nodes root = leaves_within nodes (length nodes) root

abbrev pub nodes_from : List Node → Ref → List ℕ
nodes_from nodes root = nodes_within (length nodes) nodes root

-- what is behind each of the nodes that were seen was seen
pub record KnowsWalks (nodes : List Node) (states places : List ℕ) : Type 0 where
  pub leaves : KnowsBehind (λ place. leaves_from nodes (Inner place)) states places
  pub own : KnowsBehind (λ place. nodes_from nodes (Inner place)) places places

-- what a walk sees from the reference of a state, and nothing where there is no state
abbrev pub from_state : (Ref → List ℕ) → Option State → List ℕ
from_state walk None = []
from_state walk (Some state) = walk state.next

-- what it sees from the start and then from the states in an order
abbrev pub walk_over : (Ref → List ℕ) → Ref → List State → List ℕ → List ℕ
walk_over walk start states order = walk start ++ flat_map (λ n. from_state walk (slice_get states n)) order

-- a reference of the store leads to so many states
pub record LeadsBelow (nodes : List Node) (count : ℕ) (root : Ref) : Type 0 where
  pub valid : IsValid nodes root
  pub below : (bits : Bits) → leaf_of nodes root bits < count

-- where a number was seen, this is its place
abbrev pub IsPlaceOf : List ℕ → ℕ → ℕ → Type 0
IsPlaceOf seen number place = (at : ℕ) → slice_get seen at ≡ Some number → slice_get seen place ≡ Some number

-- a reference with its state or its node under its new number
abbrev pub IsRenamed : List ℕ → List ℕ → Ref → Ref → Type 0
IsRenamed states places (Leaf state) made = (place : ℕ) × (made ≡ Leaf place) × IsPlaceOf states state place
IsRenamed states places (Inner node) made = (place : ℕ) × (made ≡ Inner place) × IsPlaceOf places node place

-- a node with its ends renamed
pub record IsRenamedNode (states places : List ℕ) (node made : Node) : Type 0 where
  pub var : made.var ≡ node.var
  pub low : IsRenamed states places node.low made.low
  pub high : IsRenamed states places node.high made.high

-- that of a place, and the state of a number with the sign of a file of a version and its reference renamed
abbrev pub IsNodeOf : List Node → List ℕ → List ℕ → ℕ → Node → Type 0
IsNodeOf nodes states places place made = (node : Node) × (slice_get nodes place ≡ Some node) × IsRenamedNode states places node made

abbrev pub IsStateOf : FileVersion → List State → List ℕ → List ℕ → ℕ → FileState → Type 0
IsStateOf version old states places number made =
    (state : State) × (slice_get old number ≡ Some state) × (made.sign ≡ file_sign version state.sign) × IsRenamed states places state.next made.next

-- a start, states and nodes that are those of others, as a walk first sees them
pub record IsRenumbered (version : FileVersion) (nodes : List Node) (start : Ref) (states : List State) (made_start : Ref) (made_states : List FileState) (made_nodes : List Node) : Type 0 where
  pub order : List ℕ
  pub places : List ℕ
  pub order_is : order ≡ fold noted [] (walk_over (leaves_from nodes) start states order)
  pub places_is : places ≡ fold noted [] (walk_over (nodes_from nodes) start states order)
  pub start_is : IsRenamed order places start made_start
  pub states_are : ArePaired (IsStateOf version states order places) order made_states
  pub nodes_are : ArePaired (IsNodeOf nodes order places) places made_nodes
