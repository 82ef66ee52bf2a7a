-- An automaton as a graph: how far its states and diagrams are from a sign.
use Rattle.std.specs.Prelude.{ℕ, ◌+◌, nat_lt, Bool, true, false, if◌then◌else◌, List, [], ◌∷◌, ◌++◌, length, map, slice_index_or}
use Rattle.ms_arena.specs.declared.node.Ref.{Ref}
use Rattle.ms_arena.specs.declared.node.Ref.TheVariants.{Leaf, Inner}
use Rattle.ms_arena.specs.declared.node.Node.{Node}
use Rattle.ms_logic_words.specs.Content.{StateOf, Content}
use Rattle.ms_logic_words.specs.declared.sign.Sign.{Sign}
use Rattle.ms_logic_words.specs.declared.sign.Sign.TheVariants.{Yes, No, Undefined, Outside}
use Rattle.ms_best.specs.declared.graph.Vertex.{Vertex}
use Rattle.ms_best.specs.declared.graph.Vertex.TheVariants.{Goal, Letter, Choice}
use Rattle.ms_best.specs.inner.Graph.{AreDistances}

-- whether two signs are one
abbrev pub is_sign : Sign → Sign → Bool
is_sign Yes Yes = true
is_sign No No = true
is_sign Undefined Undefined = true
is_sign Outside Outside = true
is_sign one other = false

-- the place of a reference in the graph: first come the states, then the nodes, and last a place for what is no state
abbrev pub place_of : ℕ → ℕ → Ref → ℕ
place_of states nodes (Leaf value) = if nat_lt value states then value else states + nodes
place_of states nodes (Inner place) = states + place

-- a state of the sign is a goal, and from each other state a letter leads on
abbrev pub vertex_of_state : ℕ → ℕ → Sign → StateOf Sign → Vertex
vertex_of_state states nodes sign state = if is_sign state.sign sign then Goal else Letter (place_of states nodes state.next)

-- a node chooses by a bit of the letter
abbrev pub vertex_of_node : ℕ → ℕ → Node → Vertex
vertex_of_node states nodes node = Choice (place_of states nodes node.low) (place_of states nodes node.high)

-- the graph: what is no state leads to itself alone
abbrev pub graph_of : Content Sign → Sign → List Vertex
graph_of content sign =
    map (vertex_of_state (length content.states) (length content.nodes) sign) content.states
    ++ map (vertex_of_node (length content.states) (length content.nodes)) content.nodes
    ++ Letter (length content.states + length content.nodes) ∷ []

-- how far a reference is from the sign, by the distances of the graph; no sign is as far as there are states
abbrev pub distance_of : Content Sign → List ℕ → Ref → ℕ
distance_of content distances reference =
    slice_index_or distances (place_of (length content.states) (length content.nodes) reference) (length content.states)

-- the distances of an automaton from a sign
abbrev pub AreDistancesFrom : Content Sign → Sign → List ℕ → Type 0
AreDistancesFrom content sign distances = AreDistances (graph_of content sign) (length content.states) distances
