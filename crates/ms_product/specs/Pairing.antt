-- The product of two automata over some variables: its states are the pairs of states that are reached, and are numbered at
-- first sight.
use Rattle.std.specs.Prelude.{◌≡◌, ℕ, ◌<◌, ◌≤◌, ◌+◌, List, length, slice_get, Option, Some, None}
use Rattle.ms_arena.specs.declared.node.Ref.{Ref}
use Rattle.ms_arena.specs.declared.node.Node.{Node}
use Rattle.ms_arena.specs.Diagram.{Bits, IsOrdered, IsReduced}
use Rattle.ms_arena.specs.Target.{Target, Extends, IsNeeded}
use Rattle.ms_diagram.specs.declared.sides.Sides.{Sides}
use Rattle.ms_diagram.specs.Numbering.{IsNumbering}
use Rattle.ms_diagram.specs.Store.{Contents, IsStore}
use Rattle.ms_dfa.specs.declared.state.State.{State}
use Rattle.ms_logic_words.specs.declared.sign.Sign.{Sign}
use Rattle.ms_logic_words.specs.declared.sign.Sign.TheVariants.{Outside}
use Rattle.ms_logic.specs.Assignment.{Variable}
use Rattle.ms_logic_words.specs.Content.{Content}
use Rattle.ms_dfa_explore.specs.Explored.{Findings, Leads, Follows, Origin, IsFound, target_of}
use Rattle.ms_dfa_explore.specs.Tracks.{merged, places_among}
use Rattle.ms_product.specs.declared.op.Op.{Op}
use Rattle.ms_product.specs.Signs.{strict}
use Rattle.ms_product.specs.Widened.{first_through, next_through, sign_in, IsRisingMap}

-- two automata, each with the places of its variables among others
pub record Operands : Type 0 where
  pub left : Content Sign
  pub left_map : List ℕ
  pub right : Content Sign
  pub right_map : List ℕ

-- two automata over variables among which those of both are
abbrev pub operands_over : Content Sign → Content Sign → List Variable → Operands
operands_over left right wide = record {
  left = left;
  left_map = places_among left.variables wide;
  right = right;
  right_map = places_among right.variables wide;
}

-- two automata over the variables of both
abbrev pub operands_of : Content Sign → Content Sign → Operands
operands_of left right = operands_over left right (merged left.variables right.variables)

-- their diagrams, with each variable read at its place
abbrev pub sides_of : Operands → Sides
sides_of operands = record {
  left = record { nodes = operands.left.nodes; map = operands.left_map };
  right = record { nodes = operands.right.nodes; map = operands.right_map };
}

-- the places of both rise
pub record HaveRisingMaps (operands : Operands) : Type 0 where
  pub left : IsRisingMap (length operands.left.variables) operands.left_map
  pub right : IsRisingMap (length operands.right.variables) operands.right_map

-- the pair to which the bits lead from both starts
abbrev pub first_pair : Operands → Bits → ℕ × ℕ
first_pair operands bits = (first_through operands.left operands.left_map bits, first_through operands.right operands.right_map bits)

-- and from a pair of states
abbrev pub next_pair : Operands → ℕ × ℕ → Bits → ℕ × ℕ
next_pair operands pair bits = (next_through operands.left operands.left_map pair.0 bits, next_through operands.right operands.right_map pair.1 bits)

-- the sign of a pair
abbrev pub pair_sign : Op → Operands → ℕ × ℕ → Sign
pair_sign op operands pair = strict op (sign_in operands.left pair.0) (sign_in operands.right pair.1)

-- where the pair of a number leads: to the number of a pair
abbrev pub behind_pair : Operands → List (ℕ × ℕ) → Option (ℕ × ℕ) → Target
behind_pair operands pairs None = λ bits number. ⊥
behind_pair operands pairs (Some pair) = λ bits number. slice_get pairs number ≡ Some (next_pair operands pair bits)

-- the sign of a number
abbrev pub sign_of_number : Op → Operands → Option (ℕ × ℕ) → Sign
sign_of_number op operands None = Outside
sign_of_number op operands (Some pair) = pair_sign op operands pair

-- what is found of the product, so far as pairs have numbers
abbrev pub product_findings : Op → Operands → List (ℕ × ℕ) → Findings
product_findings op operands pairs = record {
  count = length pairs;
  starts = λ bits number. slice_get pairs number ≡ Some (first_pair operands bits);
  steps = λ number. behind_pair operands pairs (slice_get pairs number);
  sign_of = λ number. sign_of_number op operands (slice_get pairs number);
  most_nodes = 4000000000;
  LacksNumber = length pairs ≡ 4294967295;
}

-- each pair is one of a state of the left automaton and a state of the right one
abbrev pub AreStates : Operands → List (ℕ × ℕ) → Type 0
AreStates operands pairs =
    (number : ℕ) (pair : ℕ × ℕ) → slice_get pairs number ≡ Some pair → (pair.0 < length operands.left.states) × (pair.1 < length operands.right.states)

-- bits lead to the pair from both starts, or from a pair that is reached
pub data IsReachedPair (operands : Operands) : ℕ × ℕ → Type 0 where
  from_starts : {pair : ℕ × ℕ} (bits : Bits) → first_pair operands bits ≡ pair → IsReachedPair operands pair
  from_pair : {pair : ℕ × ℕ} (before : ℕ × ℕ) (bits : Bits) → IsReachedPair operands before → next_pair operands before bits ≡ pair → IsReachedPair operands pair

-- so is each of the pairs
abbrev pub AreReachedPairs : Operands → List (ℕ × ℕ) → Type 0
AreReachedPairs operands pairs = (number : ℕ) (pair : ℕ × ℕ) → slice_get pairs number ≡ Some pair → IsReachedPair operands pair

-- a product under way
pub record Pairing : Type 0 where
  pub op : Op
  pub operands : Operands
  pub pairs : List (ℕ × ℕ)

-- the same product with more pairs
pub record IsLaterPairing (early late : Pairing) : Type 0 where
  pub same : late ≡ record early { pairs = late.pairs }
  pub pairs : Extends early.pairs late.pairs
  pub count : length early.pairs ≤ length late.pairs

-- each diagram for some origin needs the node
abbrev pub IsNeededForSome : List Node → Findings → Node → Type 0
IsNeededForSome nodes findings node = (origin : Origin) × IsFound findings origin × IsNeeded nodes (target_of findings origin) node

-- the product has been built among the nodes of a store
pub record IsPairedIn (nodes : List Node) (op : Op) (operands : Operands) (pairs : List (ℕ × ℕ)) (start : Ref) (states : List State) : Type 0 where
  pub starts : Leads nodes (product_findings op operands pairs).starts start
  pub all : length states ≡ length pairs
  pub follows : Follows nodes (product_findings op operands pairs) states
  pub numbering : IsNumbering pairs
  pub are : AreStates operands pairs

-- and the store holds no node that it does not need
pub record IsPairedStore (held : Contents) (limit : ℕ) (op : Op) (operands : Operands) (pairs : List (ℕ × ℕ)) : Type 0 where
  pub store : IsStore held.nodes held.limit
  pub limited : held.limit ≡ limit
  pub needed : (place : ℕ) (node : Node) → slice_get held.nodes place ≡ Some node → IsNeededForSome held.nodes (product_findings op operands pairs) node

-- nodes that differ in their functions, each of which the product needs, so far as its pairs have numbers, and different pairs
-- of states: together they are at least so many
pub record AreAtLeast (count : ℕ) (op : Op) (operands : Operands) : Type 0 where
  pub nodes : List Node
  pub pairs : List (ℕ × ℕ)
  pub ordered : IsOrdered nodes
  pub reduced : IsReduced nodes
  pub needed : (place : ℕ) (node : Node) → slice_get nodes place ≡ Some node → IsNeededForSome nodes (product_findings op operands pairs) node
  pub numbering : IsNumbering pairs
  pub states : AreStates operands pairs
  pub many : count ≤ length nodes + length pairs

-- the same of pairs that are reached
pub record ReachedAreAtLeast (count : ℕ) (op : Op) (operands : Operands) : Type 0 where
  pub least : AreAtLeast count op operands
  pub reached : AreReachedPairs operands least.pairs
