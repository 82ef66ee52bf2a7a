-- An automaton whose variables are renamed: each reads the value of the variable that a map has for it.
use Rattle.std.specs.Prelude.{◌≡◌, ℕ, ◌<◌, ◌≤◌, ◌+◌, List, [], ◌∷◌, length, slice_get, slice_index, Some}
use Rattle.ms_arena.specs.declared.node.Node.{Node}
use Rattle.ms_arena.specs.Diagram.{IsOrdered, IsReduced}
use Rattle.ms_logic_words.specs.declared.sign.Sign.{Sign}
use Rattle.ms_logic.specs.Assignment.{Env, Variable}
use Rattle.ms_logic_words.specs.Content.{Content}
use Rattle.ms_dfa.specs.Values.{Meaning}
use Rattle.ms_dfa_explore.specs.Explored.{Origin, IsFound, target_of}
use Rattle.ms_arena.specs.Target.{IsNeeded}
use Rattle.ms_dfa_explore.specs.Tracks.{distinct, place_of, places_among}
use Rattle.ms_product.specs.Pairing.{Operands}
use Rattle.ms_product.specs.Widened.{widened_findings}

-- the variables, each with the number that the map has for it
abbrev pub renamed : List ℕ → List Variable → List Variable
renamed [] vs = []
renamed (name ∷ names) [] = []
renamed (name ∷ names) (v ∷ vs) = record { name = name; order = v.order } ∷ renamed names vs

-- each number is below the next
abbrev pub Rises : List ℕ → Type 0
Rises names = (i : ℕ) → i + 1 < length names → slice_index names i < slice_index names (i + 1)

-- the values that e gives the variables of the map, each given to the variable at its place
abbrev pub read_by : List ℕ → List Variable → Env → Env
read_by names variables e = record {
  universe = e.universe;
  truth = λ x. e.truth (slice_index names (place_of x variables));
  number = λ x. e.number (slice_index names (place_of x variables));
  set = λ x. e.set (slice_index names (place_of x variables));
}

-- right is what is right at these values
abbrev pub renamed_meaning : List ℕ → List Variable → Meaning → Meaning
renamed_meaning names variables meaning e sign = meaning (read_by names variables e) sign

-- the same start, states and nodes
pub record HasPartsOf (content made : Content Sign) : Type 0 where
  pub start : made.start ≡ content.start
  pub states : made.states ≡ content.states
  pub nodes : made.nodes ≡ content.nodes

-- the places that the variables of an automaton have once they are renamed
abbrev pub renamed_places : List ℕ → List Variable → List ℕ
renamed_places names variables = places_among (renamed names variables) (distinct (renamed names variables))

-- nodes that differ in their functions, each of which the automaton needs once its variables are read at other places: with its
-- states they are together at least so many
pub record NeedsAtLeast (count : ℕ) (content : Content Sign) (places : List ℕ) : Type 0 where
  pub nodes : List Node
  pub ordered : IsOrdered nodes
  pub reduced : IsReduced nodes
  pub needed :
      (place : ℕ) (node : Node) → slice_get nodes place ≡ Some node
      → (origin : Origin) × IsFound (widened_findings content places) origin × IsNeeded nodes (target_of (widened_findings content places) origin) node
  pub many : count ≤ length nodes + length content.states

-- an automaton beside itself, with its variables read at other places
abbrev pub beside_itself : Content Sign → List ℕ → Operands
beside_itself content places = record { left = content; left_map = places; right = content; right_map = places }
