-- Contents over one set for worked examples, and nodes, origins and images for them.
use Rattle.std.specs.Prelude.{◌≡◌, ℕ, List, [], ◌∷◌}
use Rattle.ms_arena.specs.declared.node.Ref.{Ref}
use Rattle.ms_arena.specs.declared.node.Ref.TheVariants.{Leaf, Inner}
use Rattle.ms_arena.specs.declared.node.Node.{Node}
use Rattle.ms_logic.specs.declared.mode.Mode.TheVariants.{M2lStr}
use Rattle.ms_logic.specs.declared.mode.Order.TheVariants.{Two}
use Rattle.ms_logic_words.specs.declared.sign.Sign.{Sign}
use Rattle.ms_logic_words.specs.declared.sign.Sign.TheVariants.{Yes, No}
use Rattle.ms_logic.specs.Assignment.{Variable}
use Rattle.ms_logic_words.specs.Content.{Content}
use Rattle.ms_minim.specs.declared.images.Images.{Images}
use Rattle.ms_minim.specs.declared.origins.Origins.{Origins}

abbrev pub one_set : List Variable
one_set = record { name = 0; order = Two } ∷ []

-- whether the set has a member: Yes from the first one on, in two states that lead to each other
abbrev pub three_states : Content Sign
three_states = record {
  mode = M2lStr;
  variables = one_set;
  start = Leaf 0;
  states = record { sign = No; next = Inner 0 } ∷ record { sign = Yes; next = Leaf 2 } ∷ record { sign = Yes; next = Leaf 1 } ∷ [];
  nodes = record { var = 0; low = Leaf 0; high = Leaf 1 } ∷ [];
}

-- Yes for each word
abbrev pub one_state : Content Sign
one_state = record {
  mode = M2lStr;
  variables = one_set;
  start = Leaf 0;
  states = record { sign = Yes; next = Leaf 0 } ∷ [];
  nodes = [];
}

-- the same with a state that no word leads to
abbrev pub with_unreached : Content Sign
with_unreached = record {
  mode = M2lStr;
  variables = one_set;
  start = Leaf 0;
  states = record { sign = Yes; next = Leaf 0 } ∷ record { sign = No; next = Leaf 1 } ∷ [];
  nodes = [];
}

-- one node that tests a variable, with leaves at its ends
abbrev pub one_node : ℕ → ℕ → ℕ → List Node
one_node var low high = record { var = var; low = Leaf low; high = Leaf high } ∷ []

-- a node, and another that leads to it
abbrev pub two_nodes : List Node
two_nodes = record { var = 1; low = Leaf 0; high = Leaf 1 } ∷ record { var = 0; low = Inner 0; high = Leaf 2 } ∷ []

-- these are the origins of the nodes, and these those of the states
abbrev pub AreNoted : Origins → List ℕ → List ℕ → Type 0
AreNoted origins nodes states = (origins.nodes.items ≡ nodes) × (origins.states.items ≡ states)

-- the image of one node, in a store for one node
abbrev pub one_image : List Node → Ref → Images
one_image nodes image = record { store = record { nodes = nodes; limit = 1; hits = 0 }; list = image ∷ [] }
