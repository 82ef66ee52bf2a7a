-- Contents for worked examples: a canonical one, and two that are numbered otherwise.
use Rattle.std.specs.Prelude.{[], ◌∷◌}
use Rattle.ms_arena.specs.declared.node.Ref.TheVariants.{Leaf, Inner}
use Rattle.ms_dfa.specs.declared.plain.FileSign.{FileSign}
use Rattle.ms_dfa.specs.declared.plain.FileSign.TheVariants.{Plus, Minus}
use Rattle.ms_logic.specs.declared.mode.Mode.TheVariants.{Ws1s}
use Rattle.ms_logic.specs.declared.mode.Order.TheVariants.{Zero, Two}
use Rattle.ms_logic_words.specs.Content.{Content, variables_by_place}
use Rattle.ms_logic_words.specs.inner.ContentExamples.{subset_content_with}

-- the canonical content of P sub Q over P and Q
abbrev pub subset : Content FileSign
subset = subset_content_with Plus Minus

-- the same, with the number 1 for the state that the walk sees first
abbrev pub swapped_states : Content FileSign
swapped_states = record {
  mode = Ws1s;
  variables = variables_by_place (Two ∷ Two ∷ []);
  start = Leaf 1;
  states = record { sign = Minus; next = Leaf 0 } ∷ record { sign = Plus; next = Inner 1 } ∷ [];
  nodes = record { var = 1; low = Leaf 0; high = Leaf 1 } ∷ record { var = 0; low = Leaf 1; high = Inner 0 } ∷ [];
}

-- A <=> 0 in P over A and P, with the number 2 for the node that the walk sees second
abbrev pub swapped_nodes : Content FileSign
swapped_nodes = record {
  mode = Ws1s;
  variables = variables_by_place (Zero ∷ Two ∷ []);
  start = Inner 0;
  states =
      record { sign = Plus; next = Inner 2 }
      ∷ record { sign = Minus; next = Inner 1 }
      ∷ record { sign = Plus; next = Leaf 2 }
      ∷ record { sign = Minus; next = Leaf 3 }
      ∷ [];
  nodes =
      record { var = 0; low = Leaf 0; high = Leaf 1 }
      ∷ record { var = 1; low = Leaf 3; high = Leaf 2 }
      ∷ record { var = 1; low = Leaf 2; high = Leaf 3 }
      ∷ [];
}
