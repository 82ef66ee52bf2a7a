-- The strings that have a position: an automaton over no variables.
use Rattle.std.specs.Prelude.{[], ◌∷◌}
use Rattle.ms_arena.specs.declared.node.Ref.TheVariants.{Leaf}
use Rattle.ms_logic.specs.declared.mode.Mode.TheVariants.{M2lStr}
use Rattle.ms_logic_words.specs.Content.{Content}
use Rattle.ms_logic_words.specs.declared.sign.Sign.{Sign}
use Rattle.ms_logic_words.specs.declared.sign.Sign.TheVariants.{Yes, No}

-- from the first state, at the empty string, each letter leads to the second, which stays
abbrev pub lengths_content : Content Sign
lengths_content = record {
  mode = M2lStr;
  variables = [];
  start = Leaf 0;
  states = record { sign = No; next = Leaf 1 } ∷ record { sign = Yes; next = Leaf 1 } ∷ [];
  nodes = [];
}
