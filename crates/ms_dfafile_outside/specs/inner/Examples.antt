-- Contents for worked examples.
use Rattle.std.specs.Prelude.{[], ◌∷◌}
use Rattle.ms_arena.specs.declared.node.Ref.TheVariants.{Leaf, Inner}
use Rattle.ms_dfa.specs.declared.plain.FileSign.{FileSign}
use Rattle.ms_dfa.specs.declared.plain.FileSign.TheVariants.{Plus, Zero, Outside}
use Rattle.ms_logic.specs.declared.mode.Mode.TheVariants.{Ws1s}
use Rattle.ms_logic.specs.declared.mode.Order.TheVariants.{One, Two}
use Rattle.ms_logic_words.specs.Content.{Content, variables_by_place}

-- over one number: `+` once it has had its 1, and a sign before it and another behind its second 1
abbrev pub number_with : FileSign → FileSign → Content FileSign
number_with before behind = record {
  mode = Ws1s;
  variables = variables_by_place (One ∷ []);
  start = Leaf 0;
  states = record { sign = before; next = Inner 0 } ∷ record { sign = Plus; next = Inner 1 } ∷ record { sign = behind; next = Leaf 2 } ∷ [];
  nodes = record { var = 0; low = Leaf 0; high = Leaf 1 } ∷ record { var = 0; low = Leaf 1; high = Leaf 2 } ∷ [];
}

abbrev pub number : Content FileSign
number = number_with Outside Outside

-- the same, with `0` for words that have two 1s
abbrev pub number_undefined : Content FileSign
number_undefined = number_with Outside Zero

-- over one set, of which each word encodes a value: `+` on each
abbrev pub set : Content FileSign
set = record { mode = Ws1s; variables = variables_by_place (Two ∷ []); start = Leaf 0; states = record { sign = Plus; next = Leaf 0 } ∷ []; nodes = [] }
