-- A number and a set, contents over them, and a subset construction, for worked examples.
use Rattle.std.specs.Prelude.{ℕ, List, [], ◌∷◌}
use Rattle.ms_arena.specs.declared.node.Ref.TheVariants.{Leaf}
use Rattle.ms_logic.specs.declared.mode.Mode.TheVariants.{Ws1s}
use Rattle.ms_logic.specs.declared.mode.Order.TheVariants.{One, Two}
use Rattle.ms_logic_words.specs.declared.sign.Sign.{Sign}
use Rattle.ms_logic_words.specs.declared.sign.Sign.TheVariants.{Yes}
use Rattle.ms_logic.specs.Assignment.{Variable}
use Rattle.ms_logic_words.specs.Content.{Content}
use Rattle.ms_project.specs.Subsetting.{Subsetting}

abbrev pub only_set : List Variable
only_set = record { name = 7; order = Two } ∷ []

abbrev pub number_and_set : List Variable
number_and_set = record { name = 4; order = One } ∷ only_set

-- one state for all words
abbrev pub everywhere : Sign → Content Sign
everywhere sign = record {
  mode = Ws1s;
  variables = only_set;
  start = Leaf 0;
  states = record { sign = sign; next = Leaf 0 } ∷ [];
  nodes = [];
}

-- one state, to which all bits lead, and some sets
abbrev pub of_one_state : List (List ℕ) → Subsetting
of_one_state sets = record {
  body = everywhere Yes;
  inner = record { nodes = []; limit = 9; hits = 0 };
  start = Leaf 0;
  states = record { sign = Yes; next = Leaf 0 } ∷ [];
  bound = 0;
  back = 0 ∷ [];
  sets = sets;
}
