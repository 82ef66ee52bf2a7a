-- Words and contents for worked examples.
use Rattle.std.specs.Prelude.{[], ◌∷◌, Bool, List, map}
use Rattle.ms_arena.specs.declared.node.Ref.TheVariants.{Leaf, Inner}
use Rattle.ms_logic_words.specs.declared.sign.Sign.{Sign}
use Rattle.ms_logic_words.specs.declared.sign.Sign.TheVariants as sign
use Rattle.ms_logic.specs.declared.mode.Mode.TheVariants.{Ws1s}
use Rattle.ms_logic.specs.declared.mode.Order.TheVariants.{Two, Zero}
use Rattle.ms_logic_words.specs.Content.{Content, variables_by_place}
use Rattle.ms_logic.specs.Truth.{Answer, answer_yes, answer_no}
use Rattle.ms_list.specs.declared.word.Word.{Word}
use Rattle.ms_logic.specs.Assignment.{Variable}
use Rattle.ms_logic.specs.inner.Examples.{variable}

abbrev pub word : List Bool → List (List Bool) → Word
word truth letters = record { truth = truth; letters = letters }

-- the canonical content of P sub Q over P and Q, with one sign for Yes and another for No
abbrev pub subset_content_with : {Sign : Type 0} → Sign → Sign → Content Sign
subset_content_with for_yes for_no = record {
  mode = Ws1s;
  variables = variables_by_place (Two ∷ Two ∷ []);
  start = Leaf 0;
  states = record { sign = for_yes; next = Inner 1 } ∷ record { sign = for_no; next = Leaf 1 } ∷ [];
  nodes = record { var = 1; low = Leaf 1; high = Leaf 0 } ∷ record { var = 0; low = Leaf 0; high = Inner 0 } ∷ [];
}

-- an automaton over one set that is Yes on the empty word and No on every other
abbrev pub open_content : Content Answer
open_content = record {
  mode = Ws1s;
  variables = variables_by_place (Two ∷ []);
  start = Leaf 0;
  states = record { sign = answer_yes; next = Leaf 1 } ∷ record { sign = answer_no; next = Leaf 1 } ∷ [];
  nodes = [];
}

-- the full content of P sub Q over P and Q: every word encodes an assignment
abbrev pub full_subset_content : Content Sign
full_subset_content = subset_content_with sign.Yes sign.No

-- the full content of `true` over P and Q
abbrev pub encodings_content : Content Sign
encodings_content = record {
  mode = Ws1s;
  variables = variables_by_place (Two ∷ Two ∷ []);
  start = Leaf 0;
  states = record { sign = sign.Yes; next = Leaf 0 } ∷ [];
  nodes = [];
}

abbrev pub subset_content : Content Answer
subset_content = subset_content_with answer_yes answer_no

-- the canonical content of A <=> 0 in P over A and P
abbrev pub member_content : Content Answer
member_content = record {
  mode = Ws1s;
  variables = variables_by_place (Zero ∷ Two ∷ []);
  start = Inner 0;
  states =
      record { sign = answer_yes; next = Inner 1 }
      ∷ record { sign = answer_no; next = Inner 2 }
      ∷ record { sign = answer_yes; next = Leaf 2 }
      ∷ record { sign = answer_no; next = Leaf 3 }
      ∷ [];
  nodes =
      record { var = 0; low = Leaf 0; high = Leaf 1 }
      ∷ record { var = 1; low = Leaf 2; high = Leaf 3 }
      ∷ record { var = 1; low = Leaf 3; high = Leaf 2 }
      ∷ [];
}

-- the set P, and then the truth value A
abbrev pub set_before_truth : List Variable
set_before_truth = variable 0 Two ∷ variable 1 Zero ∷ []

abbrev pub just_P : List Variable
just_P = variable 0 Two ∷ []

-- the word over one number or one set that has these bits for it
abbrev pub word_of_bits : List Bool → Word
word_of_bits bits = word [] (map (λ bit. bit ∷ []) bits)

-- over P: Yes on each word, with a second state that no word reaches
abbrev pub unreached_state : Content Answer
unreached_state = record {
  mode = Ws1s;
  variables = variables_by_place (Two ∷ []);
  start = Leaf 0;
  states = record { sign = answer_yes; next = Leaf 0 } ∷ record { sign = answer_no; next = Leaf 1 } ∷ [];
  nodes = [];
}

-- over P: Yes on each word, with a node both of whose ends are the one state
abbrev pub equal_ends : Content Answer
equal_ends = record {
  mode = Ws1s;
  variables = variables_by_place (Two ∷ []);
  start = Leaf 0;
  states = record { sign = answer_yes; next = Inner 0 } ∷ [];
  nodes = record { var = 0; low = Leaf 0; high = Leaf 0 } ∷ [];
}

-- over P: Yes on the empty word and where the last position is in P, with the same node once for each state
abbrev pub equal_nodes : Content Answer
equal_nodes = record {
  mode = Ws1s;
  variables = variables_by_place (Two ∷ []);
  start = Leaf 0;
  states = record { sign = answer_yes; next = Inner 0 } ∷ record { sign = answer_no; next = Inner 1 } ∷ [];
  nodes = record { var = 0; low = Leaf 1; high = Leaf 0 } ∷ record { var = 0; low = Leaf 1; high = Leaf 0 } ∷ [];
}

-- P sub Q over P and Q, with the two states in each other's place
abbrev pub swapped_states : Content Answer
swapped_states = record {
  mode = Ws1s;
  variables = variables_by_place (Two ∷ Two ∷ []);
  start = Leaf 1;
  states = record { sign = answer_no; next = Leaf 0 } ∷ record { sign = answer_yes; next = Inner 1 } ∷ [];
  nodes = record { var = 1; low = Leaf 0; high = Leaf 1 } ∷ record { var = 0; low = Leaf 1; high = Inner 0 } ∷ [];
}

-- over P: Yes on each word, with one state for an even and one for an odd number of letters
abbrev pub equal_signs : Content Answer
equal_signs = record {
  mode = Ws1s;
  variables = variables_by_place (Two ∷ []);
  start = Leaf 0;
  states = record { sign = answer_yes; next = Leaf 1 } ∷ record { sign = answer_yes; next = Leaf 0 } ∷ [];
  nodes = [];
}

-- over P: Yes where P has an even number of members, with the nodes of the two states in each other's place
abbrev pub swapped_nodes : Content Answer
swapped_nodes = record {
  mode = Ws1s;
  variables = variables_by_place (Two ∷ []);
  start = Leaf 0;
  states = record { sign = answer_yes; next = Inner 1 } ∷ record { sign = answer_no; next = Inner 0 } ∷ [];
  nodes = record { var = 0; low = Leaf 1; high = Leaf 0 } ∷ record { var = 0; low = Leaf 0; high = Leaf 1 } ∷ [];
}
