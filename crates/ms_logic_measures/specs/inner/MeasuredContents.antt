-- Contents for the worked examples.
use Rattle.std.specs.Prelude.{false, List, [], ◌∷◌, slice_get, unwrap_or}
use Rattle.ms_arena.specs.declared.node.Ref.TheVariants.{Leaf, Inner}
use Rattle.ms_logic_words.specs.declared.sign.Sign.{Sign}
use Rattle.ms_logic_words.specs.declared.sign.Sign.TheVariants as sign
use Rattle.ms_logic.specs.declared.assignment.Value.{Value}
use Rattle.ms_logic.specs.declared.assignment.Value.TheVariants.{Truth}
use Rattle.ms_logic.specs.declared.mode.Mode.{Mode}
use Rattle.ms_logic.specs.declared.mode.Mode.TheVariants.{Ws1s, M2lStr}
use Rattle.ms_logic_words.specs.Content.{Content, answer_of}
use Rattle.ms_logic.specs.inner.Examples.{just_x, set_P_and_Q}
use Rattle.ms_logic_words.specs.inner.ContentExamples.{subset_content}
use Rattle.ms_logic.specs.Truth.{Answer, Import}
use Rattle.ms_logic_measures.specs.inner.MeasureExamples.{set_Q_and_P, truth_B_and_A, truth_A}

-- P sub Q over Q and P, which go by the numbers 1 and 0
abbrev pub turned_subset : Content Answer
turned_subset = record subset_content { variables = set_Q_and_P }

-- the values at the places 1 and 0, where a lacking one counts as false
abbrev pub turned : List Value → List Value
turned values = unwrap_or (slice_get values 1) (Truth false) ∷ unwrap_or (slice_get values 0) (Truth false) ∷ []

-- import("subset.dfa", Q -> P, P -> Q), where the file says P sub Q over P and Q: the first pair names the second variable of the file
abbrev pub turned_import : Import
turned_import = record {
  variables = set_P_and_Q;
  answer = λ universe values. answer_of (λ said. said) subset_content universe (turned values);
}

-- B => A over the truth values B and A
abbrev pub implies_content : Content Sign
implies_content = record {
  mode = Ws1s;
  variables = truth_B_and_A;
  start = Inner 1;
  states = record { sign = sign.Yes; next = Leaf 0 } ∷ record { sign = sign.No; next = Leaf 1 } ∷ [];
  nodes = record { var = 1; low = Leaf 1; high = Leaf 0 } ∷ record { var = 0; low = Leaf 0; high = Inner 0 } ∷ [];
}

-- A over the truth value A
abbrev pub truth_content : Content Sign
truth_content = record {
  mode = Ws1s;
  variables = truth_A;
  start = Inner 0;
  states = record { sign = sign.No; next = Leaf 0 } ∷ record { sign = sign.Yes; next = Leaf 1 } ∷ [];
  nodes = record { var = 0; low = Leaf 0; high = Leaf 1 } ∷ [];
}

-- restrict(B) & A over the truth values B and A
abbrev pub restricted_truth_content : Content Sign
restricted_truth_content = record {
  mode = Ws1s;
  variables = truth_B_and_A;
  start = Inner 1;
  states =
      record { sign = sign.Undefined; next = Leaf 0 }
      ∷ record { sign = sign.No; next = Leaf 1 }
      ∷ record { sign = sign.Yes; next = Leaf 2 }
      ∷ [];
  nodes = record { var = 1; low = Leaf 1; high = Leaf 2 } ∷ record { var = 0; low = Leaf 0; high = Inner 0 } ∷ [];
}

-- over x: Outside as long as x has no position, and once it has two; Yes where its position is 0, and another sign elsewhere
abbrev pub zero_content : Mode → Sign → Content Sign
zero_content mode elsewhere = record {
  mode = mode;
  variables = just_x;
  start = Leaf 0;
  states =
      record { sign = sign.Outside; next = Inner 0 }
      ∷ record { sign = sign.Outside; next = Inner 1 }
      ∷ record { sign = sign.Yes; next = Inner 2 }
      ∷ record { sign = elsewhere; next = Inner 3 }
      ∷ record { sign = sign.Outside; next = Leaf 4 }
      ∷ [];
  nodes =
      record { var = 0; low = Leaf 1; high = Leaf 2 }
      ∷ record { var = 0; low = Leaf 1; high = Leaf 3 }
      ∷ record { var = 0; low = Leaf 2; high = Leaf 4 }
      ∷ record { var = 0; low = Leaf 3; high = Leaf 4 }
      ∷ [];
}

-- over no variables: No on the empty word, and Yes on every other
abbrev pub position_content : Content Sign
position_content = record {
  mode = M2lStr;
  variables = [];
  start = Leaf 0;
  states = record { sign = sign.No; next = Leaf 1 } ∷ record { sign = sign.Yes; next = Leaf 1 } ∷ [];
  nodes = [];
}

-- over no variables: Yes on each word
abbrev pub number_content : Content Sign
number_content = record {
  mode = Ws1s;
  variables = [];
  start = Leaf 0;
  states = record { sign = sign.Yes; next = Leaf 0 } ∷ [];
  nodes = [];
}
