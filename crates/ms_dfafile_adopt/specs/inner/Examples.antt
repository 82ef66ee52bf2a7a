-- Files and pairs for worked examples.
use Rattle.std.specs.Prelude.{ℕ, List, [], ◌∷◌, None, codes, false}
use Rattle.ms_list.specs.declared.word.Word.{Word}
use Rattle.ms_arena.specs.declared.node.Ref.TheVariants.{Leaf, Inner}
use Rattle.ms_logic.specs.declared.checked.MapPair.{MapPair}
use Rattle.ms_logic.specs.declared.mode.Mode.TheVariants.{M2lStr, Ws1s}
use Rattle.ms_logic.specs.declared.mode.Order.TheVariants.{One, Two}
use Rattle.ms_logic.specs.Assignment.{Env}
use Rattle.ms_logic_words.specs.Content.{Content}
use Rattle.ms_logic_words.specs.declared.sign.Sign.{Sign}
use Rattle.ms_logic_words.specs.declared.sign.Sign.TheVariants.{Yes}
use Rattle.ms_dfa.specs.declared.plain.FileSign.TheVariants as signs
use Rattle.ms_dfa.specs.declared.plain.FileVersion.TheVariants as versions
use Rattle.ms_dfa.specs.declared.plain.Plain.{Plain}

abbrev pub set_pair : List ℕ → MapPair
set_pair name = record { name = name; variable = 0; order = Two }

abbrev pub number_pair : List ℕ → MapPair
number_pair name = record { name = name; variable = 0; order = One }

-- P sub Q
abbrev pub subset : Plain
subset = record {
  version = versions.One;
  mode = Ws1s;
  variables = record { order = Two; name = codes "P" } ∷ record { order = Two; name = codes "Q" } ∷ [];
  start = Leaf 0;
  states = record { sign = signs.Plus; next = Inner 1 } ∷ record { sign = signs.Minus; next = Leaf 1 } ∷ [];
  nodes = record { var = 1; low = Leaf 1; high = Leaf 0 } ∷ record { var = 0; low = Leaf 0; high = Inner 0 } ∷ [];
}

-- yes at the empty word alone
abbrev pub open_file : Plain
open_file = record {
  version = versions.One;
  mode = Ws1s;
  variables = record { order = Two; name = codes "P" } ∷ [];
  start = Leaf 0;
  states = record { sign = signs.Plus; next = Leaf 1 } ∷ record { sign = signs.Minus; next = Leaf 1 } ∷ [];
  nodes = [];
}

-- x = 0, with a sign of its own where the column of x has not just one 1
abbrev pub zero_file : Plain
zero_file = record {
  version = versions.Two;
  mode = Ws1s;
  variables = record { order = One; name = codes "x" } ∷ [];
  start = Leaf 0;
  states =
      record { sign = signs.Outside; next = Inner 0 } ∷ record { sign = signs.Plus; next = Inner 1 } ∷ record { sign = signs.Outside; next = Inner 2 }
      ∷ record { sign = signs.Minus; next = Inner 3 } ∷ record { sign = signs.Outside; next = Leaf 4 } ∷ [];
  nodes =
      record { var = 0; low = Leaf 2; high = Leaf 1 } ∷ record { var = 0; low = Leaf 1; high = Leaf 4 } ∷ record { var = 0; low = Leaf 2; high = Leaf 3 }
      ∷ record { var = 0; low = Leaf 3; high = Leaf 4 } ∷ [];
}

abbrev pub empty_word : Word
empty_word = record { truth = []; letters = [] }

-- each variable is the empty set
abbrev pub nothing_in : Env
nothing_in = record { universe = None; truth = λ x. false; number = λ x. 0; set = λ x. [] }

-- which words encode values of no variable: each one
abbrev pub no_numbers : Content Sign
no_numbers = record { mode = M2lStr; variables = []; start = Leaf 0; states = record { sign = Yes; next = Leaf 0 } ∷ []; nodes = [] }
