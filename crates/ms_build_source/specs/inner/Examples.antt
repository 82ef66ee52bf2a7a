-- Files, an import and a source for worked examples of what gives a value.
use Rattle.std.specs.Prelude.{ℕ, List, [], ◌∷◌, codes, Some, None}
use Rattle.ms_arena.specs.declared.node.Ref.TheVariants.{Leaf, Inner}
use Rattle.ms_dfa.specs.declared.plain.FileSign.{FileSign}
use Rattle.ms_dfa.specs.declared.plain.FileSign.TheVariants.{Plus, Minus}
use Rattle.ms_dfa.specs.declared.plain.FileVersion.TheVariants as versions
use Rattle.ms_dfa.specs.declared.plain.Plain.{Plain}
use Rattle.ms_list.specs.declared.at.At.{At}
use Rattle.ms_logic.specs.declared.checked.Checked.{Checked}
use Rattle.ms_logic.specs.declared.checked.Global.{Global}
use Rattle.ms_logic.specs.declared.checked.ImportUse.{ImportUse}
use Rattle.ms_logic.specs.declared.checked.MapPair.{MapPair}
use Rattle.ms_logic.specs.declared.formula.Formula.{Formula}
use Rattle.ms_logic.specs.declared.formula.Formula.TheVariants.{True}
use Rattle.ms_logic.specs.declared.mode.Mode.TheVariants.{Ws1s}
use Rattle.ms_logic.specs.declared.mode.Order.TheVariants.{Two}
use Rattle.ms_logic.specs.inner.Examples.{stated}
use Rattle.ms_logic_words.specs.declared.sign.Sign.{Sign}
use Rattle.ms_logic_words.specs.Content.{Content}
use Rattle.ms_logic_words.specs.inner.ContentExamples.{encodings_content}
use Rattle.ms_build_source.specs.declared.solution.Solution.{Solution}

abbrev pub P_and_Q : List (List ℕ)
P_and_Q = codes "P" ∷ codes "Q" ∷ []

-- a file over P and Q with two signs: the first at the words where no letter has the bit 1 for P and 0 for Q, and the second at the others
abbrev pub subset_file_with : FileSign → FileSign → Plain
subset_file_with inside beyond = record {
  version = versions.One;
  mode = Ws1s;
  variables = record { order = Two; name = codes "P" } ∷ record { order = Two; name = codes "Q" } ∷ [];
  start = Leaf 0;
  states = record { sign = inside; next = Inner 1 } ∷ record { sign = beyond; next = Leaf 1 } ∷ [];
  nodes = record { var = 1; low = Leaf 1; high = Leaf 0 } ∷ record { var = 0; low = Leaf 0; high = Inner 0 } ∷ [];
}

-- the file of P sub Q
abbrev pub subset_file : Plain
subset_file = subset_file_with Plus Minus

-- the same in version 2
abbrev pub second_subset_file : Plain
second_subset_file = record subset_file { version = versions.Two }

abbrev pub nowhere : At
nowhere = record { file = 0; place = 0 }

abbrev pub set_pair : ℕ → List ℕ → MapPair
set_pair x name = record { name = name; variable = x; order = Two }

-- import("s.aut", P -> P, Q -> Q)
abbrev pub import_of_sets : ImportUse
import_of_sets = record { at = nowhere; name = codes "s.aut"; pairs = set_pair 0 (codes "P") ∷ set_pair 1 (codes "Q") ∷ [] }

abbrev pub set_global : List ℕ → Global
set_global name = record { at = nowhere; item = 0; order = Two; name = name; domain = None }

-- var2 P, Q;
abbrev pub sets_checked : Checked
sets_checked = record {
  mode = Ws1s;
  globals = set_global (codes "P") ∷ set_global (codes "Q") ∷ [];
  predicates = [];
  imports = [];
  exports = [];
  formulas = [];
  files = codes "t.mona" ∷ [];
}

-- var2 P, Q; true; goal "always" f;
abbrev pub sets_with_goal : Formula → Checked
sets_with_goal f = record sets_checked { formulas = stated None True ∷ stated (Some (codes "always")) f ∷ [] }

-- what may be made of it: an automaton of `true` over P and Q, and those of goals
abbrev pub sets_solution : List (Content Sign) → Solution
sets_solution goals = record { automaton = encodings_content; goals = goals; names = P_and_Q; size = 5; depth = 2; exports = [] }
