-- Where nothing is wrong with a declaration, it gives typed trees.
use Rattle.std.proofs.Common.{◌≡◌, true, None}
use Rattle.ms_parse_grammar.specs.Tree.{Declaration, variables, constant, predicate, included, default_restriction, formula, goal}
use Rattle.ms_names_rules.specs.Declarations.{Known, faults_in, occurrences_in}
use Rattle.ms_names_rules.specs.Fault.{first_fault}
use Rattle.ms_names_rules.proofs.Orders.{AreRight, formula-here, ordered}
use Rattle.ms_names_rules.proofs.Makes.{default-all, predicate-all, restricted-all, right-there}
use Rattle.ms_names.specs.inner.Outcome.{made_in}
use Rattle.ms_names.specs.inner.Progress.{IsMade}

all-made : (k : Known) (d : Declaration) → AreRight (occurrences_in k d) → IsMade (made_in k.scope k.globals k.before d)
all-made k (variables vs) h = restricted-all true k.scope k.globals k.before vs h
all-made k (constant at n is) h = tt
all-made k (predicate is_pred at n vs e) h = predicate-all k.scope k.before vs e h
all-made k (included text_at file) h = tt
all-made k (default_restriction o n e) h = default-all k.scope k.before o n e h
all-made k (formula e) h = formula-here k.scope k.before e (ordered k.scope k.before e) h
all-made k (goal name_at title e) h = formula-here k.scope k.before e (ordered k.scope k.before e) h

pub made-there : (k : Known) (d : Declaration) → first_fault (faults_in k d) ≡ None → IsMade (made_in k.scope k.globals k.before d)
made-there k d e = all-made k d (right-there k d e)
