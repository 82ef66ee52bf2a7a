use Rattle.std.proofs.Common.{◌≡◌, ℕ, List, refl, sym, ◌∙◌}
use Rattle.ms_logic.specs.Assignment.{Variable}
use Rattle.ms_logic_words.specs.inner.ContentExamples.{full_subset_content}
use Rattle.ms_logic_measures.specs.CallMeasures.{LeaveSame, LeadsToReferences}
use Rattle.ms_logic.specs.inner.Examples.{set_P_and_Q}
use Rattle.ms_logic_measures.specs.Starts.{IsStartOver}
use Rattle.ms_logic_measures.proofs.SubsetStarts.{subset_references}
use Rattle.ms_logic_measures.specs.inner.MeasureExamples.{set_Q_and_P}
use Rattle.ms_logic_measures.proofs.OrderedStarts.{straight_references, other_references}
use Rattle.ms_logic_measures.proofs.Pigeonhole.{one_count}
use Rattle.ms_logic_measures.proofs.SameRuns.{file_pairs, turned_pairs}
use Rattle.ms_logic_measures.proofs.TurnedStarts.{turned_references}
use Rattle.ms_logic_measures.proofs.examples.calls.worked_renamings.Goals as goal

-- starts over a list of variables lead P sub Q to one number of references
one_number_of_references : (variables : List Variable) (n m : ℕ) → LeadsToReferences full_subset_content variables n → LeadsToReferences full_subset_content variables m → n ≡ m
one_number_of_references variables =
    one_count (LeaveSame full_subset_content variables) (IsStartOver variables) (λ one other same rest. sym (same rest)) (λ one two three same same_too rest. same rest ∙ same_too rest)

pub returns-clause-turned : goal.returns-clause-turned
returns-clause-turned c = record { made = turned_references; read = subset_references }

pub returns-clause-turned_alone : goal.returns-clause-turned_alone
returns-clause-turned_alone c m r measure =
    (one_number_of_references set_Q_and_P m 4 measure.made turned_references, one_number_of_references set_P_and_Q r 4 measure.read subset_references)

pub returns-clause-together : goal.returns-clause-together
returns-clause-together c = record { made = subset_references; read = subset_references }

pub returns-clause-kept : goal.returns-clause-kept
returns-clause-kept c = record { made = straight_references; read = straight_references }

pub returns-clause-kept_turned : goal.returns-clause-kept_turned
returns-clause-kept_turned c = record { made = other_references; read = straight_references }

pub returns-clause-adopt : goal.returns-clause-adopt
returns-clause-adopt c = record { made = file_pairs; read = refl }

pub returns-clause-adopt_turned : goal.returns-clause-adopt_turned
returns-clause-adopt_turned c = record { made = turned_pairs; read = refl }
