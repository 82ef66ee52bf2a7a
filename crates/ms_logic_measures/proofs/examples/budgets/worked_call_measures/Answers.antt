use Rattle.std.proofs.Common.{refl}
use Rattle.ms_logic_measures.proofs.ProjectStarts.{subset_project}
use Rattle.ms_logic_measures.proofs.SubsetStarts.{subset_references, subset_twice, one_reference}
use Rattle.ms_logic_measures.proofs.examples.budgets.worked_call_measures.Goals as goal

pub returns-clause-four_parts : goal.returns-clause-four_parts
returns-clause-four_parts c = subset_references

pub returns-clause-one_part : goal.returns-clause-one_part
returns-clause-one_part c = one_reference

pub returns-clause-minimise : goal.returns-clause-minimise
returns-clause-minimise c = record { made = subset_references; read = refl }

pub returns-clause-combine : goal.returns-clause-combine
returns-clause-combine c = record { made = subset_twice; read = (4, 4, subset_references, subset_references, refl) }

pub returns-clause-rename : goal.returns-clause-rename
returns-clause-rename c = record { made = subset_references; read = subset_references }

pub returns-clause-project : goal.returns-clause-project
returns-clause-project c = subset_project
