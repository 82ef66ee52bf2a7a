use Rattle.std.proofs.Common.{refl}
use Rattle.ms_logic_words.specs.inner.ContentExamples.{full_subset_content, encodings_content}
use Rattle.ms_logic_measures.proofs.FullContents.{full_subset, full_true}
use Rattle.ms_logic_measures.proofs.SubsetStarts.{subset_references, subset_pairs, subset_twice}
use Rattle.ms_logic_measures.proofs.examples.budgets.worked_budgets.Goals as goal

pub returns-clause-full : goal.returns-clause-full
returns-clause-full c = full_subset

pub returns-clause-relation_measure : goal.returns-clause-relation_measure
returns-clause-relation_measure c = record { made = (full_subset_content, full_subset, refl); read = refl }

pub returns-clause-root_measure : goal.returns-clause-root_measure
returns-clause-root_measure c =
    record { content = full_subset_content; encodings = encodings_content; of_formula = full_subset; of_true = full_true; made = subset_pairs; read = refl }

pub returns-clause-connective_measure : goal.returns-clause-connective_measure
returns-clause-connective_measure c =
    (full_subset_content, full_subset_content, full_subset, full_subset, record { made = subset_twice; read = (4, 4, subset_references, subset_references, refl) })
