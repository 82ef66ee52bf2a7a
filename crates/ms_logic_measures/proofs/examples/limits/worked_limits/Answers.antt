use Rattle.std.proofs.Common.{refl, inl, arith}
use Rattle.ms_logic_words.specs.inner.ContentExamples.{full_subset_content, encodings_content}
use Rattle.ms_logic_core.specs.Roots.{main_root}
use Rattle.ms_logic_core.specs.inner.SpreadExamples.{subset_source}
use Rattle.ms_logic_measures.specs.Steps.{root}
use Rattle.ms_logic_measures.proofs.FullContents.{full_subset, full_true}
use Rattle.ms_logic_measures.proofs.SubsetStarts.{subset_pairs}
use Rattle.ms_logic_measures.proofs.SubsetBudgets.{enough_for_subset}
use Rattle.ms_logic_measures.proofs.examples.limits.worked_limits.Goals as goal

pub returns-clause-too_little : goal.returns-clause-too_little
returns-clause-too_little c enough =
    let within =
    enough (root (main_root subset_source)) (inl (0, main_root subset_source, refl, (0, omega arith, refl))) 4 5
    (record { content = full_subset_content; encodings = encodings_content; of_formula = full_subset; of_true = full_true; made = subset_pairs; read = refl })
    in omega (arith, within)

pub returns-clause-enough : goal.returns-clause-enough
returns-clause-enough c = enough_for_subset
