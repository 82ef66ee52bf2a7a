-- What is shown is a head and then lines.
use Rattle.std.proofs.Common.{◌≡◌, ℕ, List, ◌++◌, Some, refl, ap}
use Rattle.ms_logic.specs.declared.assignment.Assignment.{Assignment}
use Rattle.ms_report.specs.declared.shown_text.Spelling.{Spelling}
use Rattle.ms_report.specs.declared.shown_text.Spelling.TheVariants.{AsValue, AsNumber}
use Rattle.ms_report.specs.Numbers.{members_of, number_of_set, number_text}
use Rattle.ms_report.specs.Report.{lines_text}
use Rattle.ms_report.specs.inner.Shown.{head_text, measure_of, shown_text, spelled}
use Rattle.ms_report.proofs.LineTexts.{lines_text-map}

pub head-and-lines : (spelling : Spelling) (word : List ℕ) (names : List (List ℕ)) (found : Assignment)
    → head_text word (measure_of spelling) (Some found) ++ lines_text (spelled spelling) names found.values ≡ shown_text spelling word names (Some found)
head-and-lines AsValue word names found = refl
head-and-lines AsNumber word names found =
    ap (λ lines. head_text word (measure_of AsNumber) (Some found) ++ lines) (lines_text-map number_text (λ value. number_of_set (members_of value)) names found.values)
