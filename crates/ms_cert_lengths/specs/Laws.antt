-- The shortest words of the file of a question are as long as what the report shows.
use Rattle.std.specs.Prelude.{◌≡◌, ℕ, List, Option}
use Rattle.std.specs.Option.{option_map}
use Rattle.ms_app_answer.specs.Answer.{IsAnswer}
use Rattle.ms_build_source.specs.Values.{IsMainFile}
use Rattle.ms_cert.specs.Proven.{IsProven}
use Rattle.ms_cert.specs.declared.cert.Proven.{Proven}
use Rattle.ms_dfa.specs.Files.{content_of_file}
use Rattle.ms_dfa.specs.declared.plain.FileVersion.{FileVersion}
use Rattle.ms_dfa.specs.declared.plain.Plain.{Plain}
use Rattle.ms_logic.specs.Verdict.{Problem}
use Rattle.ms_logic.specs.declared.assignment.Assignment.{Assignment}
use Rattle.ms_report.specs.declared.found.Answer.{Answer}

-- the length of the assignment that is shown, if one is
abbrev pub length_shown : Option Assignment → Option ℕ
length_shown shown = option_map (λ assignment. assignment.length) shown

-- The lengths that a certificate proves of the file of a question's main value, in each version, are those of the example and of the
-- counterexample that answer the question; no word has the sign exactly where no assignment is shown.
abbrev pub ShortestWordsAreAsLongAsShown : Type 0
ShortestWordsAreAsLongAsShown =
    (version : FileVersion) (problem : Problem) (names : List (List ℕ)) (plain : Plain) (answer : Answer) (proven : Proven)
    → IsMainFile version problem names plain → IsAnswer problem answer → IsProven (content_of_file plain) proven
    → (proven.plus ≡ length_shown answer.example) × (proven.minus ≡ length_shown answer.counterexample)
