-- What is proved of a generated source that is decided.
use Rattle.std.specs.Prelude.{◌≡◌, ℕ, Bool, List, [], None, Some}
use Rattle.ms_dfa.specs.declared.plain.FileVersion.{FileVersion}
use Rattle.ms_gen.specs.Generated.{IsNumber, generated}
use Rattle.ms_report.specs.declared.found.Answer.{Answer}
use Rattle.ms_report.specs.declared.found.Found.{Found}
use Rattle.ms_report.specs.declared.found.Verdict.TheVariants.{Valid}
use Rattle.ms_app.specs.Answer.{generated_name}
use Rattle.ms_app.specs.Decision.{IsDecided}
use Rattle.ms_app.specs.Source.{text_of}
use Rattle.ms_app.specs.Written.{File}

-- it is found valid, and no counterexample is shown
abbrev pub GeneratedSourcesAreFoundValid : Type 0
GeneratedSourcesAreFoundValid =
    (number : ℕ) (stats : Bool) (format : FileVersion) (found : Found) (files : List File) → IsNumber number → IsDecided (text_of generated_name (generated number)) [] None stats format found files →
    (main : Answer) × (found.main ≡ Some main) × (main.verdict ≡ Valid) × (main.counterexample ≡ None)
