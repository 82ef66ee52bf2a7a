-- The files that a decision writes, and what is held once they are written.
use Rattle.std.specs.Prelude.{◌≡◌, ℕ, ◌+◌, ◌<◌, List, [], ◌∷◌, Contains, length, map, take, Option, Some, None}
use Rattle.ms_dfa.specs.declared.plain.FileVersion.{FileVersion}
use Rattle.ms_dfa.specs.declared.plain.Plain.{Plain}
use Rattle.ms_dfafile.specs.File.{IsSpelled}
use Rattle.ms_edge.specs.Files.{Holding, Holds}
use Rattle.ms_logic.specs.declared.checked.Checked.{Checked}
use Rattle.ms_logic.specs.declared.checked.ExportUse.{ExportUse}
use Rattle.ms_logic.specs.Verdict.{Problem}
use Rattle.ms_logic.specs.View.{Answers, main_question, problem_of}
use Rattle.ms_logic.specs.Lists.{Each}
use Rattle.ms_build_source.specs.Values.{IsExportFile, IsMainFile}

-- a file to be written: its name and its bytes
abbrev pub File : Type 0
File = List ℕ × List ℕ

-- the automaton file, of a version, of the formula that is exported under a number
abbrev pub IsFileOfExport : FileVersion → Problem → ℕ → ExportUse → File → Type 0
IsFileOfExport version problem i used file = (file.0 ≡ used.name) × ((plain : Plain) × IsSpelled file.1 plain × IsExportFile version problem i used plain)

-- the automaton file of the main value over the globals, which have these names, if one is asked for
abbrev pub AreFilesOfMain : FileVersion → Problem → List (List ℕ) → Option (List ℕ) → List File → Type 0
AreFilesOfMain version problem names None files = files ≡ []
AreFilesOfMain version problem names (Some out) files =
    (bytes : List ℕ) × (files ≡ (out, bytes) ∷ []) × ((plain : Plain) × IsSpelled bytes plain × IsMainFile version problem names plain)

-- the files of the exports of a problem, in the order of the source, numbered on from a first number, and then that of the main question's value
abbrev pub AreFilesFrom : FileVersion → Problem → Problem → List (List ℕ) → ℕ → List ExportUse → Option (List ℕ) → List File → Type 0
AreFilesFrom version problem main names i [] out files = AreFilesOfMain version main names out files
AreFilesFrom version problem main names i (used ∷ uses) out [] = ⊥
AreFilesFrom version problem main names i (used ∷ uses) out (file ∷ files) =
    IsFileOfExport version problem i used file × AreFilesFrom version problem main names (i + 1) uses out files

-- the files of a source
abbrev pub AreFilesOf : FileVersion → Checked → Answers → Option (List ℕ) → List File → Type 0
AreFilesOf version checked answers out files =
    AreFilesFrom version (problem_of checked answers) (main_question checked answers) (map (λ g. g.name) checked.globals) 0 checked.exports out files

-- every name but these holds what it held, and the holding is told as before
abbrev pub KeepsAllBut : Option Holding → Option Holding → List (List ℕ) → Type 0
KeepsAllBut None None names = Unit {0}
KeepsAllBut (Some old) (Some new) names = (other : List ℕ) → ¬ Contains names other → new other ≡ old other
KeepsAllBut None (Some new) names = ⊥
KeepsAllBut (Some old) None names = ⊥

-- each file holds its bytes, where that is told, and every other name what it held
pub record AreHeld (before after : Option Holding) (files : List File) : Type 0 where
  pub each : Each (λ file. Holds after file.0 file.1) files
  pub others : KeepsAllBut before after (map (λ file. file.0) files)

-- so many files hold their bytes; the next may hold anything, and every other name holds what it held
pub record AreHeldUpTo (count : ℕ) (before after : Option Holding) (files : List File) : Type 0 where
  pub some_left : count < length files
  pub each : Each (λ file. Holds after file.0 file.1) (take count files)
  pub others : KeepsAllBut before after (map (λ file. file.0) (take (count + 1) files))
