-- The counts of a source and of the canonical automaton of its main value.
use Rattle.std.specs.Prelude.{◌≡◌, ℕ, Bool, true, false, length, Option, Some, None}
use Rattle.ms_dfa.specs.declared.plain.FileSign.{FileSign}
use Rattle.ms_dfa.specs.declared.plain.FileVersion.{FileVersion}
use Rattle.ms_dfa.specs.declared.plain.FileVersion.TheVariants as versions
use Rattle.ms_logic_words.specs.Canonical.{IsCanonical}
use Rattle.ms_logic_words.specs.Content.{Content}
use Rattle.ms_logic_core.specs.Size.{depth_of_source, size_of_source}
use Rattle.ms_logic.specs.declared.checked.Checked.{Checked}
use Rattle.ms_logic.specs.Verdict.{Problem, variables_of}
use Rattle.ms_logic.specs.View.{Answers, main_question, problem_of}
use Rattle.ms_report.specs.declared.found.Stats.{Stats}
use Rattle.ms_build_source.specs.Values.{GivesValue}
use Rattle.ms_dfa.specs.Values.{main_meaning}

-- the canonical content of a question's value in a version, over the globals
pub record IsCanonicalOf (version : FileVersion) (problem : Problem) (content : Content FileSign) : Type 0 where
  pub mode : content.mode ≡ problem.mode
  pub variables : content.variables ≡ variables_of problem.globals
  pub canonical : IsCanonical content
  pub value : GivesValue version (main_meaning problem) content

-- the counts of a source of so many files, where its imports have these answers; states and nodes are those of the content of the main
-- value in version 2
pub record HasCounts (checked : Checked) (answers : Answers) (files : ℕ) (stats : Stats) : Type 0 where
  pub files_are : stats.files ≡ files
  pub size : stats.size ≡ size_of_source (problem_of checked answers)
  pub depth : stats.depth ≡ depth_of_source (problem_of checked answers)
  pub content : Content FileSign
  pub is : IsCanonicalOf versions.Two (main_question checked answers) content
  pub states : stats.states ≡ length content.states
  pub nodes : stats.nodes ≡ length content.nodes

-- they are there where they are asked for
abbrev pub HasStats : Bool → Checked → Answers → ℕ → Option Stats → Type 0
HasStats false checked answers files stats = stats ≡ None
HasStats true checked answers files stats = (counts : Stats) × (stats ≡ Some counts) × HasCounts checked answers files counts
