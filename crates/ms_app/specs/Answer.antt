-- How a run is to end and what it is to print, by its words and by what the files hold.
use Rattle.std.specs.Prelude.{◌≡◌, ℕ, ◌<◌, ◌⊎◌, Bool, true, false, List, [], ◌∷◌, ◌++◌, length, map, slice_get, take, codes, None, Some}
use Rattle.ms_dfa.specs.declared.plain.FileVersion.TheVariants.{Two}
use Rattle.ms_edge.specs.declared.refusal.Refusal.{Refusal}
use Rattle.ms_edge.specs.declared.refusal.Refusal.TheVariants.{ConstRange, FileSize, Includes, Depth, CoreSize, Nodes, ReadFault, WriteFault, Memory}
use Rattle.ms_edge.specs.declared.refusal.Refusal.TheVariants as refusals
use Rattle.ms_edge.specs.declared.refusal.Status.{Status}
use Rattle.ms_edge.specs.declared.refusal.Status.TheVariants.{Done, Usage, Refused, Limit, FileFault, NoMemory}
use Rattle.ms_edge.specs.declared.refusal.Status.TheVariants as statuses
use Rattle.ms_edge.specs.Counts.{Rose}
use Rattle.ms_edge.specs.Files.{FilesTold, OnlyRead, Seen, between}
use Rattle.ms_edge.specs.Sink.{SinkTold, grown}
use Rattle.ms_build.specs.Built.{IsLimit}
use Rattle.ms_gen.specs.Generated.{IsNumber, generated}
use Rattle.ms_report.specs.declared.found.Answer as answers
use Rattle.ms_report.specs.declared.found.Found.{Found}
use Rattle.ms_report.specs.Line.{line_of}
use Rattle.ms_report.specs.Report.{report_of, summary_of}
use Rattle.ms_app_words.specs.Command.{IsCommand, node_limit}
use Rattle.ms_app_words.specs.declared.command.Command.{Command}
use Rattle.ms_app_words.specs.declared.command.Command.TheVariants.{Decide, Same, Gen, Ltl, Presburger, Check, Certify}
use Rattle.ms_cert_check.specs.Check.{IsChecked, IsRefusedCheck}
use Rattle.ms_ltlf_decide.specs.Formula.{IsDecidedFormula, IsRefusedFormula}
use Rattle.ms_presburger_decide.specs.Problem.{IsDecidedProblem, IsRefusedProblem}
use Rattle.ms_app.specs.Comparison.{AreCompared, IsRefusedComparison, comparison_text}
use Rattle.ms_app.specs.Decision.{IsDecided}
use Rattle.ms_app.specs.Certification.{IsCertification, names_to_certify}
use Rattle.ms_app.specs.Source.{IsRefused, file_of, names_for, text_of}
use Rattle.ms_app.specs.Written.{AreHeld, AreHeldUpTo, File}

-- a status, and the text that goes with it
pub record Answer : Type 0 where
  pub status : Status
  pub text : List ℕ

-- the answer to words that are no command
abbrev pub usage : Answer
usage = record { status = Usage; text = codes "usage: the words are not a command of monastr" ++ 10 ∷ [] }

-- the status that goes with a refusal
abbrev pub status_of : Refusal → Status
status_of (FileSize name limit) = Limit
status_of (Includes at limit) = Limit
status_of (Depth at) = Limit
status_of CoreSize = Limit
status_of (Nodes step limit) = Limit
status_of (ReadFault name) = FileFault
status_of (WriteFault name) = FileFault
status_of (refusals.SinkFault taken) = statuses.SinkFault
status_of Memory = NoMemory
status_of refusal = Refused

-- the answer of a refusal, over the names of the files by their numbers
abbrev pub answer_of : Refusal → List (List ℕ) → Answer
answer_of refusal files = record { status = status_of refusal; text = line_of refusal files }

-- what is printed where all is done
abbrev pub done_with : List ℕ → Answer
done_with text = record { status = Done; text = text }

-- the run ended so, and the sink took the whole text; or the sink failed, and took less than the text
abbrev pub Prints : SinkTold → SinkTold → Answer → Status → Type 0
Prints before after answer status =
    ((status ≡ answer.status) × (after.taken ≡ grown before.taken answer.text))
    ⊎ ((status ≡ statuses.SinkFault) × Rose before.faults after.faults
    × ((count : ℕ) × (count < length answer.text) × (after.taken ≡ grown before.taken (take count answer.text))))

-- the name under which a generated source is decided
abbrev pub generated_name : List ℕ
generated_name = codes "generated"

-- What a command asks for where it is done, by what was seen while the files were read: the text to print, and the files to write. A file is
-- decided: the report on it, and its automaton files; two files are compared; a source is generated, or the summary of it made; a formula of
-- temporal logic is decided over all traces, and one of linear arithmetic over all natural numbers; an automaton file is checked by its certificate,
-- and written with one.
abbrev pub IsGivenFor : Command → Seen → List ℕ → List File → Type 0
IsGivenFor (Decide file out max_nodes stats format) seen text written =
    (found : Found) × IsDecided (file_of seen 0 file) (names_for out) out stats format found written × (text ≡ report_of found)
IsGivenFor (Same left right max_nodes) seen text written = (written ≡ []) × ((agree : Bool) × AreCompared left right seen agree × (text ≡ comparison_text agree))
IsGivenFor (Gen number false) seen text written = (written ≡ []) × IsNumber number × (text ≡ generated number)
IsGivenFor (Gen number true) seen text written =
    (written ≡ []) × IsNumber number
    × ((found : Found) × (main : answers.Answer) × IsDecided (text_of generated_name (generated number)) [] None true Two found written × (found.main ≡ Some main)
    × (text ≡ summary_of number (length (generated number)) main found.stats))
IsGivenFor (Ltl file max_nodes) seen text written = (written ≡ []) × IsDecidedFormula seen.before.held file text
IsGivenFor (Presburger file max_nodes) seen text written = (written ≡ []) × IsDecidedProblem seen.before.held file text
IsGivenFor (Check name) seen text written = (written ≡ []) × IsChecked seen.before.held name text
IsGivenFor (Certify file name max_nodes) seen text written = IsCertification (file_of seen 0 file) name text written

-- the command asks for a generated source
abbrev pub IsGeneration : Command → Type 0
IsGeneration (Decide file out max_nodes stats format) = ⊥
IsGeneration (Same left right max_nodes) = ⊥
IsGeneration (Gen number decide) = Unit {0}
IsGeneration (Ltl file max_nodes) = ⊥
IsGeneration (Presburger file max_nodes) = ⊥
IsGeneration (Check name) = ⊥
IsGeneration (Certify file name max_nodes) = ⊥

-- a limit that a command names is one
abbrev pub IsLimited : Command → Type 0
IsLimited (Decide file out max_nodes stats format) = IsLimit max_nodes
IsLimited (Same left right max_nodes) = IsLimit max_nodes
IsLimited (Gen number decide) = Unit {0}
IsLimited (Ltl file max_nodes) = IsLimit max_nodes
IsLimited (Presburger file max_nodes) = IsLimit max_nodes
IsLimited (Check name) = Unit {0}
IsLimited (Certify file name max_nodes) = IsLimit max_nodes

-- the number of a source to generate is out of range
abbrev pub IsNoNumber : ℕ → Refusal → Type 0
IsNoNumber number refusal = (refusal ≡ ConstRange None) × ¬ IsNumber number

-- Why a command is refused, and the files that the refusal may number. A generated source has no fault and is within the limits, so
-- that only a step of its decision may be refused.
abbrev pub IsRefusedFor : Command → Seen → Refusal → List (List ℕ) → Type 0
IsRefusedFor (Decide file out max_nodes stats format) seen refusal files = IsRefused (file_of seen 0 file) (names_for out) max_nodes refusal files
IsRefusedFor (Same left right max_nodes) seen refusal files = IsRefusedComparison left right max_nodes seen refusal files
IsRefusedFor (Gen number false) seen refusal files = (refusal ≡ Memory) ⊎ IsNoNumber number refusal
IsRefusedFor (Gen number true) seen refusal files =
    (refusal ≡ Memory) ⊎ IsNoNumber number refusal
    ⊎ (IsNumber number × ((step : ℕ) × (refusal ≡ Nodes step node_limit)) × IsRefused (text_of generated_name (generated number)) [] node_limit refusal files)
IsRefusedFor (Ltl file max_nodes) seen refusal files = IsRefusedFormula seen file max_nodes refusal files
IsRefusedFor (Presburger file max_nodes) seen refusal files = IsRefusedProblem seen file max_nodes refusal files
IsRefusedFor (Check name) seen refusal files = IsRefusedCheck seen name refusal
IsRefusedFor (Certify file name max_nodes) seen refusal files = IsRefused (file_of seen 0 file) (names_to_certify name) max_nodes refusal files

-- The files were read, up to some moment; what the command asks for came of that; and its files are written since.
pub record IsDelivered (command : Command) (seen : Seen) (text : List ℕ) : Type 0 where
  pub middle : FilesTold
  pub reads : OnlyRead seen.before middle
  pub written : List File
  pub is_given : IsGivenFor command (between seen.before middle) text written
  pub held : AreHeld middle.held seen.after.held written

-- The same, but one of the files was not written: those before it stand.
pub record IsUnwritten (command : Command) (seen : Seen) (name : List ℕ) : Type 0 where
  pub middle : FilesTold
  pub reads : OnlyRead seen.before middle
  pub text : List ℕ
  pub written : List File
  pub is_given : IsGivenFor command (between seen.before middle) text written
  pub count : ℕ
  pub held : AreHeldUpTo count middle.held seen.after.held written
  pub next : slice_get (map (λ file. file.0) written) count ≡ Some name
  pub rose : Rose middle.faults seen.after.faults

-- What a run comes to that is asked for something.
pub data IsAnsweredFor (command : Command) (before after : SinkTold) (seen : Seen) (status : Status) : Type 0 where
  -- it is done, and the text is printed
  done : (text : List ℕ) (is : IsDelivered command seen text) (prints : Prints before after (done_with text) status) → IsAnsweredFor command before after seen status
  -- a file was not written, and the line of this fault is printed
  unwritten : (name : List ℕ) (is : IsUnwritten command seen name) (prints : Prints before after (answer_of (WriteFault name) []) status) → IsAnsweredFor command before after seen status
  -- it is refused for a cause, with nothing written, and its line is printed
  refused : (reads : OnlyRead seen.before seen.after) (refusal : Refusal) (files : List (List ℕ)) (why : IsRefusedFor command seen refusal files) (prints : Prints before after (answer_of refusal files) status)
      → IsAnsweredFor command before after seen status

-- What a run comes to by its words: words that are no command are answered so, and what words ask for is done. Want of memory may come
-- already where the words are read.
pub data IsAnswered (words : List (List ℕ)) (before after : SinkTold) (seen : Seen) (status : Status) : Type 0 where
  no_command : (none : (command : Command) → ¬ IsCommand words command) (kept : seen.after ≡ seen.before) (prints : Prints before after usage status) → IsAnswered words before after seen status
  asked : (command : Command) (is : IsCommand words command) (answered : IsAnsweredFor command before after seen status) → IsAnswered words before after seen status
  no_words : (kept : seen.after ≡ seen.before) (prints : Prints before after (answer_of Memory []) status) → IsAnswered words before after seen status

-- a run that is done did what the words asked for, and the sink took its text
abbrev pub IsDone : List (List ℕ) → SinkTold → SinkTold → Seen → Type 0
IsDone words before after seen =
    (command : Command) × IsCommand words command × ((text : List ℕ) × IsDelivered command seen text × (after.taken ≡ grown before.taken text))
