-- What a run of the program over files in memory came to: what the top call promises, where neither the files nor the sink failed.
use Rattle.std.specs.Prelude.{◌≡◌, ℕ, List, [], ◌++◌}
use Rattle.ms_edge.specs.declared.refusal.Status.{Status}
use Rattle.ms_edge.specs.declared.refusal.Status.TheVariants.{Done, Usage, Refused, Limit, FileFault, SinkFault, NoMemory}
use Rattle.ms_edge.specs.Files.{Seen, between}
use Rattle.ms_edge.specs.FilesInMemory.{Entry}
use Rattle.ms_app_words.specs.Command.{IsCommand}
use Rattle.ms_app_words.specs.declared.command.Command.{Command}
use Rattle.ms_app.specs.Answer.{IsAnswered, IsDone, IsGeneration}
use Rattle.ms_app.specs.Completeness.{IsComplete, IsDoneIfFavoured}
use Rattle.monastr_c.specs.Told.{files_told, sink_told}

-- the status of the program for each way to end
abbrev pub number_of : Status → ℕ
number_of Done = 0
number_of Usage = 1
number_of Refused = 2
number_of Limit = 3
number_of FileFault = 4
number_of SinkFault = 5
number_of NoMemory = 6

-- what was seen of the files: these before, and behind them those that were written, with these counts of files that were not there
-- or were too long
abbrev pub seen_of : List Entry → List Entry → ℕ → ℕ → Seen
seen_of given written absences overlongs = between (files_told given 0 0 0) (files_told (given ++ written) 0 absences overlongs)

-- These words over these files ended so: the text was printed, and the files were written.
pub record Ran (words : List (List ℕ)) (given : List Entry) (status : Status) (text : List ℕ) (written : List Entry) : Type 0 where
  pub absences : ℕ
  pub overlongs : ℕ
  pub answered : IsAnswered words (sink_told [] 0) (sink_told text 0) (seen_of given written absences overlongs) status
  pub done : status ≡ Done → IsDone words (sink_told [] 0) (sink_told text 0) (seen_of given written absences overlongs)
  pub usage_only : status ≡ Usage → (command : Command) → IsCommand words command → ⊥
  pub generated : (command : Command) → IsCommand words command → IsGeneration command
      → files_told (given ++ written) 0 absences overlongs ≡ files_told given 0 0 0
  pub complete : IsComplete words (sink_told [] 0) (sink_told text 0) (seen_of given written absences overlongs) status
  pub favoured : IsDoneIfFavoured words (sink_told [] 0) (sink_told text 0) (seen_of given written absences overlongs) status
