-- What the top call promises of a run over files and a sink that did not fail is what was told of it.
use Rattle.std.proofs.Common.{◌≡◌, ℕ, List, [], ◌++◌, subst}
use Rattle.ms_edge.specs.declared.refusal.Status.{Status}
use Rattle.ms_edge.specs.declared.refusal.Status.TheVariants.{Done, Usage}
use Rattle.ms_edge.specs.Files.{FilesTold, between}
use Rattle.ms_edge.specs.FilesInMemory.{Entry}
use Rattle.ms_edge.specs.Sink.{SinkTold}
use Rattle.ms_app_words.specs.Command.{IsCommand}
use Rattle.ms_app_words.specs.declared.command.Command.{Command}
use Rattle.ms_app.specs.Answer.{IsAnswered, IsDone, IsGeneration}
use Rattle.ms_app.specs.Completeness.{IsComplete, IsDoneIfFavoured}
use Rattle.monastr_c.specs.Ran.{Ran}
use Rattle.monastr_c.specs.Told.{files_told, sink_told}

-- what holds of four things holds of what they are
moved : (P : SinkTold → SinkTold → FilesTold → FilesTold → Type 0) (empty full empty' full' : SinkTold) (before after before' after' : FilesTold)
    → empty ≡ empty' → full ≡ full' → before ≡ before' → after ≡ after' → P empty full before after → P empty' full' before' after'
moved P empty full empty' full' before after before' after' is_empty is_full is_before is_after holds =
    subst (λ (told : SinkTold). P told full' before' after') is_empty
    (subst (λ (told : SinkTold). P empty told before' after') is_full
    (subst (λ (told : FilesTold). P empty full told after') is_before
    (subst (λ (told : FilesTold). P empty full before told) is_after holds)))

-- the same run, by what the files and the sink tell
pub Ran-from : (words : List (List ℕ)) (given : List Entry) (status : Status) (text : List ℕ) (written : List Entry) (absences overlongs : ℕ)
    (empty full : SinkTold) (before after : FilesTold)
    → empty ≡ sink_told [] 0 → full ≡ sink_told text 0
    → before ≡ files_told given 0 0 0 → after ≡ files_told (given ++ written) 0 absences overlongs
    → IsAnswered words empty full (between before after) status
    → (status ≡ Done → IsDone words empty full (between before after))
    → (status ≡ Usage → (command : Command) → IsCommand words command → ⊥)
    → ((command : Command) → IsCommand words command → IsGeneration command → after ≡ before)
    → IsComplete words empty full (between before after) status
    → IsDoneIfFavoured words empty full (between before after) status
    → Ran words given status text written
Ran-from words given status text written absences overlongs empty full before after is_empty is_full is_before is_after answered done usage_only generated complete favoured =
    let with = λ (P : SinkTold → SinkTold → FilesTold → FilesTold → Type 0) (holds : P empty full before after).
    moved P empty full (sink_told [] 0) (sink_told text 0) before after (files_told given 0 0 0) (files_told (given ++ written) 0 absences overlongs)
    is_empty is_full is_before is_after holds in
    record {
      absences = absences;
      overlongs = overlongs;
      answered = with (λ a b c d. IsAnswered words a b (between c d) status) answered;
      done = λ is. with (λ a b c d. IsDone words a b (between c d)) (done is);
      usage_only = usage_only;
      generated = λ command is generates. with (λ a b c d. d ≡ c) (generated command is generates);
      complete = with (λ a b c d. IsComplete words a b (between c d) status) complete;
      favoured = with (λ a b c d. IsDoneIfFavoured words a b (between c d) status) favoured;
    }
