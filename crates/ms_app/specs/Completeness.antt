-- Which requests are done, by what the files hold, where nothing outside goes wrong.
use Rattle.std.specs.Prelude.{◌≡◌, ℕ, ◌⊎◌, true, false, List, [], Some}
use Rattle.ms_edge.specs.declared.refusal.Refusal.TheVariants.{Nodes}
use Rattle.ms_edge.specs.declared.refusal.Status.{Status}
use Rattle.ms_edge.specs.declared.refusal.Status.TheVariants.{Done, Limit, NoMemory}
use Rattle.ms_edge.specs.Counts.{Rose}
use Rattle.ms_dfa.specs.declared.plain.Plain.{Plain}
use Rattle.ms_edge.specs.Files.{Holding, Seen}
use Rattle.ms_edge.specs.Sink.{SinkTold, grown}
use Rattle.ms_gen.specs.Generated.{IsNumber, generated}
use Rattle.ms_logic.specs.declared.checked.Checked.{Checked}
use Rattle.ms_logic.specs.declared.source.Loaded.{Loaded}
use Rattle.ms_cert_check.specs.Check.{CanBeChecked}
use Rattle.ms_ltlf.specs.Tree.{Temporal}
use Rattle.ms_ltlf_decide.specs.Formula.{IsEnoughForFormula, IsSolvable}
use Rattle.ms_ltlf_parse.specs.Grammar.{Names}
use Rattle.ms_presburger_decide.specs.Problem.{IsEnoughForProblem, ProblemCanBeDecided}
use Rattle.ms_report.specs.Line.{line_of}
use Rattle.ms_app_words.specs.Command.{IsCommand, node_limit}
use Rattle.ms_app_words.specs.declared.command.Command.{Command}
use Rattle.ms_app_words.specs.declared.command.Command.TheVariants.{Decide, Same, Gen, Ltl, Presburger, Check, Certify}
use Rattle.ms_app.specs.Answer.{IsDelivered, IsRefusedFor, generated_name}
use Rattle.ms_app.specs.Comparison.{AreParts, AreSolved, HaveSameGlobals, Taken}
use Rattle.ms_app.specs.Certification.{names_to_certify}
use Rattle.ms_app.specs.Source.{IsEnoughWith, IsSolved, IsTaken, Origin, file_of, names_for, text_of}

-- what the files hold was told, no read or write of them failed, and the sink did not fail
pub record NothingFailed (before after : SinkTold) (seen : Seen) : Type 0 where
  pub holding : Holding
  pub told : seen.before.held ≡ Some holding
  pub works : ¬ Rose seen.before.faults seen.after.faults
  pub prints : ¬ Rose before.faults after.faults

-- it loads as a source without a fault, whose imports can be taken, and which is within the limits
abbrev pub CanBeSolved : Origin → List (List ℕ) → Type 0
CanBeSolved origin outs =
    (loaded : Loaded) × (checked : Checked) × (plains : List Plain) × IsSolved origin outs loaded checked plains

-- both files load as such sources, with the same globals
abbrev pub CanBeCompared : List ℕ → List ℕ → Seen → Type 0
CanBeCompared left right seen =
    (one two : Taken) × AreSolved left right seen one two × HaveSameGlobals one.checked two.checked

-- the file has a formula, whose source of strings is within the limits
abbrev pub FormulaCanBeDecided : List ℕ → Seen → Type 0
FormulaCanBeDecided file seen = (names : Names) × (f : Temporal) × IsSolvable seen.before.held file names f

-- what the command asks for can be done
abbrev pub CanBeDone : Command → Seen → Type 0
CanBeDone (Decide file out max_nodes stats format) seen = CanBeSolved (file_of seen 0 file) (names_for out)
CanBeDone (Same left right max_nodes) seen = CanBeCompared left right seen
CanBeDone (Gen number decide) seen = IsNumber number
CanBeDone (Ltl file max_nodes) seen = FormulaCanBeDecided file seen
CanBeDone (Presburger file max_nodes) seen = ProblemCanBeDecided seen.before.held file
CanBeDone (Check name) seen = CanBeChecked seen.before.held name
CanBeDone (Certify file name max_nodes) seen = CanBeSolved (file_of seen 0 file) (names_to_certify name)

-- the limit on the nodes and states of a step; a check has no steps
abbrev pub limit_of : Command → ℕ
limit_of (Decide file out max_nodes stats format) = max_nodes
limit_of (Same left right max_nodes) = max_nodes
limit_of (Gen number decide) = node_limit
limit_of (Ltl file max_nodes) = max_nodes
limit_of (Presburger file max_nodes) = max_nodes
limit_of (Check name) = node_limit
limit_of (Certify file name max_nodes) = max_nodes

-- the limit is enough for the source, as often as it is one whose imports can be taken
abbrev pub IsEnoughForOrigin : Origin → List (List ℕ) → ℕ → Type 0
IsEnoughForOrigin origin outs limit =
    (loaded : Loaded) (checked : Checked) (plains : List Plain) → IsTaken origin outs loaded checked plains → IsEnoughWith checked plains limit

-- it is enough for both files, whatever number the files of the right one begin with
pub record IsEnoughForBoth (left right : List ℕ) (limit : ℕ) (seen : Seen) : Type 0 where
  pub for_left : IsEnoughForOrigin (file_of seen 0 left) [] limit
  pub for_right : (first rest : Seen) (base : ℕ) → AreParts seen first rest → IsEnoughForOrigin (file_of rest base right) [] limit

-- the limit on the nodes and states of a step is at least each budget of each step of what the command asks for
abbrev pub IsLimitEnough : Command → Seen → Type 0
IsLimitEnough (Decide file out max_nodes stats format) seen = IsEnoughForOrigin (file_of seen 0 file) (names_for out) max_nodes
IsLimitEnough (Same left right max_nodes) seen = IsEnoughForBoth left right max_nodes seen
IsLimitEnough (Gen number false) seen = Unit {0}
IsLimitEnough (Gen number true) seen = IsEnoughForOrigin (text_of generated_name (generated number)) [] node_limit
IsLimitEnough (Ltl file max_nodes) seen = IsEnoughForFormula seen.before.held file max_nodes
IsLimitEnough (Presburger file max_nodes) seen = IsEnoughForProblem seen.before.held file max_nodes
IsLimitEnough (Check name) seen = Unit {0}
IsLimitEnough (Certify file name max_nodes) seen = IsEnoughForOrigin (file_of seen 0 file) (names_to_certify name) max_nodes

-- it was done: its text was printed, and its files written
abbrev pub WasDone : Command → SinkTold → SinkTold → Seen → Status → Type 0
WasDone command before after seen status =
    (status ≡ Done) × ((text : List ℕ) × IsDelivered command seen text × (after.taken ≡ grown before.taken text))

-- a step was refused under the limit, for its cause, and this was printed
abbrev pub LackedNodes : Command → SinkTold → SinkTold → Seen → Status → Type 0
LackedNodes command before after seen status =
    (status ≡ Limit)
    × ((step : ℕ) × (files : List (List ℕ)) × IsRefusedFor command seen (Nodes step (limit_of command)) files
    × (after.taken ≡ grown before.taken (line_of (Nodes step (limit_of command)) files)))

-- Where the words ask for what can be done and nothing outside fails, it is done, unless memory is wanting; or nodes in a step, and that
-- only under a limit that is not enough.
abbrev pub IsComplete : List (List ℕ) → SinkTold → SinkTold → Seen → Status → Type 0
IsComplete words before after seen status =
    (command : Command) → IsCommand words command → CanBeDone command seen → NothingFailed before after seen →
    WasDone command before after seen status ⊎ (status ≡ NoMemory) ⊎ (LackedNodes command before after seen status × ¬ IsLimitEnough command seen)

-- what a request asks for can be done, nothing outside fails, and the limit is enough
pub record IsFavoured (words : List (List ℕ)) (before after : SinkTold) (seen : Seen) (command : Command) : Type 0 where
  pub is_command : IsCommand words command
  pub can_be_done : CanBeDone command seen
  pub nothing_failed : NothingFailed before after seen
  pub enough : IsLimitEnough command seen

-- then it is done, unless memory is wanting
abbrev pub IsDoneIfFavoured : List (List ℕ) → SinkTold → SinkTold → Seen → Status → Type 0
IsDoneIfFavoured words before after seen status =
    (command : Command) → IsFavoured words before after seen command → WasDone command before after seen status ⊎ (status ≡ NoMemory)
