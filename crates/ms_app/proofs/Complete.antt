-- What can be done is done, unless memory is wanting, or nodes under a limit that is not enough.
use Rattle.std.proofs.Common.{◌≡◌, ℕ, ◌⊎◌, inl, inr, true, false, List, [], ap, ◌∙◌, subst}
use Rattle.ms_edge.specs.Counts.{Rose}
use Rattle.ms_edge.specs.Files.{Seen}
use Rattle.ms_edge.specs.Sink.{SinkTold, grown}
use Rattle.ms_edge.specs.declared.refusal.Refusal.{Refusal}
use Rattle.ms_edge.specs.declared.refusal.Refusal.TheVariants.{Memory, Nodes}
use Rattle.ms_edge.specs.declared.refusal.Status.{Status}
use Rattle.ms_edge.specs.declared.refusal.Status.TheVariants.{NoMemory}
use Rattle.ms_report.specs.Line.{line_of}
use Rattle.ms_app_words.specs.Command.{node_limit}
use Rattle.ms_app_words.specs.declared.command.Command.{Command}
use Rattle.ms_app_words.specs.declared.command.Command.TheVariants.{Decide, Same, Gen, Ltl, Presburger, Check, Certify}
use Rattle.ms_cert_check.proofs.Completeness.{checked}
use Rattle.ms_gen.proofs.Accepting.{sources-are-accepted}
use Rattle.ms_gen.specs.Generated.{generated}
use Rattle.ms_ltlf_decide.proofs.Solved.{solved}
use Rattle.ms_presburger_decide.proofs.Solved.{solved as solved_problem}
use Rattle.ms_app.specs.Answer as answers
use Rattle.ms_app.specs.Answer.{Answer, generated_name, IsAnswered, IsAnsweredFor, IsRefusedFor, IsUnwritten, Prints, answer_of, status_of}
use Rattle.ms_app.specs.Completeness.{CanBeDone, IsComplete, IsDoneIfFavoured, IsLimitEnough, LackedNodes, NothingFailed, WasDone, limit_of}
use Rattle.ms_app.specs.Certification.{names_to_certify}
use Rattle.ms_app.specs.Source.{file_of, names_for, text_of}
use Rattle.ms_app.proofs.Generations.{generation-solved}
use Rattle.ms_app.proofs.Compared.{comparable, rose_within}
use Rattle.ms_app_words.proofs.OneCommand.{one_command}
use Rattle.ms_app.proofs.Solvable.{IsWantUnder, files_settle, solvable, texts_settle}

grouped : (Enough : Type 0) (limit : ℕ) (refusal : Refusal) → (refusal ≡ Memory) ⊎ ((step : ℕ) × (refusal ≡ Nodes step limit) × (Enough → ⊥)) → IsWantUnder Enough limit refusal
grouped Enough limit refusal (inl memory) = inl memory
grouped Enough limit refusal (inr (step, nodes, short)) = inr ((step, nodes), short)

-- what can be done is refused for want of memory alone, or of nodes under a limit that is not enough
want : (command : Command) (before after : SinkTold) (seen : Seen) → CanBeDone command seen → NothingFailed before after seen → (refusal : Refusal) (files : List (List ℕ)) →
    IsRefusedFor command seen refusal files → IsWantUnder (IsLimitEnough command seen) (limit_of command) refusal
want (Decide file out limit stats format) before after seen can well refusal files why =
    solvable (file_of seen 0 file) (file_of seen 0 file) (files_settle seen seen (record { holding = well.holding; one_told = well.told; other_told = well.told }) well.works 0 file)
    (names_for out) can.0 can.1 can.2 can.3 limit refusal files why
want (Same left right limit) before after seen can well refusal files why = comparable well.holding left right limit seen can.0 can.1 well.told well.works can.2 can.3 refusal files why
want (Gen number false) before after seen can well refusal files (inl memory) = inl memory
want (Gen number false) before after seen can well refusal files (inr none) = absurd (none.1 can)
want (Gen number true) before after seen can well refusal files (inl memory) = inl memory
want (Gen number true) before after seen can well refusal files (inr (inl none)) = absurd (none.1 can)
want (Gen number true) before after seen can well refusal files (inr (inr (is, lacks, why))) =
    let found = sources-are-accepted number generated_name is in
    let origin = text_of generated_name (generated number) in
    solvable origin origin (texts_settle generated_name (generated number)) [] found.loaded found.checked [] (generation-solved number is) node_limit refusal files why
want (Ltl file limit) before after seen can well refusal files why =
    grouped (IsLimitEnough (Ltl file limit) seen) limit refusal (solved seen well.holding file can.0 can.1 limit refusal files well.told well.works can.2 why)
want (Presburger file limit) before after seen can well refusal files why =
    grouped (IsLimitEnough (Presburger file limit) seen) limit refusal (solved_problem seen well.holding file limit refusal files well.told well.works can why)
want (Certify file name limit) before after seen can well refusal files why =
    solvable (file_of seen 0 file) (file_of seen 0 file) (files_settle seen seen (record { holding = well.holding; one_told = well.told; other_told = well.told }) well.works 0 file)
    (names_to_certify name) can.0 can.1 can.2 can.3 limit refusal files why
want (Check name) before after seen can well refusal files why = inl (checked seen well.holding name refusal well.told well.works can why)

-- a sink that does not fail takes the answer
printed : (before after : SinkTold) (answer : Answer) (status : Status) → (Rose before.faults after.faults → ⊥) → Prints before after answer status →
    (status ≡ answer.status) × (after.taken ≡ grown before.taken answer.text)
printed before after answer status well (inl is) = is
printed before after answer status well (inr (failed, rose, some)) = absurd (well rose)

wanted : (command : Command) (before after : SinkTold) (seen : Seen) (refusal : Refusal) (files : List (List ℕ)) (status : Status) → IsRefusedFor command seen refusal files →
    (status ≡ status_of refusal) × (after.taken ≡ grown before.taken (line_of refusal files)) → IsWantUnder (IsLimitEnough command seen) (limit_of command) refusal → (status ≡ NoMemory) ⊎ (LackedNodes command before after seen status × (IsLimitEnough command seen → ⊥))
wanted command before after seen refusal files status why (is, taken) (inl memory) = inl (is ∙ ap status_of memory)
wanted command before after seen refusal files status why (is, taken) (inr ((step, nodes), short)) =
    inr ((is ∙ ap status_of nodes, (step, files, subst (λ r. IsRefusedFor command seen r files) nodes why, taken ∙ ap (λ r. grown before.taken (line_of r files)) nodes)), short)

-- a write that failed is a fault
unwritten_rose : (command : Command) (seen : Seen) (name : List ℕ) → IsUnwritten command seen name → Rose seen.before.faults seen.after.faults
unwritten_rose command seen name is = rose_within seen.before.faults is.middle.faults seen.after.faults is.reads.counts.faults is.rose

answered : (command : Command) (before after : SinkTold) (seen : Seen) (status : Status) → CanBeDone command seen → NothingFailed before after seen → IsAnsweredFor command before after seen status →
    WasDone command before after seen status ⊎ (status ≡ NoMemory) ⊎ (LackedNodes command before after seen status × (IsLimitEnough command seen → ⊥))
answered command before after seen status can well (answers.done text is prints) =
    let all = printed before after (answers.done_with text) status well.prints prints in inl (all.0, (text, is, all.1))
answered command before after seen status can well (answers.unwritten name is prints) = absurd (well.works (unwritten_rose command seen name is))
answered command before after seen status can well (answers.refused reads refusal files why prints) =
    inr (wanted command before after seen refusal files status why (printed before after (answer_of refusal files) status well.prints prints) (want command before after seen can well refusal files why))

pub complete : (words : List (List ℕ)) (before after : SinkTold) (seen : Seen) (status : Status) → IsAnswered words before after seen status → IsComplete words before after seen status
complete words before after seen status (answers.no_command none kept prints) command is can well = absurd (none command is)
complete words before after seen status (answers.asked command' is' answer) command is can well =
    answered command before after seen status can well (subst (λ c. IsAnsweredFor c before after seen status) (one_command words command' command is' is) answer)
complete words before after seen status (answers.no_words kept prints) command is can well = inr (inl (printed before after (answer_of Memory []) status well.prints prints).0)

-- so what is favoured is done, unless memory is wanting
pub favoured : (words : List (List ℕ)) (before after : SinkTold) (seen : Seen) (status : Status) → IsAnswered words before after seen status → IsDoneIfFavoured words before after seen status
favoured words before after seen status answer command is = by (complete words before after seen status answer command is.is_command is.can_be_done is.nothing_failed)
  where
    by : WasDone command before after seen status ⊎ (status ≡ NoMemory) ⊎ (LackedNodes command before after seen status × (IsLimitEnough command seen → ⊥)) → WasDone command before after seen status ⊎ (status ≡ NoMemory)
    by (inl done) = inl done
    by (inr (inl memory)) = inr memory
    by (inr (inr (lacked, short))) = absurd (short is.enough)
