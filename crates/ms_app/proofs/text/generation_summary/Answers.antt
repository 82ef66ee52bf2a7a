use Rattle.std.proofs.Common.{◌≤◌, ℕ, true, List, [], length, ap, sym, subst, ◌∙◌}
use Rattle.ms_gen.proofs.Lengths.{generated_short}
use Rattle.ms_dfafile_imports.specs.Imports.{answers_by}
use Rattle.ms_report.specs.Report.{summary_of}
use Rattle.ms_app.specs.Counts.{HasStats}
use Rattle.ms_app.specs.inner.Files.{pairs_of}
use Rattle.ms_app.proofs.Generations.{accepted_as, main_alone, no_files, nothing_adopted, nothing_answers, nothing_counted, nothing_lent, text_decided, text_unaccepted, text_unsolved}
use Rattle.ms_app.proofs.text.generation_summary.Goals as goal

pub accept_text-requires : goal.accept_text-requires
accept_text-requires c = subst (λ (t : List ℕ). length t ≤ 1048576) (sym c.in-Ok.ensures.text) (generated_short c.args.number c.in-Ok.ensures.is_number)

pub returns-in-Err-accept_text-clause-refused : goal.returns-in-Err-accept_text-clause-refused
returns-in-Err-accept_text-clause-refused c = λ seen.
    text_unaccepted c.args.number c.in-Ok.ensures.is_number c.in-Ok.text c.in-Ok.ensures.text c.args.names.now c.accept_text.new.names c.requires.first c.in-Err-accept_text.refusal
    c.in-Err-accept_text.ensures.refused

pub decide-requires-clause-imports : goal.decide-requires-clause-imports
decide-requires-clause-imports c =
    let made = accepted_as c.args.number c.in-Ok.ensures.is_number c.in-Ok.text c.in-Ok.ensures.text c.args.names.now c.accept_text.new.names c.requires.first
    c.in-Ok-accept_text.ensures.accepted.0 c.in-Ok-accept_text.source.checked c.in-Ok-accept_text.ensures.accepted.1 c.in-Ok-accept_text.ensures.names in
    nothing_lent made c.new.result c.new.ensures

pub returns-in-Err-decide-clause-refused : goal.returns-in-Err-decide-clause-refused
returns-in-Err-decide-clause-refused c = λ seen.
    let made = accepted_as c.args.number c.in-Ok.ensures.is_number c.in-Ok.text c.in-Ok.ensures.text c.args.names.now c.accept_text.new.names c.requires.first
    c.in-Ok-accept_text.ensures.accepted.0 c.in-Ok-accept_text.source.checked c.in-Ok-accept_text.ensures.accepted.1 c.in-Ok-accept_text.ensures.names in
    let adopted = nothing_adopted made c.new.result c.new.ensures in
    text_unsolved made c.in-Ok-accept_text.ensures.right.numbered c.new.result adopted c.in-Err-decide.refusal
    (c.in-Err-decide.ensures.refused (answers_by c.in-Ok-accept_text.source.checked.imports []) (nothing_counted made))

pub summary-requires : goal.summary-requires
summary-requires c =
    let made = accepted_as c.args.number c.in-Ok.ensures.is_number c.in-Ok.text c.in-Ok.ensures.text c.args.names.now c.accept_text.new.names c.requires.first
    c.in-Ok-accept_text.ensures.accepted.0 c.in-Ok-accept_text.source.checked c.in-Ok-accept_text.ensures.accepted.1 c.in-Ok-accept_text.ensures.names in
    let all = c.in-Ok-decide.ensures.found (answers_by c.in-Ok-accept_text.source.checked.imports []) (nothing_answers made c.new.result c.new.ensures) in
    let main = main_alone made c.in-Ok-decide.decided.found all.0 in
    record { main = (main.0, main.1) }

pub returns-in-Ok-summary-clause-given : goal.returns-in-Ok-summary-clause-given
returns-in-Ok-summary-clause-given c = λ seen.
    let made = accepted_as c.args.number c.in-Ok.ensures.is_number c.in-Ok.text c.in-Ok.ensures.text c.args.names.now c.accept_text.new.names c.requires.first
    c.in-Ok-accept_text.ensures.accepted.0 c.in-Ok-accept_text.source.checked c.in-Ok-accept_text.ensures.accepted.1 c.in-Ok-accept_text.ensures.names in
    let found = c.in-Ok-decide.decided.found in
    let files = pairs_of c.in-Ok-decide.decided.files in
    let checked = c.in-Ok-accept_text.source.checked in
    let all = c.in-Ok-decide.ensures.found (answers_by checked.imports []) (nothing_answers made c.new.result c.new.ensures) in
    let counted = subst (λ n. HasStats true checked (answers_by checked.imports []) n found.stats) c.in-Ok-accept_text.ensures.accepted.2 all.1 in
    let within = c.in-Ok-decide.ensures.within (answers_by checked.imports []) in
    let main = main_alone made found all.0 in (
      no_files made files all.2,
      c.in-Ok.ensures.is_number,
      (
        found,
        main.0,
        text_decided made found files all.0 within counted all.2,
        main.1,
        c.in-Ok-summary.ensures main.0 main.1 ∙ ap (λ n. summary_of c.args.number n main.0 found.stats) (c.len-bytes.ensures ∙ ap (λ (t : List ℕ). length t) c.in-Ok.ensures.text),
      ),
    )

pub returns-in-Ok-summary-clause-no_files : goal.returns-in-Ok-summary-clause-no_files
returns-in-Ok-summary-clause-no_files c =
    let made = accepted_as c.args.number c.in-Ok.ensures.is_number c.in-Ok.text c.in-Ok.ensures.text c.args.names.now c.accept_text.new.names c.requires.first
    c.in-Ok-accept_text.ensures.accepted.0 c.in-Ok-accept_text.source.checked c.in-Ok-accept_text.ensures.accepted.1 c.in-Ok-accept_text.ensures.names in
    let all = c.in-Ok-decide.ensures.found (answers_by c.in-Ok-accept_text.source.checked.imports []) (nothing_answers made c.new.result c.new.ensures) in
    no_files made (pairs_of c.in-Ok-decide.decided.files) all.2
