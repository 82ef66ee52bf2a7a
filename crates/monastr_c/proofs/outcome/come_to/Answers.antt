use Rattle.std.proofs.Common.{◌≡◌, [], ◌++◌, refl}
use Rattle.std.proofs.lemmas.List.{append-nil}
use Rattle.monastr_c.specs.Buffers.{files_in}
use Rattle.monastr_c.specs.Request.{given_in}
use Rattle.monastr_c.specs.Told.{files_told, sink_told}
use Rattle.monastr_c.proofs.Runs.{Ran-from}
use Rattle.monastr_c.proofs.outcome.come_to.Goals as goal

pub returns-clause-ran : goal.returns-clause-ran
returns-clause-ran c =
    let begun = c.new-folder.result in
    let ended = c.run-status.new.files in
    let given = given_in c.args.request.now in
    let written = files_in ended.written.items ended.written_lengths.items in
    let kept = c.is_over.ensures.0 c.if-not-is_over.false in
    let empty : sink_told c.new-printed.result.taken.items c.new-printed.result.faults ≡ sink_told [] 0 =
    rw (c.new-printed.ensures.taken, c.new-printed.ensures.faults) refl in
    let full : sink_told c.run-status.new.out.taken.items c.run-status.new.out.faults ≡ sink_told c.run-status.new.out.taken.items 0 =
    rw c.if-printed-ne0.false refl in
    let new = c.new-folder.ensures in
    let alone : files_in begun.given.now begun.given_lengths.now ++ files_in begun.written.items begun.written_lengths.items ≡ given =
    rw (new.given, new.given_lengths, new.written, new.written_lengths) (append-nil given) in
    let before : files_told (files_in begun.given.now begun.given_lengths.now ++ files_in begun.written.items begun.written_lengths.items)
    begun.faults begun.absences begun.overlongs ≡ files_told given 0 0 0 = rw (alone, new.faults, new.absences, new.overlongs) refl in
    let after : files_told (files_in ended.given.now ended.given_lengths.now ++ written) ended.faults ended.absences ended.overlongs
    ≡ files_told (given ++ written) 0 ended.absences ended.overlongs = rw (kept.0, kept.1, c.if-folder-ne0.false) refl in
    let told = c.run-status.ensures in
    Ran-from c.args.words.now given c.run-status.result c.run-status.new.out.taken.items written ended.absences ended.overlongs
    _ _ _ _ empty full before after told.answered told.done told.usage_only told.generated told.complete told.favoured
