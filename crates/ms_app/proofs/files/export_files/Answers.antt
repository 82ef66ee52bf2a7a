use Rattle.std.proofs.Common.{Some, slice_index_or, ap, subst, sym, take, ◌+◌, arith, ◌∙◌}
use Rattle.std.proofs.lemmas.Option.{slice_get-get_or}
use Rattle.ms_dfa.specs.declared.plain.Plain.{Plain}
use Rattle.ms_logic.specs.declared.checked.ExportUse.{ExportUse}
use Rattle.ms_app.specs.inner.Files.{AreSpelled, pairs_of}
use Rattle.ms_app.proofs.Writing.{pairs_more, spelled_more}
use Rattle.ms_app.proofs.files.export_files.Goals as goal

pub loop-place-preserved : goal.loop-place-preserved
loop-place-preserved c =
    let exports = c.args.exports.now in
    let contents = c.args.contents.now in
    let place = c.loop-place.place in
    let less = c.loop-place-test.true in
    let long = c.requires.long in
    let used : ExportUse = slice_index_or exports place c.index-exports-place.result in
    let plain : Plain = c.index-contents-place.result in
    let file = c.in_ok-file.file in
    let made = c.in_ok-file.ensures in
    let more =
    spelled_more exports contents place (pairs_of c.loop-place.files) used plain (file.name, file.bytes) c.loop-place.invariant (slice_get-get_or exports place c.index-exports-place.result (omega (arith, less)))
    (slice_get-get_or contents place plain (omega (arith, less, long)) ∙ ap Some (sym c.index-contents-place.is)) made.name made.bytes in
    subst (λ files. AreSpelled (take (place + 1) exports) (take (place + 1) contents) (pairs_of files)) (sym c.in_ok-push.ensures.ok)
    (subst (AreSpelled (take (place + 1) exports) (take (place + 1) contents)) (sym (pairs_more c.loop-place.files file)) more)
