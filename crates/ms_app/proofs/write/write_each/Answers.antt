use Rattle.std.proofs.Common.{◌≡◌, ◌<◌, ℕ, List, Some, length, slice_get, slice_index_or, ap, sym, subst, arith, ◌∙◌}
use Rattle.std.specs.Option.{option_map}
use Rattle.std.proofs.lemmas.List.{length-map}
use Rattle.std.proofs.lemmas.Option.{slice_get-get_or, slice_get-map}
use Rattle.ms_edge.specs.Files.{Holds, KeepsOthers}
use Rattle.ms_app.specs.inner.Files.{pairs_of}
use Rattle.ms_app.specs.Written.{File}
use Rattle.ms_app.specs.declared.files.AutomatonFile.{AutomatonFile}
use Rattle.ms_app.proofs.Written.{all_written, no_pairs, written_more, written_up_to}
use Rattle.ms_app.proofs.write.write_each.Goals as goal

-- the name and the bytes of the file at a place
pair-at : (files : List AutomatonFile) (place : ℕ) (own : AutomatonFile) → place < length files → own ≡ slice_index_or files place own → slice_get (pairs_of files) place ≡ Some (own.name, own.bytes)
pair-at files place own less is =
    let pair_of : AutomatonFile → File = λ f. (f.name, f.bytes) in
    slice_get-map pair_of files place ∙ ap (option_map pair_of) (slice_get-get_or files place own less ∙ ap Some (sym is))

pub returns-in-Err-clause-stopped : goal.returns-in-Err-clause-stopped
returns-in-Err-clause-stopped g c =
    let written = c.args.written.now in
    let place = c.loop-place.place in
    let less = c.loop-place-test.true in
    let own : AutomatonFile = c.index-written-place.result in
    let file : File = (own.name, own.bytes) in
    let before = (g.F.Files.told c.args.files.now).held in
    let mid = (g.F.Files.told c.loop-place.files).held in
    let after = (g.F.Files.told c.write.new.self).held in
    let here = pair-at written place own (omega (arith, less)) c.index-written-place.is in
    written_up_to before mid after (pairs_of written) place file here c.requires c.loop-place.invariant.0 (subst (KeepsOthers mid after) c.text.ensures c.in-Err.ensures.others)

pub loop-place-preserved : goal.loop-place-preserved
loop-place-preserved g c =
    let written = c.args.written.now in
    let place = c.loop-place.place in
    let less = c.loop-place-test.true in
    let own : AutomatonFile = c.index-written-place.result in
    let file : File = (own.name, own.bytes) in
    let before = (g.F.Files.told c.args.files.now).held in
    let mid = (g.F.Files.told c.loop-place.files).held in
    let after = (g.F.Files.told c.write.new.self).held in
    let here = pair-at written place own (omega (arith, less)) c.index-written-place.is in
    let keeps = subst (KeepsOthers mid after) c.text.ensures c.in-Ok.ensures.others in
    let holds = subst (λ bytes. Holds after own.name bytes) c.slice.ensures (subst (λ name. Holds after name c.slice.result.now) c.text.ensures c.in-Ok.ensures.written) in
    let old = c.loop-place.invariant.1 in
    let new = c.in-Ok.ensures.counts in
    let old_faults = old.faults in
    let old_absences = old.absences in
    let old_overlongs = old.overlongs in
    let new_faults = new.faults in
    let new_absences = new.absences in
    let new_overlongs = new.overlongs in (
      written_more before mid after (pairs_of written) place file here c.requires c.loop-place.invariant.0 keeps holds,
      record { faults = omega (arith, old_faults, new_faults); absences = omega (arith, old_absences, new_absences); overlongs = omega (arith, old_overlongs, new_overlongs) },
      λ first. absurd (omega (arith, first)),
    )

pub returns-in-Err-clause-untouched : goal.returns-in-Err-clause-untouched
returns-in-Err-clause-untouched g c none = let less = c.loop-place-test.true in let empty = no_pairs c.args.written.now none in absurd (omega (arith, less, empty))

pub returns-clause-untouched : goal.returns-clause-untouched
returns-clause-untouched g c none = let end = c.loop-place.auto.place-end in let empty = no_pairs c.args.written.now none in c.loop-place.invariant.2 (omega (arith, end, empty))

pub returns-clause-written : goal.returns-clause-written
returns-clause-written g c =
    let written = c.args.written.now in
    let past = c.loop-place-test.false in
    let end = c.loop-place.auto.place-end in
    let long : length (pairs_of written) ≡ length written = length-map {B = File} written (λ (f : AutomatonFile). (f.name, f.bytes)) in
    all_written c.loop-place.place (g.F.Files.told c.args.files.now).held (g.F.Files.told c.loop-place.files).held (pairs_of written) (omega (arith, past, end, long)) c.loop-place.invariant.0
