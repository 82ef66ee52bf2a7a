use Rattle.std.proofs.Common.{◌≡◌, drop, get_or, ap, ◌∙◌}
use Rattle.std.proofs.lemmas.Bool.{false≢true}
use Rattle.monastr_c.specs.declared.request.FileLengths.{FileLengths}
use Rattle.monastr_c.proofs.Spelled.{names-back, names-on, no_name-at}
use Rattle.monastr_c.proofs.buffers.names_are_text.Goals as goal

abbrev none : FileLengths
none = record { name = 0; content = 0 }

pub returns-in-Err : goal.returns-in-Err
returns-in-Err c =
    let no_text = rw c.split.ensures.front at c.in-Err.ensures.cases.0 in
    (λ w. absurd (false≢true w), λ texts. absurd (no_name-at c.loop-file.rest.now c.args.lengths.now c.loop-file.file-index none c.loop-file-test.true no_text (c.loop-file.invariant.1 texts)))

pub loop-file-preserved : goal.loop-file-preserved
loop-file-preserved c =
    let files = c.args.lengths.now in
    let rest = c.loop-file.rest.now in
    let file = get_or files c.loop-file.file-index none in
    let text = rw c.split.ensures.front at c.in-Ok.ensures.cases.1 in
    let rest_is : c.split-in-loop-file.result.1.now ≡ drop file.content (drop file.name rest) =
    c.split-in-loop-file.ensures.back ∙ ap (drop file.content) c.split.ensures.back in (
      λ texts. c.loop-file.invariant.0 (names-on rest files c.loop-file.file-index none c.loop-file-test.true text (rw rest_is at texts)),
      λ all. rw rest_is (names-back rest files c.loop-file.file-index none c.loop-file-test.true (c.loop-file.invariant.1 all)),
    )
