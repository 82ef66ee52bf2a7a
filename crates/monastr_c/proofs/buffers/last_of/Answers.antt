use Rattle.std.proofs.Common.{◌≡◌, [], drop, ap, sym, ◌∙◌}
use Rattle.std.specs.Option.{option_copied}
use Rattle.std.proofs.lemmas.List.{drop_all}
use Rattle.ms_edge.specs.FilesInMemory.{held_after}
use Rattle.monastr_c.specs.declared.request.FileLengths.{FileLengths}
use Rattle.monastr_c.proofs.Spelled.{held-else, held-more, held-then}
use Rattle.monastr_c.proofs.buffers.last_of.Goals as goal
use Rattle.monastr_c.proofs.buffers.last_of.Goals.{then-eq, else-eq}

abbrev none : FileLengths
none = record { name = 0; content = 0 }

pub loop-file-preserved : goal.loop-file-preserved
loop-file-preserved c =
    let name = c.args.name.now in
    let its_name = c.split.result.0.now in
    let content = c.split-in-loop-file.result.0.now in
    let held = option_copied c.loop-file.held in
    let held_is : option_copied c.if-eq.held ≡ held_after name held (its_name, content) =
    elim c.if-eq.branch [
      | then-eq w ↦ ap option_copied w.held-is ∙ held-then name held its_name content (sym c.eq.ensures ∙ w.if-eq.true)
      | else-eq w ↦ ap option_copied w.held-is ∙ held-else name held its_name content (sym c.eq.ensures ∙ w.if-eq.false)
    ] in
    held-more name held (option_copied c.if-eq.held) _ c.loop-file.rest.now its_name content c.split.result.1.now c.split-in-loop-file.result.1.now
    c.args.lengths.now c.loop-file.file-index none c.loop-file-test.true
    c.split.ensures.front c.split.ensures.back c.split-in-loop-file.ensures.front c.split-in-loop-file.ensures.back
    held_is c.loop-file.invariant

pub returns : goal.returns
returns c =
    let ended : drop c.loop-file.file-index c.args.lengths.now ≡ [] = drop_all _ _ c.loop-file-test.false in
    rw ended at c.loop-file.invariant
