use Rattle.std.proofs.Common.{true, false, ◌∙◌}
use Rattle.ms_logic.specs.declared.mode.Order.TheVariants.{Zero}
use Rattle.ms_dfa.specs.declared.track.Track.{Track}
use Rattle.ms_dfafile_adopt.proofs.ListLemmas.{zeros_more}
use Rattle.ms_dfafile_adopt.proofs.changes.zeros.Goals as goal
use Rattle.ms_dfafile_adopt.proofs.changes.zeros.Goals.{then-is_in+in_ok-push, else-is_in}

abbrev any_track : Track
any_track = record { variable = 0; order = Zero }

pub loop-track-preserved : goal.loop-track-preserved
loop-track-preserved c =
    let more = zeros_more c.args.tracks.now c.loop-track.track-index any_track c.loop-track.made c.loop-track-test.true c.loop-track.invariant in
    elim c.if-is_in.branch [
      | then-is_in+in_ok-push w ↦ w.made-is ∙ w.in_ok-push.ensures.ok ∙ more true w.if-is_in.ensures
      | else-is_in w ↦ w.made-is ∙ more false w.if-is_in.ensures
    ]
