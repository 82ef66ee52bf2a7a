use Rattle.std.proofs.Common.{◌+◌, arith, ◌∙◌, ap}
use Rattle.ms_logic.specs.declared.mode.Order.TheVariants.{Zero}
use Rattle.ms_dfa.specs.declared.track.Track.{Track}
use Rattle.ms_dfa.specs.Part.{has_value}
use Rattle.ms_dfa.proofs.Ranks.{count_of-more}
use Rattle.try_signs.proofs.words.count_in.Goals as goal
use Rattle.try_signs.proofs.words.count_in.Goals.{then-is_in, else-is_in}

any_track : Track
any_track = record { variable = 0; order = Zero }

pub loop-track-preserved : goal.loop-track-preserved
unfolding any_track
loop-track-preserved c =
    let more = count_of-more (has_value c.args.part) c.args.tracks.now c.loop-track.track-index any_track c.loop-track-test.true in
    elim c.if-is_in.branch [
      | then-is_in w ↦ (w.count-is ∙ rw more (rw (← w.if-is_in.ensures) (ap (λ count. count + 1) c.loop-track.invariant.0)), omega arith)
      | else-is_in w ↦ (w.count-is ∙ rw more (rw (← w.if-is_in.ensures) c.loop-track.invariant.0), omega arith)
    ]
