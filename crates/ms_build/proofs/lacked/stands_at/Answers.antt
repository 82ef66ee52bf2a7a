use Rattle.std.proofs.Common.{arith}
use Rattle.ms_dfa.specs.declared.track.Track.{Track}
use Rattle.ms_logic.specs.declared.mode.Order.TheVariants.{Zero}
use Rattle.ms_build.proofs.LackedLemmas.{HasNumber-at, HasNumber-other, HasNumber-past}
use Rattle.ms_build.proofs.lacked.stands_at.Goals as goal

-- what is read where no track stands
abbrev no_track : Track
no_track = record { variable = 0; order = Zero }

pub returns-then-place-tracks-clause-stands : goal.returns-then-place-tracks-clause-stands
returns-then-place-tracks-clause-stands c = HasNumber-at c.args.tracks.now c.args.place c.args.variable no_track c.if-place-tracks.true

pub returns-then-place-tracks-clause-lacks : goal.returns-then-place-tracks-clause-lacks
returns-then-place-tracks-clause-lacks c other =
    HasNumber-other c.args.tracks.now c.args.place c.args.variable no_track c.if-place-tracks.true other c.requires.rising c.requires.before c.requires.there

pub returns-else-place-tracks-clause-lacks : goal.returns-else-place-tracks-clause-lacks
returns-else-place-tracks-clause-lacks c other =
    let past = c.if-place-tracks.false in
    HasNumber-past c.args.tracks.now c.args.place c.args.variable (omega (arith, past)) c.requires.rising c.requires.before
