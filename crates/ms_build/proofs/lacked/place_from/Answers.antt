use Rattle.std.proofs.Common.{arith}
use Rattle.ms_dfa.specs.declared.track.Track.{Track}
use Rattle.ms_logic.specs.declared.mode.Order.TheVariants.{Zero}
use Rattle.ms_build.proofs.LackedLemmas.{AreBelow-next, IsNotBelow-past, IsNotBelow-there}
use Rattle.ms_build.proofs.lacked.place_from.Goals as goal

-- what is read where no track stands
abbrev no_track : Track
no_track = record { variable = 0; order = Zero }

pub loop-next-preserved : goal.loop-next-preserved
loop-next-preserved c = AreBelow-next c.args.tracks.now c.loop-next.next c.args.variable no_track c.loop-next-test.true c.if-tracks-next.true c.loop-next.invariant

pub returns-else-tracks-next-clause-before : goal.returns-else-tracks-next-clause-before
returns-else-tracks-next-clause-before c = c.loop-next.invariant

pub returns-else-tracks-next-clause-there : goal.returns-else-tracks-next-clause-there
returns-else-tracks-next-clause-there c =
    let reached = c.loop-next-test.true in
    let other = c.if-tracks-next.false in
    IsNotBelow-there c.args.tracks.now c.loop-next.next c.args.variable no_track reached (omega (arith, other))

pub returns-after-loop-next-clause-before : goal.returns-after-loop-next-clause-before
returns-after-loop-next-clause-before c = c.loop-next.invariant

pub returns-after-loop-next-clause-there : goal.returns-after-loop-next-clause-there
returns-after-loop-next-clause-there c =
    let past = c.loop-next-test.false in
    IsNotBelow-past c.args.tracks.now c.loop-next.next c.args.variable (omega (arith, past))
