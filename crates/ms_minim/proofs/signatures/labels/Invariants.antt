use Rattle.ms_minim.specs.inner.Grouping.{AreLabels, IsLaterSeen, IsSeen}
use Rattle.ms_minim.specs.inner.Lead.{AreChosen}
use Rattle.ms_minim.proofs.signatures.labels.Given as goal

abbrev pub invariant-loop-place : goal.invariant-loop-place
invariant-loop-place l =
    IsSeen l.seen × IsLaterSeen l.initial.seen l.seen × AreLabels l.seen l.plan.automaton.now l.choice.classes.now l.choice.splitters.now l.due l.made l.place
    × AreChosen l.plan.automaton.now l.plan.places.now l.choice.classes.now l.choice.splitters.now l.seen.scratch.nodes l.tables
