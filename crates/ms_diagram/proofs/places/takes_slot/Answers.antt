use Rattle.std.proofs.Common.{◌-◌, arith}
use Rattle.ms_diagram.proofs.PlaceLemmas.{lookup-below, lookup-beyond}
use Rattle.ms_diagram.proofs.places.takes_slot.Goals as goal

pub returns-then-place-first-clause-without : goal.returns-then-place-first-clause-without
returns-then-place-first-clause-without c _ = lookup-below c.args.first c.args.slots.now c.args.place c.if-place-first.true

pub returns-else-at-slots-clause-without : goal.returns-else-at-slots-clause-without
returns-else-at-slots-clause-without c _ =
    lookup-beyond c.args.first c.args.slots.now c.args.place (c.args.place - c.args.first) (omega (arith, c.if-place-first.false)) c.if-at-slots.false
