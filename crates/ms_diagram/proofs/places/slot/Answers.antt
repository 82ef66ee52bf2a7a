use Rattle.std.proofs.Common.{◌-◌, sym, arith}
use Rattle.ms_diagram.proofs.PlaceLemmas.{lookup-below, lookup-slot, lookup-beyond}
use Rattle.ms_diagram.proofs.places.slot.Goals as goal

pub returns-then-place-first : goal.returns-then-place-first
returns-then-place-first c = sym (lookup-below c.args.first c.args.slots.now c.args.place c.if-place-first.true)

pub returns-then-at-slots : goal.returns-then-at-slots
returns-then-at-slots c = sym (lookup-slot c.args.first c.args.slots.now c.args.place (c.args.place - c.args.first) (omega (arith, c.if-place-first.false)))

pub returns-else-at-slots : goal.returns-else-at-slots
returns-else-at-slots c =
    sym (lookup-beyond c.args.first c.args.slots.now c.args.place (c.args.place - c.args.first) (omega (arith, c.if-place-first.false)) c.if-at-slots.false)
