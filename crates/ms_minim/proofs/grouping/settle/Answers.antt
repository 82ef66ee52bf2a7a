use Rattle.std.proofs.Common.{◌<◌, length, slice_index, refl, ◌∙◌, arith}
use Rattle.std.proofs.lemmas.Option.{slice_get-get_or}
use Rattle.ms_minim.proofs.GroupingLemmas.{IsMoved-more}
use Rattle.ms_minim.proofs.grouping.settle.Goals as goal

pub settle_state-requires-clause-state : goal.settle_state-requires-clause-state
settle_state-requires-clause-state c =
    let less = c.requires.due c.get-state.result.0 (record { place = c.loop-place.place; pair = c.get-state.result; there = c.get-state.ensures; own = refl }) in
    let count = c.loop-place.invariant.0.count in
    omega (arith, less, count)

pub settle_state-requires-clause-label : goal.settle_state-requires-clause-label
settle_state-requires-clause-label c =
    let within : c.loop-place.place < length c.args.labels.now = let less = c.loop-place-test.true in let end = c.len-place-end.ensures.len in let labels = c.requires.labels in omega (arith, less, end, labels) in
    let less = c.requires.within c.loop-place.place (slice_index c.args.labels.now c.loop-place.place) (slice_get-get_or c.args.labels.now c.loop-place.place 0 within) in
    let count = c.loop-place.invariant.1 in
    omega (arith, less, count)

pub loop-place-preserved : goal.loop-place-preserved
loop-place-preserved c =
    let within : c.loop-place.place < length c.args.labels.now = let less = c.loop-place-test.true in let end = c.len-place-end.ensures.len in let labels = c.requires.labels in omega (arith, less, end, labels) in
    let less = c.requires.due c.get-state.result.0 (record { place = c.loop-place.place; pair = c.get-state.result; there = c.get-state.ensures; own = refl }) in
    let now = c.in_ok-settle_state.ensures in (
      IsMoved-more c.args.groups.now.classes.items c.loop-place.groups.classes.items c.settle_state.new.groups.classes.items c.loop-place.groups.members.items c.settle_state.new.groups.members.items
          c.args.due.now c.args.labels.now c.loop-place.place c.loop-place.invariant.0 c.get-state.result (slice_index c.args.labels.now c.loop-place.place) c.get-state.ensures
          (slice_get-get_or c.args.labels.now c.loop-place.place 0 within) now.count now.own now.others now.listed,
      now.members ∙ c.loop-place.invariant.1,
      λ were. now.below (length c.args.groups.now.classes.items) less (c.loop-place.invariant.2 were),
    )
