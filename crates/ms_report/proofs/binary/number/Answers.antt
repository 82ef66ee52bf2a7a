use Rattle.std.proofs.Common.{◌^◌, arith, slice_index_or}
use Rattle.std.proofs.lemmas.List.Sums.{sum_by_more, sum_by_more_le}
use Rattle.std.proofs.lemmas.Nat.{one_shl}
use Rattle.ms_report.proofs.Decimals.{small-place}
use Rattle.ms_report.proofs.binary.number.Goals as goal

pub overflow_shl-number : goal.overflow_shl-number
overflow_shl-number c = small-place c.args.set.now c.loop-place.place-index c.loop-place-test.true c.requires

pub overflow_add-number : goal.overflow_add-number
overflow_add-number c =
    let p = slice_index_or c.args.set.now c.loop-place.place-index 0 in
    let small = small-place c.args.set.now c.loop-place.place-index c.loop-place-test.true c.requires in
    omega (arith, one_shl p 128 small, c.loop-place.invariant, sum_by_more_le (λ i. 2 ^ i) c.args.set.now c.loop-place.place-index 0 c.loop-place-test.true, c.requires)

pub loop-place-preserved : goal.loop-place-preserved
loop-place-preserved c =
    let p = slice_index_or c.args.set.now c.loop-place.place-index 0 in
    let small = small-place c.args.set.now c.loop-place.place-index c.loop-place-test.true c.requires in
    omega (arith, one_shl p 128 small, c.loop-place.invariant, sum_by_more (λ i. 2 ^ i) c.args.set.now c.loop-place.place-index 0 c.loop-place-test.true)
