use Rattle.std.proofs.Common.{◌+◌, length, arith}
use Rattle.ms_presburger.specs.Sets.{related, some_set, sum_is}
use Rattle.ms_presburger.proofs.sums.compared.Goals as goal

pub returns : goal.returns
returns c =
    let left = c.args.left.now in
    let right = c.args.right.now in
    let x = c.args.x in
    c.some_set.ensures (sum_is (length left) left x (x + 2)) (some_set (x + 2) (sum_is (length right) right (x + 2) (x + 4)) (related c.args.rel x (x + 2) (x + 4))) (c.sum_is-one.ensures (length left) (omega arith))
    (c.some_set-both.ensures (sum_is (length right) right (x + 2) (x + 4)) (related c.args.rel x (x + 2) (x + 4)) (c.sum_is-other.ensures (length right) (omega arith)) c.related.ensures)
