use Rattle.std.proofs.Common.{◌≡◌, ◌+◌, ◌-◌, ◌/◌, ◌%◌, ◌^◌, length, take, drop, List, ap, subst, arith}
use Rattle.ms_logic.specs.Tree.{Form}
use Rattle.ms_presburger.specs.declared.summand.Summand.{Summand}
use Rattle.ms_presburger.specs.Sets.{adds, half, some_set, sum_is}
use Rattle.ms_translation.specs.Made.{Gives}
use Rattle.ms_presburger.proofs.Halves.{halved, length-front, length-rest, more-than-one, rest-whole, sum-split}
use Rattle.ms_presburger.proofs.sums.+sum_is.Goals as goal

pub sum_is-left-requires : goal.sum_is-left-requires
sum_is-left-requires t c =
    let s = c.args.terms.now in
    let h = length s / 2 + length s % 2 in
    let few = halved c.args.levels (length s) c.requires.few (more-than-one (length s) c.is_empty.result c.if-is_empty.false c.is_empty.ensures c.if-terms-eq1.false) in
    (omega (arith, few.0), (omega (arith, few.1, length-front h s), omega (arith, few.0, c.requires.room)))

pub sum_is-right-requires : goal.sum_is-right-requires
sum_is-right-requires t c =
    let s = c.args.terms.now in
    let h = length s / 2 + length s % 2 in
    let few = halved c.args.levels (length s) c.requires.few (more-than-one (length s) c.is_empty.result c.if-is_empty.false c.is_empty.ensures c.if-terms-eq1.false) in
    (omega (arith, few.0), (omega (arith, ap (λ (l : List Summand). length l) (rest-whole h s), length-rest h (2 ^ (c.args.levels - 1)) s few.2), omega (arith, few.0, c.requires.room)))

pub returns : goal.returns
returns t c = λ limit fits.
    let s = c.args.terms.now in
    let y = c.args.y in
    let x = c.args.x in
    let h = length s / 2 + length s % 2 in
    let rest = take (length s - h) (drop h s) in
    let is : h ≡ half s = omega arith in
    let split = sum-split limit h s rest y x (more-than-one (length s) c.is_empty.result c.if-is_empty.false c.is_empty.ensures c.if-terms-eq1.false) fits is (rest-whole h s) in
    let n = split.0 in
    let P : Form → Type 0 = Gives c.some_set.result in
    subst P split.3
    (c.some_set.ensures (sum_is n (take h s) x (x + 2)) (some_set (x + 2) (sum_is n rest (x + 2) (x + 4)) (adds y x (x + 2) (x + 4))) (c.sum_is-left.ensures n split.1)
    (c.some_set-sum.ensures (sum_is n rest (x + 2) (x + 4)) (adds y x (x + 2) (x + 4)) (c.sum_is-right.ensures n split.2) c.adds.ensures))
