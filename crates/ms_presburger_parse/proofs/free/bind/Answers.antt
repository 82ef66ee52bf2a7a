use Rattle.std.proofs.Common.{◌+◌, take, ap, ◌∙◌, sym, arith}
use Rattle.ms_presburger_parse.specs.declared.free.Standing.{Standing}
use Rattle.ms_presburger_parse.specs.inner.Gathering.{bound_in, count_of}
use Rattle.ms_presburger_parse.proofs.Gatherings.{binds_next, count_of-here, count_of-most, count_of-other, count_of-within}
use Rattle.ms_presburger_parse.proofs.free.bind.Goals as goal

pub overflow_add-more : goal.overflow_add-more
overflow_add-more c =
    let names = c.args.names.now in
    let i = c.loop-name.name-index in
    let x = c.name-item.result in
    let bound = ap (λ (s : Standing). s.bound) c.standing_of-bound.ensures ∙ c.loop-name.invariant.bound x in
    omega (arith, bound, c.requires.room x, count_of-within names i x c.loop-name-test.true c.name-item.is, count_of-most names x)

pub loop-name-preserved : goal.loop-name-preserved
loop-name-preserved c =
    let g = c.args.gathered.now in
    let names = c.args.names.now in
    let i = c.loop-name.name-index in
    let x = c.name-item.result in
    let standing = c.standing_of-bound.result in
    let more : Standing = record { bound = standing.bound + 1; noted = standing.noted } in
    let bound = ap (λ (s : Standing). s.bound) c.standing_of-bound.ensures ∙ c.loop-name.invariant.bound x in
    binds_next g c.loop-name.gathered c.set_standing.new.gathered (λ y. bound_in g y + count_of (take i names) y) (λ y. bound_in g y + count_of (take (i + 1) names) y) x more c.loop-name.invariant (ap (λ (s : Standing). s.noted) c.standing_of-bound.ensures) c.in_ok-set_standing.ensures.ok
    c.in_ok-set_standing.ensures.names (omega (arith, bound, count_of-here names i x c.loop-name-test.true c.name-item.is))
    (λ y apart. ap (λ n. bound_in g y + n) (sym (count_of-other names i x y c.loop-name-test.true c.name-item.is apart)))
