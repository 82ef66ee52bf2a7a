use Rattle.std.proofs.Common.{◌<◌, length, refl, sym, arith, add-one, ◌∙◌}
use Rattle.std.proofs.lemmas.Option.{slice_get_read}
use Rattle.ms_app.proofs.GlobalLemmas.{same_at, same_up_to_all, same_up_to_more}
use Rattle.ms_app.proofs.same_globals.are_same_globals.Goals as goal

pub returns-then-not-is_same_global : goal.returns-then-not-is_same_global
returns-then-not-is_same_global c =
    let left = c.args.left.now in
    let right = c.args.right.now in
    let place = c.loop-place.place in
    let in_left : place < length left = omega arith in
    let in_right : place < length right = omega (arith, c.if-left-right.false) in
    let at_left = slice_get_read left _ place c.index-left-place.result refl in_left c.index-left-place.is in
    let at_right = slice_get_read right _ place c.index-right-place.result refl in_right c.index-right-place.is in (
      λ yes. let never : ⊥ = cc in absurd never,
      λ same. sym c.if-not-is_same_global.true ∙ c.is_same_global.ensures.1 (same_at place left right c.index-left-place.result c.index-right-place.result at_left at_right same),
    )

pub loop-place-preserved : goal.loop-place-preserved
loop-place-preserved c =
    let left = c.args.left.now in
    let right = c.args.right.now in
    let place = c.loop-place.place in
    let in_left : place < length left = omega arith in
    let in_right : place < length right = omega (arith, c.if-left-right.false) in
    let at_left = slice_get_read left _ place c.index-left-place.result refl in_left c.index-left-place.is in
    let at_right = slice_get_read right _ place c.index-right-place.result refl in_right c.index-right-place.is in
    let same = c.is_same_global.ensures.0 c.if-not-is_same_global.false in
    rw (add-one) (same_up_to_more place left right c.index-left-place.result c.index-right-place.result at_left at_right same c.loop-place.invariant)

pub returns : goal.returns
returns c =
    (λ yes. same_up_to_all c.loop-place.place c.args.left.now c.args.right.now (omega arith) (omega (arith, c.if-left-right.false)) c.loop-place.invariant, λ same. refl)
