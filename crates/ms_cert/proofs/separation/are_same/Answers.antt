use Rattle.std.proofs.Common.{◌≡◌, ◌<◌, Bool, true, false, not, List, ◌∷◌, [], ◌++◌, length, refl, slice_index_or, sym, ap, ◌∙◌, arith}
use Rattle.std.proofs.lemmas.Grind.{take_at_read}
use Rattle.std.specs.Cmp.Lexicographic.{pointwise, pointwise_decides}
use Rattle.ms_cert.proofs.separation.are_same.Goals as goal
use mathlib.Core.Bool.{beq}

from-beq : (one other : Bool) → beq one other ≡ true → one ≡ other
from-beq true true is = refl
from-beq true false is = sym is
from-beq false true is = is
from-beq false false is = refl

beq-own : (bit : Bool) → beq bit bit ≡ true
beq-own true = refl
beq-own false = refl

not-false : (test : Bool) → false ≡ not test → test ≡ true
not-false true is = refl
not-false false is = is

-- bits that are tested to be the same
same-bits : (xs ys : List Bool) → false ≡ not (pointwise beq xs ys) → xs ≡ ys
same-bits xs ys is = (pointwise_decides (λ a b. (from-beq a b, λ e. ap (beq a) (sym e) ∙ beq-own a)) xs ys).0 (not-false (pointwise beq xs ys) is)

pub loop-place-preserved : goal.loop-place-preserved
loop-place-preserved c =
    let letters = c.args.letters.now in
    let others = c.args.others.now in
    let place = c.loop-place.place in
    let one = c.index-letters-place.result in
    let other = c.index-others-place.result in
    let within : place < length letters = c.loop-place-test.true in
    let also : place < length others = omega (arith, within, c.if-letters-others.false) in
    let same : one ≡ other = sym c.slice.ensures ∙ same-bits c.slice.result.now c.slice-in-loop-place.result.now (sym c.if-ne.false ∙ c.ne.ensures) ∙ c.slice-in-loop-place.ensures in
    let item : slice_index_or letters place one ≡ slice_index_or others place other = sym c.index-letters-place.is ∙ same ∙ c.index-others-place.is in
    let so_far = c.loop-place.invariant in
    (take_at_read letters place one within).1 ∙ (λ i. so_far i ++ item i ∷ []) ∙ sym (take_at_read others place other also).1
