use Rattle.std.proofs.Common.{◌≡◌, ◌∷◌, ◌++◌, [], sym, ap, ◌∙◌}
use Rattle.ms_product.specs.Widened.{sign_in}
use Rattle.ms_product.proofs.WidenedLemmas.{sign_in-is}
use Rattle.ms_project.specs.Marks.{marks_of}
use Rattle.ms_project.specs.Paired.{marks_of_pair}
use Rattle.ms_project.proofs.ListSteps.{map-take_more}
use Rattle.ms_project.proofs.marks.marks_of_pairs.Goals as goal

pub loop-number-preserved : goal.loop-number-preserved
loop-number-preserved c =
    let body = c.args.body.now in
    let domain = c.args.domain.now in
    let pair = c.get-left.result in
    let marks_is : c.marks_of-marks.result ≡ marks_of_pair body domain pair =
    c.marks_of-marks.ensures
    ∙ ap (λ s. marks_of s c.sign-in-loop-number.result) (sym (sign_in-is body pair.0 c.sign.result c.sign.ensures))
    ∙ ap (marks_of (sign_in body pair.0)) (sym (sign_in-is domain pair.1 c.sign-in-loop-number.result c.sign-in-loop-number.ensures)) in
    c.in_ok-push.ensures.ok
    ∙ ap (λ marks. c.loop-number.made ++ marks ∷ []) marks_is
    ∙ ap (λ made. made ++ marks_of_pair body domain pair ∷ []) c.loop-number.invariant
    ∙ sym (map-take_more (marks_of_pair body domain) c.args.pairs.now c.loop-number.number pair c.get-left.ensures)
