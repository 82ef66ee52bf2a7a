use Rattle.std.proofs.Common.{ℕ, List, ◌∷◌, ◌++◌, [], sym, ap, ◌∙◌}
use Rattle.ms_quotient.specs.declared.marks.Marks.{Marks}
use Rattle.ms_quotient.specs.Closure.{no_marks}
use Rattle.ms_quotient.specs.Way.{union_along}
use Rattle.ms_project.proofs.ListSteps.{map-take_more}
use Rattle.ms_project.proofs.marks.marks_of_sets.Goals as goal

pub loop-number-preserved : goal.loop-number-preserved
loop-number-preserved c =
    let marks = c.args.marks.now in
    let set = c.get.result.now in
    c.in_ok-push.ensures.ok
    ∙ ap (λ (met : Marks). c.loop-number.made ++ met ∷ []) c.marks_of_set-met.ensures
    ∙ ap (λ (made : List Marks). made ++ union_along marks set no_marks ∷ []) c.loop-number.invariant
    ∙ sym (map-take_more (λ (s : List ℕ). union_along marks s no_marks) c.args.sets.now c.loop-number.number set c.get.ensures.set)
