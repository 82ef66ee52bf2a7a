use Rattle.std.proofs.Common.{[], ◌∷◌, ◌++◌, ap, ◌∙◌}
use Rattle.ms_dag.proofs.Results.{only_ok}
use Rattle.ms_dag.proofs.above.share_above.Goals as goal

pub returns-clause-above : goal.returns-clause-above
returns-clause-above g c =
    let child = c.in_ok-child.child in
    only_ok c.put.result _ _
    (λ is. record {
      step = λ before others own split are.
          let made = c.in_ok-child.ensures.above.step before others own split are in
          (child, is ∙ ap (λ list. list ++ child ∷ []) made.0, made.1);
    })
    c.put.ensures
