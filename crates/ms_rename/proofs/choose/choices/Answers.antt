use Rattle.std.proofs.Common.{◌++◌, ◌∷◌, [], ap, ◌∙◌}
use Rattle.ms_rename.specs.inner.Choice.{choice_of}
use Rattle.ms_rename.proofs.ImageLemmas.{map-more}
use Rattle.ms_rename.proofs.choose.choices.Goals as goal

pub loop-number-preserved : goal.loop-number-preserved
loop-number-preserved c =
    c.in_ok-push.ensures.ok
    ∙ ap (λ end. c.loop-number.made ++ end ∷ []) c.choice.ensures
    ∙ map-more (choice_of c.args.ends.now) c.args.pairs.now c.loop-number.made c.loop-number.number c.get-bit.result c.loop-number.invariant c.get-bit.ensures
