use Rattle.std.proofs.Common.{◌++◌, ◌∷◌, [], get_or, sym, ap, ap₂, ◌∙◌, arith}
use Rattle.ms_lower.specs.Bodies.{one_named}
use Rattle.ms_lower.proofs.NamedParams.{named_all, named_more}
use Rattle.ms_lower.proofs.bodies.named_at.Goals as goal

pub loop-i-preserved : goal.loop-i-preserved
loop-i-preserved c =
    let ps = c.args.params.now in
    let ys = c.args.variables.now in
    let least = c.min-i-end.ensures in
    c.in_ok-push.ensures.ok
    ∙ (ap₂ (λ l n. l ++ n ∷ []) c.loop-i.invariant (c.one_named.ensures ∙ ap (λ p. one_named c.args.globals p (get_or ys c.loop-i.i 0)) c.index-params-i.is)
    ∙ sym (named_more c.args.globals ps ys c.loop-i.i _ (omega (arith, c.loop-i-test.true, least)) (omega (arith, c.loop-i-test.true, least))))

pub returns : goal.returns
returns c =
    let least = c.min-i-end.ensures in
    c.loop-i.invariant ∙ named_all c.args.globals c.args.params.now c.args.variables.now c.loop-i.i (omega (arith, c.loop-i.auto.i-end, c.loop-i-test.false, least))
