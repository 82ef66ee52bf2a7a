use Rattle.std.proofs.Common.{◌∷◌, ap, sym, ◌∙◌, subst, arith}
use Rattle.ms_presburger.specs.Tree.{truth, depth, quantified}
use Rattle.ms_parse_stack.specs.inner.Frames.{behind_prefix}
use Rattle.ms_parse_stack.specs.inner.Machine.{begin, plugged, within}
use Rattle.ms_presburger_parse.specs.declared.operator.Prefix.TheVariants.{Quantifier}
use Rattle.ms_presburger_parse.specs.inner.Machine.{body, completed, machine, wanted}
use Rattle.ms_presburger_parse.specs.inner.States.{ComesTo, place_of, stack_of}
use Rattle.ms_presburger_parse.proofs.enter.open_body.Goals as goal

pub returns-in-Named : goal.returns-in-Named
returns-in-Named c =
    let frames = stack_of c.args.begun.now.frames in
    let q = c.in-Named.quant in
    let xs = c.in-Named.names in
    let deep = c.requires.measured ∙ ap (λ p. depth (plugged machine frames (completed (place_of p)))) c.in-Named.is in
    subst (λ p. ComesTo (begin machine frames (body (place_of p))) c.enter.new.begun c.placed.result) (sym c.in-Named.is)
    (c.placed.ensures (within (behind_prefix (Quantifier q xs) ∷ frames) wanted) c.enter.new.begun (c.enter.ensures (quantified q xs truth) deep (omega arith)))
