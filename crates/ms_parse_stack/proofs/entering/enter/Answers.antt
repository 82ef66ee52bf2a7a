use Rattle.std.proofs.Common.{◌∷◌, ap, sym, ◌∙◌, arith}
use Rattle.ms_parse_stack.specs.inner.Machine.{plugged, within}
use Rattle.ms_parse_stack.specs.inner.Opened.{frame_of}
use Rattle.ms_parse_stack.specs.inner.States.{stack_of}
use Rattle.ms_parse_stack.proofs.Depths.{depths, entered}
use Rattle.ms_parse_stack.proofs.entering.enter.Goals as goal

pub returns-then-not-deepen : goal.returns-then-not-deepen
returns-then-not-deepen g c f same small =
    let m = g.G.Grammar.machine in
    let d = g.met.G.Grammar.deep in
    let tree_of = g.G.Grammar.tree_of in
    let is = entered (depths m.operators g.G.Grammar.depth d.operators_deep) (frame_of tree_of) (frame_of tree_of c.args.frame) c.args.begun.now.frames f (m.completed m.wanted) c.args.begun.now.deepest d.wanted_deep same small in
    (tt, omega (arith, is, c.inside.ensures.measured, c.deepen.ensures.deep c.if-not-deepen.true))

pub returns : goal.returns
returns g c f same small =
    let m = g.G.Grammar.machine in
    let d = g.met.G.Grammar.deep in
    let tree_of = g.G.Grammar.tree_of in
    let is = entered (depths m.operators g.G.Grammar.depth d.operators_deep) (frame_of tree_of) (frame_of tree_of c.args.frame) c.args.begun.now.frames f (m.completed m.wanted) c.args.begun.now.deepest d.wanted_deep same small in
    let here = ap (stack_of g.G.Grammar) (c.in_ok-push.ensures ∙ ap (λ x. c.args.frame ∷ x) c.deepen.ensures.frames) in
    let made = ap (λ x. g.G.Grammar.depth (plugged m x (m.completed m.wanted))) here in
    let kept = c.deepen.ensures.fits c.if-not-deepen.false in (
      ap (λ x. within x m.wanted) (sym here),
      record { measured = omega (arith, is, made, c.inside.ensures.measured, kept.0); shallow = kept.1 },
    )
