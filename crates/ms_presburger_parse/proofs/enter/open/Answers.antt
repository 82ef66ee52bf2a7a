use Rattle.std.proofs.Common.{◌∷◌, ap, sym, ◌∙◌, subst, arith}
use Rattle.ms_presburger.specs.Tree.{truth, depth}
use Rattle.ms_parse_stack.specs.inner.Machine.{begin, plugged, within}
use Rattle.ms_presburger_parse.specs.inner.Machine.{completed, machine, opening, wanted}
use Rattle.ms_presburger_parse.specs.inner.States.{ComesTo, frame_of, place_of, stack_of}
use Rattle.ms_presburger_parse.proofs.enter.open.Goals as goal

pub returns-in-Wanted : goal.returns-in-Wanted
returns-in-Wanted c =
    let frames = stack_of c.args.begun.now.frames in
    let frame = frame_of c.args.frame in
    let deep = c.requires.measured ∙ ap (λ p. depth (plugged machine frames (completed (place_of p)))) c.in-Wanted.is in
    subst (λ p. ComesTo (begin machine frames (opening frame (place_of p))) c.enter.new.begun c.placed.result) (sym c.in-Wanted.is)
    (c.placed.ensures (within (frame ∷ frames) wanted) c.enter.new.begun (c.enter.ensures truth deep (omega arith)))
