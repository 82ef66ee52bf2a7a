use Rattle.std.proofs.Common.{ap, sym, ◌∙◌, subst}
use Rattle.ms_parse_stack.specs.inner.Machine.{acts, least_before, put, settled}
use Rattle.ms_parse_stack.specs.inner.States.{ComesTo, stack_of}
use Rattle.ms_parse_stack.proofs.Steps.{settled_depth}
use Rattle.ms_parse_stack.proofs.following.follow.Goals as goal

pub put-requires : goal.put-requires
put-requires g c =
    let f = g.G.Grammar.tree_of c.args.operand.formula in
    let same = ap (λ n. settled g.G.Grammar.machine n (stack_of g.G.Grammar c.args.begun.now.frames) f) (sym c.least_before.ensures) ∙ c.in_ok-operand.ensures in
    record {
      measured = c.requires.measured ∙ settled_depth g.G.Grammar (least_before g.G.Grammar.machine c.args.sign) (stack_of g.G.Grammar c.args.begun.now.frames) f _ same;
      shallow = c.requires.shallow;
    }

pub returns : goal.returns
returns g c p held =
    let m = g.G.Grammar.machine in
    let f = g.G.Grammar.tree_of c.args.operand.formula in
    let frames = stack_of g.G.Grammar c.args.begun.now.frames in
    let least = least_before m c.args.sign in
    let same = ap (λ n. settled m n frames f) (sym c.least_before.ensures) ∙ c.in_ok-operand.ensures in
    subst (λ s. ComesTo g.G.Grammar s c.put.new.begun c.put.result) (sym (ap (acts m least (put m c.args.sign) frames) held ∙ ap (put m c.args.sign) same)) c.put.ensures
