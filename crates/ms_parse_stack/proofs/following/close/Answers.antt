use Rattle.std.proofs.Common.{◌∷◌, ap, ◌∙◌, arith}
use Rattle.ms_parse_stack.specs.inner.Machine.{plugged}
use Rattle.ms_parse_stack.specs.inner.States.{stack_of}
use Rattle.ms_parse_stack.proofs.Depths.{depth-part, depths}
use Rattle.ms_parse_stack.proofs.following.close.Goals as goal

pub complete_brackets-requires : goal.complete_brackets-requires
complete_brackets-requires g c =
    let m = g.G.Grammar.machine in
    let depth = g.G.Grammar.depth in
    let f = g.G.Grammar.tree_of c.args.operand.formula in
    let below = stack_of g.G.Grammar c.pop.new.self in
    let top = ap (stack_of g.G.Grammar) c.in-Some.ensures ∙ ap (λ x. x ∷ below) (c.is_brackets.ensures.0 c.if-not-is_brackets.false) in
    let whole = c.requires.measured ∙ ap (λ x. depth (plugged m x f)) top in
    omega (arith, whole, c.requires.shallow, depth-part (depths m.operators depth g.met.G.Grammar.deep.operators_deep) below (m.operators.brackets f))
