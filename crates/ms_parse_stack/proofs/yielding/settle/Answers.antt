use Rattle.std.proofs.Common.{◌≤◌, ap, subst, map, arith}
use Rattle.ms_parse_stack.specs.inner.Frames.{filled}
use Rattle.ms_parse_stack.specs.inner.Opened.{frame_of}
use Rattle.ms_parse_stack.specs.inner.Settled.{plugged}
use Rattle.ms_parse_stack.proofs.Depths.{depth-part, depths}
use Rattle.ms_parse_stack.proofs.yielding.settle.Goals as goal

pub complete-requires : goal.complete-requires
complete-requires g c =
    let o = g.G.Grammar.machine.operators in
    let depth = g.G.Grammar.depth in
    let tree_of = g.G.Grammar.tree_of in
    let f = tree_of c.loop-frame.held.formula in
    let shallow = subst (λ x. depth (plugged (filled o) x f) ≤ 300) (ap (map (frame_of tree_of)) c.in-Some.ensures) c.loop-frame.invariant.1 in
    omega (arith, shallow, depth-part (depths o depth g.met.G.Grammar.deep.operators_deep) (map (frame_of tree_of) c.pop.new.self) (filled o (frame_of tree_of c.in-Some.frame) f))
