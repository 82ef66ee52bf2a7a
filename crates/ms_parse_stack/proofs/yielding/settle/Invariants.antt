use Rattle.std.proofs.Common.{◌≡◌, ◌≤◌, map, length}
use Rattle.ms_parse_stack.specs.inner.Frames.{filled, yields}
use Rattle.ms_parse_stack.specs.inner.Opened.{frame_of}
use Rattle.ms_parse_stack.specs.inner.Settled.{plugged, settled}
use Rattle.ms_parse_stack.proofs.yielding.settle.Given as goal

-- what is left to complete gives what the whole gives
abbrev pub invariant-loop-frame : goal.invariant-loop-frame
invariant-loop-frame g l =
    let o = g.G.Grammar.machine.operators in
    let tree_of = g.G.Grammar.tree_of in
    (settled (filled o) (yields o l.least) (map (frame_of tree_of) l.initial.stack) (tree_of l.initial.held.formula) ≡ settled (filled o) (yields o l.least) (map (frame_of tree_of) l.stack) (tree_of l.held.formula))
    × (g.G.Grammar.depth (plugged (filled o) (map (frame_of tree_of) l.stack) (tree_of l.held.formula)) ≤ 300)

abbrev pub decreases-loop-frame : goal.decreases-loop-frame
decreases-loop-frame g l = length l.stack
