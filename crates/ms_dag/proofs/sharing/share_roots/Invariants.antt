use Rattle.std.proofs.Common.{take}
use Rattle.ms_dag.specs.inner.Keys.{IsKeyed}
use Rattle.ms_dag.specs.inner.Memo.{AreCalled}
use Rattle.ms_dag.specs.inner.Shared.{AreRootsNow}
use Rattle.ms_dag.proofs.sharing.share_roots.Given as goal

abbrev pub invariant-loop-root : goal.invariant-loop-root
invariant-loop-root g l =
    let calls = g.B.Bodies.calls l.source.bodies.now in
    let orders = l.source.orders.now in
    IsKeyed l.nodes × AreCalled calls orders l.nodes.entries l.called × AreRootsNow calls orders l.nodes.entries (take l.root-index l.roots) l.made
