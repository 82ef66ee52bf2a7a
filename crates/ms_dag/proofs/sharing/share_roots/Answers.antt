use Rattle.std.proofs.Common.{◌+◌, take, sym, subst}
use Rattle.ms_dag.specs.inner.Shared.{AreRootsNow}
use Rattle.ms_dag.proofs.RootSteps.{step_root}
use Rattle.ms_dag.proofs.sharing.share_roots.Goals as goal

pub loop-root-preserved : goal.loop-root-preserved
loop-root-preserved g c =
    let calls = g.B.Bodies.calls c.args.source.now.bodies.now in
    let orders = c.args.source.now.orders.now in
    let new = c.share_root.new.nodes.entries in
    let next = step_root calls orders c.loop-root.nodes.entries c.args.roots.now c.loop-root.root-index c.root-item.result c.loop-root.made c.loop-root-test.true c.root-item.is c.loop-root.invariant.2
    new c.in_ok-share_root.field-0 c.in_ok-share_root.ensures.shared in (
      c.in_ok-share_root.ensures.keyed,
      c.in_ok-share_root.ensures.called,
      subst (λ list. AreRootsNow calls orders new (take (c.loop-root.root-index + 1) c.args.roots.now) list) (sym c.in_ok-push.ensures.ok) next,
    )
