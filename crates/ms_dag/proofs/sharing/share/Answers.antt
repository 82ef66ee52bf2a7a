use Rattle.std.proofs.Common.{List, sym, subst, ◌∙◌, All, arith}
use Rattle.ms_logic_core.specs.declared.core_formula.Root.{Root}
use Rattle.ms_logic.specs.declared.mode.Order.{Order}
use Rattle.ms_dag.specs.declared.node.Entry.{Entry}
use Rattle.ms_dag.specs.inner.Shared.{AreRootsNow}
use Rattle.ms_dag.specs.inner.Scope.{IsRootInScope}
use Rattle.ms_dag.proofs.ImportOrders.{imports_agree}
use Rattle.ms_dag.proofs.MemoLemmas.{AreCalled-none}
use Rattle.ms_dag.proofs.RootSteps.{graph_of}
use Rattle.ms_dag.proofs.StandsLemmas.{roots_in_scope}
use Rattle.ms_dag.proofs.sharing.share.Goals as goal

pub returns : goal.returns
returns g c =
    let calls = g.B.Bodies.calls c.args.bodies.now in
    let lowered = c.args.lowered.now in
    let roots = c.in_ok-roots.roots in
    let entries = c.into_entries-entries.result in
    let P : List Order → Type 0 = λ orders. AreRootsNow calls orders c.share_roots.new.nodes.entries c.slice.result.now roots in
    let Q : List Root → Type 0 = λ list. AreRootsNow calls lowered.orders c.share_roots.new.nodes.entries list roots in
    let R : List Entry → Type 0 = λ list. AreRootsNow calls lowered.orders list lowered.roots roots in
    let now : AreRootsNow calls lowered.orders entries lowered.roots roots = subst R (sym c.into_entries-entries.ensures) (subst Q c.slice.ensures (subst P c.slice-orders.ensures c.in_ok-roots.ensures)) in
    let agree = imports_agree c.requires.lowered.0 calls lowered.orders entries lowered.roots roots c.requires.lowered.1.roots now in
    let fits = c.can_be_numbered.ensures.0 c.if-not-can_be_numbered.false in
    record {
      graph = graph_of calls lowered.orders entries lowered.roots roots now agree (omega (arith, fits, c.len.ensures, c.len-2.ensures));
      roots = now.roots_of;
      orders_are = c.in_ok-orders.ensures ∙ c.slice-orders.ensures;
    }

pub share_roots-requires-clause-called : goal.share_roots-requires-clause-called
share_roots-requires-clause-called g c = AreCalled-none (g.B.Bodies.calls c.args.bodies.now) c.slice-orders.result.now _ c.new-called.result c.new-called.ensures

pub share_roots-requires-clause-scoped : goal.share_roots-requires-clause-scoped
share_roots-requires-clause-scoped g c =
    let calls = g.B.Bodies.calls c.args.bodies.now in
    let lowered = c.args.lowered.now in
    let all = roots_in_scope c.requires.lowered.0 lowered.orders calls lowered.roots c.requires.lowered.1.roots in
    let P : List Order → Type 0 = λ orders. All (IsRootInScope calls orders) lowered.roots in
    let Q : List Root → Type 0 = λ roots. All (IsRootInScope calls c.slice-orders.result.now) roots in
    subst Q (sym c.slice.ensures) (subst P (sym c.slice-orders.ensures) all)
