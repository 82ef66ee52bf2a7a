use Rattle.std.proofs.Common.{◌*◌, ◌+◌}
use Rattle.ms_logic_core.specs.CoreForm.{core_form_of}
use Rattle.ms_logic_core.specs.Calls.{filled}
use Rattle.ms_dag.specs.inner.Keys.{IsKeyed}
use Rattle.ms_dag.specs.inner.Memo.{AreCalled}
use Rattle.ms_dag.specs.inner.Tasks.{IsUnderWay, todo_of_each, turns_left}
use Rattle.ms_dag.proofs.formulas.+share.Given as goal

abbrev pub decreases-share_core : goal.decreases-share_core
decreases-share_core g l = 2 * l.limit + 1

abbrev pub decreases-share_call : goal.decreases-share_call
decreases-share_call g l = 2 * l.limit

abbrev pub decreases-share_core-loop-task : goal.decreases-share_core-loop-task
decreases-share_core-loop-task g l = turns_left (todo_of_each l.tasks.items)

abbrev pub invariant-share_core-loop-task : goal.invariant-share_core-loop-task
invariant-share_core-loop-task g l =
    let calls = g.B.Bodies.calls l.source.bodies.now in
    let orders = l.source.orders.now in
    record {
      keyed : IsKeyed l.nodes;
      called : AreCalled calls orders l.nodes.entries l.called;
      under_way : IsUnderWay calls orders l.limit l.fn.nodes.entries l.nodes.entries (filled calls (core_form_of l.core)) (todo_of_each l.tasks.items) l.parts.items;
    }
