use Rattle.std.proofs.Common.{◌≡◌, List, [], ◌∷◌, ◌++◌, length, Option, MatchOption, Some, None, option_to_list, refl, rules, sym, ap, subst, ◌∙◌, arith}
use Rattle.ms_logic_core.specs.Calls.{filled}
use Rattle.std.proofs.lemmas.List.{map-append}
use Rattle.ms_logic_core.specs.CoreForm.{core_form_of, imported}
use Rattle.ms_dag.specs.declared.tasks.Task.{Task}
use Rattle.ms_dag.specs.inner.Tasks.{IsUnderWay, CallsBelow, Todo, above, each, share, todo_of, todo_of_each}
use Rattle.ms_dag.specs.inner.Scope.{IsInScope, forms_of}
use Rattle.ms_dag.specs.inner.Memo.{child_for}
use Rattle.ms_dag.specs.inner.Shared.{IsShared, IsSharedNow}
use Rattle.ms_dag.proofs.AboveLemmas.{snoc_same}
use Rattle.ms_dag.proofs.Growth.{Grown-none}
use Rattle.ms_dag.proofs.MemoLemmas.{AreCalled-kept, AreCalled-made, AreCalled-told}
use Rattle.ms_dag.proofs.Results.{if_ok, on_ok}
use Rattle.ms_dag.proofs.SharedRelations.{shared_import}
use Rattle.ms_dag.proofs.TaskLemmas.{ends, nodes_now, parts_shared, step_above, step_plan, step_plan_each, step_shared, task_fit, turns_left-done, turns_left-plan, turns_left-plan_each}
use Rattle.ms_dag.proofs.formulas.+share.Goals as goal

in_none : (result : Option Task) (P : Type 0) (Q : Task → Type 0) → MatchOption result P Q → ((task : Task) → result ≡ Some task → ⊥) → P
in_none None P Q holds never = holds
in_none (Some task) P Q holds never = absurd (never task refl)

no_items : (tasks : List Task) → length tasks ≡ 0 → tasks ≡ []
no_items [] long = refl
no_items (task ∷ tasks) long = absurd (omega (arith, long))

-- the list before its last task was taken
popped : (tasks left : List Task) (result : Option Task) (task : Task) (todo : Todo) → tasks ≡ left ++ option_to_list result → result ≡ Some task → todo_of task ≡ todo → todo_of_each tasks ≡ todo_of_each left ++ todo ∷ []
popped tasks left result task todo is some same =
    ap todo_of_each (is ∙ ap (λ one. left ++ option_to_list one) some) ∙ map-append todo_of left (task ∷ []) ∙ ap (λ one. todo_of_each left ++ one ∷ []) same

pub share_call-returns-then-is_import-clause-called : goal.share_call-returns-then-is_import-clause-called
share_call-returns-then-is_import-clause-called g t c =
    let calls = g.B.Bodies.calls c.args.source.now.bodies.now in
    on_ok c.share_import.result _ _ (λ child made. AreCalled-made calls _ _ _ _ _ child c.args.called.now c.requires.called made.made) c.share_import.ensures.made

pub share_call-returns-then-is_import-clause-shared : goal.share_call-returns-then-is_import-clause-shared
share_call-returns-then-is_import-clause-shared g t c =
    let orders = c.args.source.now.orders.now in
    let import = c.args.call.now.import in
    let variables = c.args.call.now.variables.now in
    let old = c.args.nodes.now.entries in
    let new = c.share_import.new.nodes.entries in
    if_ok c.share_import.result _ _
    (λ child made.
    subst (λ f. IsSharedNow orders old new f child) (sym (c.is_import.ensures.itself c.if-is_import.true variables)) (shared_import orders old new child c.requires.nodes import variables made))
    c.share_import.ensures.made

pub share_call-returns-in-Some-clause-shared : goal.share_call-returns-in-Some-clause-shared
share_call-returns-in-Some-clause-shared g t c =
    let child = c.in-Some.child in
    let met : child_for c.args.called.now (c.args.call.now.import ∷ c.args.call.now.variables.now) ≡ Some child = sym c.in_ok-child.ensures ∙ c.in-Some.is in
    record {
      grown = Grown-none c.args.nodes.now.entries (child ∷ []) c.requires.nodes;
      shared = c.requires.called c.args.call.now.import c.args.call.now.variables.now child met;
    }

pub share_call-returns-clause-called : goal.share_call-returns-clause-called
share_call-returns-clause-called g t c =
    let calls = g.B.Bodies.calls c.args.source.now.bodies.now in
    let orders = c.args.source.now.orders.now in
    let import = c.args.call.now.import in
    let variables = c.args.call.now.variables.now in
    let entries = c.share_core.new.nodes.entries in
    let made = c.in_ok-child-2 in
    let is : filled calls (core_form_of c.get.result.now) ≡ calls import variables = ap (λ core. filled calls (core_form_of core)) c.get.ensures ∙ c.in_ok-body.ensures.stands in
    AreCalled-told calls orders entries c.share_core.new.called c.note_child.new.called import variables made.child made.ensures.called c.in_ok-note_child.ensures
    (subst (λ f. IsShared orders entries f made.child) is made.ensures.shared.shared)

pub share_core-share_call-requires : goal.share_core-share_call-requires
share_core-share_call-requires g t c κs within =
    let calls = g.B.Bodies.calls c.args.source.now.bodies.now in
    let orders = c.args.source.now.orders.now in
    let old = c.args.nodes.now.entries in
    let goal_form = filled calls (core_form_of c.args.core.now) in
    let loop = c.loop-task in
    let mid = loop.nodes.entries in
    let all = todo_of_each loop.tasks.items in
    let left = todo_of_each c.pop.new.self.items in
    let f = core_form_of c.in-Share.core.now in
    let is = popped c.loop-task.tasks.items c.pop.new.self.items c.pop.result c.in-Some.task (share f) c.pop.ensures.items c.in-Some.is (ap todo_of c.in-Share.is) in
    let call = c.in-Some-call_of.call in
    let same : f ≡ imported call.import call.variables.now = c.in-Some-call_of.ensures in
    let fit = task_fit calls orders c.args.limit old goal_form mid all left loop.parts.items loop.invariant.under_way (share f) is in
    let scoped : IsInScope orders fit.0.0 (calls call.import call.variables.now) = subst (λ form. IsInScope orders fit.0.0 (filled calls form)) same fit.0.1 in
    let below : CallsBelow c.args.limit (imported call.import call.variables.now) = subst (CallsBelow c.args.limit) same fit.1 in
    let nodes = nodes_now calls orders c.args.limit old goal_form mid all loop.parts.items c.requires.nodes loop.invariant.under_way in
    (search (rules, c.decreases), (within, (c.requires.ready, (loop.invariant.keyed, (nodes, (loop.invariant.called, ((fit.0.0, scoped), below)))))))

pub share_core-loop-task-smaller-in-Continue-branch-3 : goal.share_core-loop-task-smaller-in-Continue-branch-3
share_core-loop-task-smaller-in-Continue-branch-3 g t c =
    let all = todo_of_each c.loop-task.tasks.items in
    let left = todo_of_each c.pop.new.self.items in
    let f = core_form_of c.in-Share.core.now in
    turns_left-done all left (share f) (popped c.loop-task.tasks.items c.pop.new.self.items c.pop.result c.in-Some.task (share f) c.pop.ensures.items c.in-Some.is (ap todo_of c.in-Share.is))

pub share_core-loop-task-preserved-in-Continue-branch-3 : goal.share_core-loop-task-preserved-in-Continue-branch-3
share_core-loop-task-preserved-in-Continue-branch-3 g t c =
    let calls = g.B.Bodies.calls c.args.source.now.bodies.now in
    let orders = c.args.source.now.orders.now in
    let old = c.args.nodes.now.entries in
    let goal_form = filled calls (core_form_of c.args.core.now) in
    let loop = c.loop-task in
    let mid = loop.nodes.entries in
    let all = todo_of_each loop.tasks.items in
    let left = todo_of_each c.pop.new.self.items in
    let f = core_form_of c.in-Share.core.now in
    let is = popped c.loop-task.tasks.items c.pop.new.self.items c.pop.result c.in-Some.task (share f) c.pop.ensures.items c.in-Some.is (ap todo_of c.in-Share.is) in
    let made = c.in_ok-child-in-Some-call_of in
    let new = c.share_call.new.nodes.entries in
    let shared : IsSharedNow orders mid new (filled calls f) made.child = subst (λ form. IsSharedNow orders mid new (filled calls form) made.child) (sym c.in-Some-call_of.ensures) made.ensures.shared in
    record {
      keyed = made.ensures.keyed;
      called = made.ensures.called;
      under_way = step_shared calls orders c.args.limit old goal_form mid all left loop.parts.items loop.invariant.under_way new f made.child c.put-in-Some-call_of.new.items.items is c.in_ok-put-in-Some-call_of.ensures shared;
    }

pub share_core-loop-task-smaller-in-Continue-branch-4 : goal.share_core-loop-task-smaller-in-Continue-branch-4
share_core-loop-task-smaller-in-Continue-branch-4 g t c =
    let all = todo_of_each c.loop-task.tasks.items in
    let left = todo_of_each c.pop.new.self.items in
    let f = core_form_of c.in-Share.core.now in
    turns_left-plan all (todo_of_each c.plan.new.tasks.items) left f (popped c.loop-task.tasks.items c.pop.new.self.items c.pop.result c.in-Some.task (share f) c.pop.ensures.items c.in-Some.is (ap todo_of c.in-Share.is)) c.in_ok-plan-in-None.ensures

pub share_core-loop-task-preserved-in-Continue-branch-4 : goal.share_core-loop-task-preserved-in-Continue-branch-4
share_core-loop-task-preserved-in-Continue-branch-4 g t c =
    let calls = g.B.Bodies.calls c.args.source.now.bodies.now in
    let orders = c.args.source.now.orders.now in
    let old = c.args.nodes.now.entries in
    let goal_form = filled calls (core_form_of c.args.core.now) in
    let loop = c.loop-task in
    let mid = loop.nodes.entries in
    let all = todo_of_each loop.tasks.items in
    let left = todo_of_each c.pop.new.self.items in
    let f = core_form_of c.in-Share.core.now in
    let is = popped c.loop-task.tasks.items c.pop.new.self.items c.pop.result c.in-Some.task (share f) c.pop.ensures.items c.in-Some.is (ap todo_of c.in-Share.is) in
    record {
      keyed = loop.invariant.keyed;
      called = loop.invariant.called;
      under_way = step_plan calls orders c.args.limit old goal_form mid all left loop.parts.items loop.invariant.under_way f (todo_of_each c.plan.new.tasks.items) is c.in_ok-plan-in-None.ensures c.in-None.ensures;
    }

pub share_core-loop-task-smaller-in-Continue-branch-5 : goal.share_core-loop-task-smaller-in-Continue-branch-5
share_core-loop-task-smaller-in-Continue-branch-5 g t c =
    let all = todo_of_each c.loop-task.tasks.items in
    let left = todo_of_each c.pop.new.self.items in
    let fs = forms_of c.in-Each.operands.now in
    turns_left-plan_each all (todo_of_each c.plan_each.new.tasks.items) left fs (popped c.loop-task.tasks.items c.pop.new.self.items c.pop.result c.in-Some.task (each fs) c.pop.ensures.items c.in-Some.is (ap todo_of c.in-Each.is)) c.in_ok-plan_each-in-Each.ensures

pub share_core-loop-task-preserved-in-Continue-branch-5 : goal.share_core-loop-task-preserved-in-Continue-branch-5
share_core-loop-task-preserved-in-Continue-branch-5 g t c =
    let calls = g.B.Bodies.calls c.args.source.now.bodies.now in
    let orders = c.args.source.now.orders.now in
    let old = c.args.nodes.now.entries in
    let goal_form = filled calls (core_form_of c.args.core.now) in
    let loop = c.loop-task in
    let mid = loop.nodes.entries in
    let all = todo_of_each loop.tasks.items in
    let left = todo_of_each c.pop.new.self.items in
    let fs = forms_of c.in-Each.operands.now in
    let is = popped c.loop-task.tasks.items c.pop.new.self.items c.pop.result c.in-Some.task (each fs) c.pop.ensures.items c.in-Some.is (ap todo_of c.in-Each.is) in
    record {
      keyed = loop.invariant.keyed;
      called = loop.invariant.called;
      under_way = step_plan_each calls orders c.args.limit old goal_form mid all left loop.parts.items loop.invariant.under_way fs (todo_of_each c.plan_each.new.tasks.items) is c.in_ok-plan_each-in-Each.ensures;
    }

pub share_core-share_above-requires-clause-nodes : goal.share_core-share_above-requires-clause-nodes
share_core-share_above-requires-clause-nodes g t c =
    let calls = g.B.Bodies.calls c.args.source.now.bodies.now in
    let loop = c.loop-task in
    nodes_now calls c.args.source.now.orders.now c.args.limit c.args.nodes.now.entries (filled calls (core_form_of c.args.core.now)) loop.nodes.entries (todo_of_each loop.tasks.items) loop.parts.items c.requires.nodes loop.invariant.under_way

pub share_core-share_above-requires-clause-other : goal.share_core-share_above-requires-clause-other
share_core-share_above-requires-clause-other g t c =
    let calls = g.B.Bodies.calls c.args.source.now.bodies.now in
    let orders = c.args.source.now.orders.now in
    let old = c.args.nodes.now.entries in
    let goal_form = filled calls (core_form_of c.args.core.now) in
    let loop = c.loop-task in
    let mid = loop.nodes.entries in
    let all = todo_of_each loop.tasks.items in
    let left = todo_of_each c.pop.new.self.items in
    let f = core_form_of c.in-Above.core.now in
    let is = popped c.loop-task.tasks.items c.pop.new.self.items c.pop.result c.in-Some.task (above f) c.pop.ensures.items c.in-Some.is (ap todo_of c.in-Above.is) in
    (task_fit calls orders c.args.limit old goal_form mid all left loop.parts.items loop.invariant.under_way (above f) is).1

pub share_core-share_above-requires-clause-scoped : goal.share_core-share_above-requires-clause-scoped
share_core-share_above-requires-clause-scoped g t c =
    let calls = g.B.Bodies.calls c.args.source.now.bodies.now in
    let orders = c.args.source.now.orders.now in
    let old = c.args.nodes.now.entries in
    let goal_form = filled calls (core_form_of c.args.core.now) in
    let loop = c.loop-task in
    let mid = loop.nodes.entries in
    let all = todo_of_each loop.tasks.items in
    let left = todo_of_each c.pop.new.self.items in
    let f = core_form_of c.in-Above.core.now in
    let is = popped c.loop-task.tasks.items c.pop.new.self.items c.pop.result c.in-Some.task (above f) c.pop.ensures.items c.in-Some.is (ap todo_of c.in-Above.is) in
    (task_fit calls orders c.args.limit old goal_form mid all left loop.parts.items loop.invariant.under_way (above f) is).0

pub share_core-share_above-requires-clause-shared : goal.share_core-share_above-requires-clause-shared
share_core-share_above-requires-clause-shared g t c =
    let calls = g.B.Bodies.calls c.args.source.now.bodies.now in
    let orders = c.args.source.now.orders.now in
    let old = c.args.nodes.now.entries in
    let goal_form = filled calls (core_form_of c.args.core.now) in
    let loop = c.loop-task in
    let mid = loop.nodes.entries in
    let all = todo_of_each loop.tasks.items in
    let left = todo_of_each c.pop.new.self.items in
    let f = core_form_of c.in-Above.core.now in
    let is = popped c.loop-task.tasks.items c.pop.new.self.items c.pop.result c.in-Some.task (above f) c.pop.ensures.items c.in-Some.is (ap todo_of c.in-Above.is) in
    parts_shared calls orders c.args.limit old goal_form mid all left loop.parts.items loop.invariant.under_way f is

pub share_core-loop-task-smaller : goal.share_core-loop-task-smaller
share_core-loop-task-smaller g t c =
    let all = todo_of_each c.loop-task.tasks.items in
    let left = todo_of_each c.pop.new.self.items in
    let f = core_form_of c.in-Above.core.now in
    turns_left-done all left (above f) (popped c.loop-task.tasks.items c.pop.new.self.items c.pop.result c.in-Some.task (above f) c.pop.ensures.items c.in-Some.is (ap todo_of c.in-Above.is))

pub share_core-loop-task-preserved : goal.share_core-loop-task-preserved
share_core-loop-task-preserved g t c =
    let calls = g.B.Bodies.calls c.args.source.now.bodies.now in
    let orders = c.args.source.now.orders.now in
    let old = c.args.nodes.now.entries in
    let goal_form = filled calls (core_form_of c.args.core.now) in
    let loop = c.loop-task in
    let mid = loop.nodes.entries in
    let all = todo_of_each loop.tasks.items in
    let left = todo_of_each c.pop.new.self.items in
    let f = core_form_of c.in-Above.core.now in
    let is = popped c.loop-task.tasks.items c.pop.new.self.items c.pop.result c.in-Some.task (above f) c.pop.ensures.items c.in-Some.is (ap todo_of c.in-Above.is) in
    let done = c.in_ok-share_above-in-Above.ensures in
    let new = c.share_above.new.nodes.entries in
    record {
      keyed = done.keyed;
      called = AreCalled-kept calls orders mid new loop.called done.kept loop.invariant.called;
      under_way = step_above calls orders c.args.limit old goal_form mid all left loop.parts.items loop.invariant.under_way f is new c.share_above.new.parts.items done.above;
    }

pub share_core-returns-clause-shared : goal.share_core-returns-clause-shared
share_core-returns-clause-shared g t c =
    let calls = g.B.Bodies.calls c.args.source.now.bodies.now in
    let orders = c.args.source.now.orders.now in
    let old = c.args.nodes.now.entries in
    let mid = c.loop-task.nodes.entries in
    let goal_form = filled calls (core_form_of c.args.core.now) in
    let parts = c.loop-task.parts.items in
    let none = in_none c.pop.result _ _ c.pop.ensures.cases c.in_default.not-Some in
    let zero : length c.loop-task.tasks.items ≡ 0 = omega (arith, none.0) in
    let now : IsUnderWay calls orders c.args.limit old mid goal_form [] parts = subst (λ list. IsUnderWay calls orders c.args.limit old mid goal_form (todo_of_each list) parts) (no_items c.loop-task.tasks.items zero) c.loop-task.invariant.under_way in
    let end = ends calls orders c.args.limit old goal_form mid parts now in
    let is : end.0 ≡ c.take_last.result = (snoc_same [] c.take_last.new.items.items end.0 c.take_last.result (sym end.1 ∙ c.take_last.ensures)).1 in
    subst (IsSharedNow orders old mid goal_form) is end.2
