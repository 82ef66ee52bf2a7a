use Rattle.std.proofs.Common.{inl, IfOk, map, length, sym, ap, subst, ◌∙◌, arith}
use Rattle.std.specs.Option.{option_map}
use Rattle.std.proofs.lemmas.Option.{slice_get-map, slice_get_within}
use Rattle.ms_dag.specs.declared.node.Child.{Child}
use Rattle.ms_build.specs.Built.{entries_of, roots_of}
use Rattle.std.specs.List.Sorted.{IsStrictlyIncreasing}
use Rattle.ms_build.specs.Roots.{AreRootVariables, IsOverRoot, IsReadInSource, named}
use Rattle.ms_build.specs.Short.{ChildLacks, RootLacks}
use Rattle.ms_build.proofs.RefusalLemmas.{refused_more}
use Rattle.ms_logic.proofs.Items.{contains_at}
use Rattle.ms_build.proofs.RootLemmas.{root_at, root_made}
use Rattle.ms_build.proofs.built.Built.root.Goals as goal

pub over_variables-requires-clause-read : goal.over_variables-requires-clause-read
over_variables-requires-clause-read c =
    let plan = c.args.self.now.plan in
    let root = root_at plan.dag.now.roots c.args.r c.root-child.result.now c.variables-variables.result.now c.root-child.ensures c.variables-variables.ensures in
    subst (IsReadInSource (entries_of plan) plan.dag.now.orders) root.2 (c.requires.read c.args.r root.0 root.1).0

pub over_variables-requires-clause-there : goal.over_variables-requires-clause-there
over_variables-requires-clause-there c =
    let plan = c.args.self.now.plan in
    let root = root_at plan.dag.now.roots c.args.r c.root-child.result.now c.variables-variables.result.now c.root-child.ensures c.variables-variables.ensures in
    let read = subst (IsReadInSource (entries_of plan) plan.dag.now.orders) root.2 (c.requires.read c.args.r root.0 root.1).0 in
    let less = slice_get_within (entries_of plan) c.root-child.result.now.node read.0 read.1 in
    let all = c.requires.all in
    let same = ap length c.slice.ensures in (
      omega (arith, less, all, same),
      inl (contains_at (map (λ (c : Child). c.node) (roots_of plan)) c.args.r c.root-child.result.now.node
          (slice_get-map (λ (c : Child). c.node) (roots_of plan) c.args.r ∙ ap (option_map (λ (c : Child). c.node)) c.root-child.ensures)),
    )

pub over_variables-requires-clause-variables : goal.over_variables-requires-clause-variables
over_variables-requires-clause-variables c =
    let plan = c.args.self.now.plan in
    let root = root_at plan.dag.now.roots c.args.r c.root-child.result.now c.variables-variables.result.now c.root-child.ensures c.variables-variables.ensures in
    subst (λ variables. AreRootVariables c.root-child.result.now variables) root.3
    (subst (λ child. AreRootVariables child root.0.variables) root.2 (c.requires.read c.args.r root.0 root.1).1)

pub returns-clause-root : goal.returns-clause-root
returns-clause-root c =
    let plan = c.args.self.now.plan in
    let root = root_at plan.dag.now.roots c.args.r c.root-child.result.now c.variables-variables.result.now c.root-child.ensures c.variables-variables.ensures in
    let is = c.over_variables.ensures in
    root_made plan c.args.r root.0 root.1 c.over_variables.result
    (subst (λ variables. IfOk c.over_variables.result (IsOverRoot plan root.0.child variables)) (sym root.3)
    (subst (λ child. IfOk c.over_variables.result (IsOverRoot plan child c.variables-variables.result.now)) (sym root.2) is.root)) is.least

pub over_variables-requires-clause-rising : goal.over_variables-requires-clause-rising
over_variables-requires-clause-rising c =
    let plan = c.args.self.now.plan in
    let root = root_at plan.dag.now.roots c.args.r c.root-child.result.now c.variables-variables.result.now c.root-child.ensures c.variables-variables.ensures in
    subst (λ (child : Child). IsStrictlyIncreasing child.map) root.2 (c.requires.read c.args.r root.0 root.1).2

pub returns-clause-nodes : goal.returns-clause-nodes
returns-clause-nodes c =
    let plan = c.args.self.now.plan in
    let root = root_at plan.dag.now.roots c.args.r c.root-child.result.now c.variables-variables.result.now c.root-child.ensures c.variables-variables.ensures in
    refused_more (λ refused. ChildLacks plan c.root-child.result.now (named plan.dag.now.orders c.variables-variables.result.now)) (λ refused. RootLacks plan c.args.r) c.over_variables.result
    (λ refused short. (
      root.0,
      root.1,
      subst (λ variables. ChildLacks plan root.0.child (named plan.dag.now.orders variables)) (sym root.3)
          (subst (λ child. ChildLacks plan child (named plan.dag.now.orders c.variables-variables.result.now)) (sym root.2) short),
    ))
    c.over_variables.ensures.nodes
