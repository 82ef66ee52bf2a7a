-- A quantifier that occurs in a source lacks nodes only below each budget of a kind of its step: that of its body's widening, or that of
-- the quantifier itself.
use Rattle.std.proofs.Common.{◌≡◌, ℕ, ◌<◌, ⊎_elim, All, List, [], ◌∷◌, ◌++◌, length, slice_get, Option, Some, sym, ap, subst, ◌∙◌, arith}
use Rattle.std.specs.Option.{option_map}
use Rattle.std.specs.List.Sorted.{IsStrictlyIncreasing}
use Rattle.std.proofs.lemmas.List.{get_or_push, length_push}
use Rattle.std.proofs.lemmas.Option.{same_Some}
use Rattle.ms_arena.proofs.Lists.{slice_get-push}
use Rattle.ms_build.specs.Short.{ChildLacks, ProjectionLacks, QuantifierLacks}
use Rattle.ms_build.specs.declared.plan.Plan.{Plan}
use Rattle.ms_dag.specs.Dag.{HasOwnOrders, IsChild, children_of_binder}
use Rattle.ms_dag.specs.declared.node.Child.{Child}
use Rattle.ms_dag.specs.declared.node.DagNode.{DagNode}
use Rattle.ms_dag.specs.declared.node.DagNode.TheVariants as nodes
use Rattle.ms_dag.specs.declared.node.Entry.{Entry}
use Rattle.ms_dag.proofs.BinderLemmas.{rising_push}
use Rattle.ms_dag_steps.specs.Occurrences.{Occurs, variables_named, whole_formula}
use Rattle.ms_dag_steps.proofs.OwnLemmas.{own_variables_are_free}
use Rattle.ms_diagram.proofs.ListLemmas.{Contains-first, Contains-rest}
use Rattle.ms_logic.specs.Truth.{Import}
use Rattle.ms_logic.specs.declared.mode.Order.{Order}
use Rattle.ms_logic.specs.declared.mode.Quant.{Quant}
use Rattle.ms_logic_core.specs.Calls.{Calls}
use Rattle.ms_logic_core.specs.CoreForm.{CoreForm, quantified}
use Rattle.ms_logic_core.specs.Operands.{variable}
use Rattle.ms_logic_core.specs.declared.core_formula.Lowered.{Lowered}
use Rattle.ms_logic_core.specs.declared.core_formula.Root.{Root}
use Rattle.ms_logic_measures.specs.Budgets.{IsBindingMeasure, IsWideningMeasure, budget, variables_inside}
use Rattle.ms_logic_measures.specs.Steps.{binding}
use Rattle.ms_logic_words.specs.Content.{variables_by_place}
use Rattle.ms_build_steps.specs.Kinds.{IsBelowOwnStep, itself, widening}
use Rattle.ms_build_steps.specs.Laws.{IsPlanned, QuantifiersAreBelowTheirSteps, VariablesInsideAreOwnAndBound}
use Rattle.ms_build_steps.proofs.Binders.{IsBoundBy, bound_by, bound_children}
use Rattle.ms_build_steps.proofs.Inside.{inside_are}
use Rattle.ms_build_steps.proofs.Ordered.{ordered_in_root}
use Rattle.ms_build_steps.proofs.Projections.{projections_are_below}
use Rattle.ms_build_steps.proofs.Widenings.{body_of, widenings_are_within_budget}

pub variables_inside_are_own_and_bound : VariablesInsideAreOwnAndBound
variables_inside_are_own_and_bound imports mode calls lowered dag number root q o x r body names i entry is_lowered is is_root held occurs =
    inside_are imports mode lowered.orders q o x r body (ordered_in_root imports calls lowered is_lowered number root is_root (quantified q o x r body) occurs.subformula) names entry.orders
    (same_Some _ _ (sym occurs.own ∙ ap (option_map length) (ap (option_map (λ (e : Entry). e.orders)) held))) occurs.rising occurs.unfolds.3
    (own_variables_are_free imports calls lowered dag number root (quantified q o x r body) names i entry is_lowered is is_root held occurs)

module _ (imports : List Import) (calls : Calls) (lowered : Lowered) (plan : Plan) (is : IsPlanned imports calls lowered plan) (number : ℕ) (root : Root) (is_root : slice_get lowered.roots number ≡ Some root) (f : CoreForm) (names : List ℕ)
    (i : ℕ) (entry : Entry) (held : slice_get plan.dag.now.entries i ≡ Some entry) (q : Quant) (o : Order) (k : ℕ) (d : Option Child) (c : Child) (is_bind : entry.node ≡ nodes.Bind q o k d c)
    (occurs : Occurs (whole_formula calls root) plan.dag.now.entries f names i) where
  abbrev entries : List Entry
  entries = plan.dag.now.entries

  abbrev outer : List Order
  outer = entry.orders ++ o ∷ []

  bound : IsBoundBy (whole_formula calls root) entries names i f q o d c
  bound = bound_by (whole_formula calls root) entries names i entry held is.graph.graph.nodes q o k d c is_bind f occurs

  children : All (IsChild entries i outer) (children_of_binder d c)
  children = bound_children (whole_formula calls root) entries names i entry held is.graph.graph.nodes q o k d c is_bind

  module _ (b : IsBoundBy (whole_formula calls root) entries names i f q o d c) where
    abbrev inner : List ℕ
    inner = names ++ b.x ∷ []

    as_long : length names ≡ length entry.orders
    as_long = same_Some _ _ (sym occurs.own ∙ ap (option_map length) (ap (option_map (λ (e : Entry). e.orders)) held))

    long : length inner ≡ length outer
    long =
        let same = as_long in
        let one_more = length_push names b.x in
        let orders_more = length_push entry.orders o in
        omega (arith, same, one_more, orders_more)

    rising : IsStrictlyIncreasing inner
    rising = rising_push names b.x occurs.rising b.above

    own : k ≡ length entry.orders
    own = subst (λ (n : DagNode). HasOwnOrders n entry.orders) is_bind (is.graph.graph.nodes.nodes i entry held).own

    inside : variables_inside imports plan.mode (variable b.x o) b.r b.body ≡ variables_named inner outer
    inside = variables_inside_are_own_and_bound imports plan.mode calls lowered plan.dag.now number root q o b.x b.r b.body names i entry is.lowered_is is.graph is_root held
        (subst (λ g. Occurs (whole_formula calls root) entries g names i) b.is occurs)

    body_below : ChildLacks plan c (variables_by_place outer) → (m n : ℕ) → IsWideningMeasure imports plan.mode b.body (variables_inside imports plan.mode (variable b.x o) b.r b.body) m n → plan.limit < budget m n
    body_below lacks m n measure =
        widenings_are_within_budget imports calls lowered plan number root inner c b.body i outer is is_root rising long b.body_occurs (body_of (IsChild entries i outer) d c children) lacks m n
        (subst (λ vs. IsWideningMeasure imports plan.mode b.body vs m n) inside measure)

    projection_below : ProjectionLacks plan entry.orders (record { name = k; order = o }) d c → (m n : ℕ) → IsBindingMeasure imports plan.mode (variable b.x o) b.r b.body m n → plan.limit < budget m n
    projection_below lacks =
        projections_are_below imports calls lowered plan is number root is_root inner c b.body b.body_occurs i outer (body_of (IsChild entries i outer) d c children) b.reads rising long
        lacks.whole lacks.automaton lacks.is_least lacks.is_whole k b.x o (ap (slice_get outer) own ∙ slice_get-push entry.orders o)
        (let same = as_long in let is_own = own in get_or_push names b.x 0 k (omega (arith, same, is_own))) b.r d lacks.range inside b.restriction_occurs children lacks.is_range lacks.short

  pub quantifier_below : QuantifierLacks plan entry.orders (record { name = k; order = o }) d c → IsBelowOwnStep imports plan.mode f plan.limit
  quantifier_below lacks = (
    binding (variable bound.x o) bound.r bound.body,
    bound.step,
    ⊎_elim
        (λ body. record { kind = widening; has = Contains-first widening (itself ∷ []); below = λ files m r measure. body_below bound body m r measure })
        (λ projection. record { kind = itself; has = Contains-rest widening (itself ∷ []) itself (Contains-first itself []); below = λ files m r measure. projection_below bound projection m r measure })
        lacks,
  )

pub quantifiers_are_below_their_steps : QuantifiersAreBelowTheirSteps
quantifiers_are_below_their_steps imports calls lowered plan number root f names i entry q o k d c is is_root held is_bind occurs lacks =
    quantifier_below imports calls lowered plan is number root is_root f names i entry held q o k d c is_bind occurs lacks
