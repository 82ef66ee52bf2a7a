-- What a node lacks that is no import and no quantifier, by its form.
use Rattle.std.proofs.Common.{◌≡◌, ℕ, zero, suc, ⊎_elim, List, [], ◌∷◌, All, length, map, slice_get, Some, sym, ap, subst, ◌∙◌, arith}
use Rattle.std.specs.Option.{option_map}
use Rattle.std.proofs.lemmas.List.Elements.{All-head, All-tail}
use Rattle.std.proofs.lemmas.Option.{same_Some, slice_get_within}
use Rattle.ms_build.specs.Short.{FormLacks}
use Rattle.ms_build.specs.declared.plan.Many.TheVariants as many_of
use Rattle.ms_build.specs.declared.plan.Plan.{Plan}
use Rattle.ms_dag.specs.Dag.{HasOwnOrders, IsChild, children_of, orders_inside}
use Rattle.ms_dag.specs.Places.{AreBelow}
use Rattle.ms_dag.specs.declared.node.DagNode.{DagNode}
use Rattle.ms_dag.specs.declared.node.DagNode.TheVariants.{True, False, Basic, Not, And, Or, Implies, Iff, Restrict, Import, Bind}
use Rattle.ms_dag.specs.declared.node.Entry.{Entry}
use Rattle.ms_dag_steps.specs.NodeSteps.{HasItsSteps}
use Rattle.ms_dag_steps.specs.Occurrences.{whole_formula}
use Rattle.ms_dag_steps.proofs.StepLemmas.{nodes_have_their_steps}
use Rattle.std.specs.List.Sorted.{IsStrictlyIncreasing}
use Rattle.ms_logic.specs.Assignment.{Variable}
use Rattle.ms_logic.specs.Truth.{Import as Imported}
use Rattle.ms_logic.specs.declared.mode.Order.{Order}
use Rattle.ms_logic_core.specs.Calls.{Calls}
use Rattle.ms_logic_core.specs.CoreForm.{CoreForm}
use Rattle.ms_logic_core.specs.declared.core_formula.Lowered.{Lowered}
use Rattle.ms_logic_core.specs.declared.core_formula.Root.{Root}
use Rattle.ms_logic_measures.specs.Steps.{connective}
use Rattle.ms_product.specs.declared.op.Op.TheVariants as op_of
use Rattle.ms_build_steps.specs.Kinds.{IsBelowOwnStep}
use Rattle.ms_build_steps.specs.Laws.{IsPlanned, IsPlainForm, PlainNodesAreBelowTheirSteps}
use Rattle.ms_build_steps.proofs.StepKinds.{below_itself, itself_there}
use Rattle.ms_build_steps.proofs.Lists.{lists_are_within_budget}
use Rattle.ms_build_steps.proofs.Pairs.{connectives_are_within_budget}
use Rattle.ms_build_steps.proofs.Relations.{relations_are_below_their_steps}
use Rattle.ms_build_steps.proofs.SmallLimits.{small_limits_are_below_steps}

-- variables that have their orders are below the number of these
names_below : (orders : List Order) (count : ℕ) (vs : List Variable) → count ≡ length orders → All (λ (v : Variable). slice_get orders v.name ≡ Some v.order) vs → AreBelow count (map (λ (v : Variable). v.name) vs)
names_below orders count [] same own k d less = absurd (omega (arith, less))
names_below orders count (v ∷ vs) same own zero d less =
    let here = slice_get_within orders v.name v.order (All-head (λ (w : Variable). slice_get orders w.name ≡ Some w.order) v vs own) in omega (arith, here, same)
names_below orders count (v ∷ vs) same own (suc k) d less =
    names_below orders count vs same (All-tail (λ (w : Variable). slice_get orders w.name ≡ Some w.order) v vs own) k d (omega (arith, less))

module _ (imports : List Imported) (calls : Calls) (lowered : Lowered) (plan : Plan) (is : IsPlanned imports calls lowered plan) (number : ℕ) (root : Root) (is_root : slice_get lowered.roots number ≡ Some root) (f : CoreForm) (names : List ℕ)
    (i : ℕ) (orders : List Order) (rising : IsStrictlyIncreasing names) (long : length names ≡ length orders) where
  abbrev entries : List Entry
  entries = plan.dag.now.entries

  abbrev IsBelow : Type 0
  IsBelow = IsBelowOwnStep imports plan.mode f plan.limit

  by_form : (node : DagNode) → IsPlainForm node → HasItsSteps (whole_formula calls root) f entries names i node → All (IsChild entries i (orders_inside node orders)) (children_of node) → HasOwnOrders node orders
      → FormLacks plan orders node → IsBelow
  by_form True plain steps children own lacks = absurd lacks
  by_form False plain steps children own lacks = absurd lacks
  by_form (Basic b) plain steps children own lacks =
      relations_are_below_their_steps imports (whole_formula calls root) f plan orders names i b rising (names_below orders (length names) _ long own) steps lacks
  by_form (Not c) plain steps children own lacks = absurd lacks
  by_form (And cs) plain steps children own lacks = lists_are_within_budget imports calls lowered plan number root f names many_of.All cs i orders is is_root rising long steps children lacks
  by_form (Or cs) plain steps children own lacks = lists_are_within_budget imports calls lowered plan number root f names many_of.Any cs i orders is is_root rising long steps children lacks
  by_form (Implies c d) plain steps children own lacks =
      let first = All-head (IsChild entries i orders) c (d ∷ []) children in
      let second = All-head (IsChild entries i orders) d [] (All-tail (IsChild entries i orders) c (d ∷ []) children) in (
        connective steps.0 steps.1,
        steps.4,
        below_itself imports plan.mode plan.limit (connective steps.0 steps.1) itself_there
            (connectives_are_within_budget imports calls lowered plan number root names op_of.Implies c d steps.0 steps.1 i orders is is_root steps.2 steps.3 first second lacks),
      )
  by_form (Iff c d) plain steps children own lacks =
      let first = All-head (IsChild entries i orders) c (d ∷ []) children in
      let second = All-head (IsChild entries i orders) d [] (All-tail (IsChild entries i orders) c (d ∷ []) children) in (
        connective steps.0 steps.1,
        steps.4,
        below_itself imports plan.mode plan.limit (connective steps.0 steps.1) itself_there
            (connectives_are_within_budget imports calls lowered plan number root names op_of.Iff c d steps.0 steps.1 i orders is is_root steps.2 steps.3 first second lacks),
      )
  by_form (Restrict c) plain steps children own lacks = absurd lacks
  by_form (Import n xs) plain steps children own lacks = absurd plain
  by_form (Bind q o k d c) plain steps children own lacks = absurd plain

pub plain_nodes_are_below_their_steps : PlainNodesAreBelowTheirSteps
plain_nodes_are_below_their_steps imports calls lowered plan number root f names i entry is is_root held occurs plain lacks =
    let here : lacks.0 ≡ entry = same_Some lacks.0 entry (sym lacks.1 ∙ held) in
    ⊎_elim
    (λ small. small_limits_are_below_steps imports plan.mode f plan.limit small)
    (λ short.
    let node = is.graph.graph.nodes.nodes i entry held in
    let long : length names ≡ length entry.orders = same_Some _ _ (sym occurs.own ∙ ap (option_map length) (ap (option_map (λ (e : Entry). e.orders)) held)) in
    by_form imports calls lowered plan is number root is_root f names i entry.orders occurs.rising long entry.node plain
    (nodes_have_their_steps (whole_formula calls root) plan.dag.now.entries f names i entry is.graph.graph.nodes held occurs) node.children node.own
    (subst (λ (e : Entry). FormLacks plan e.orders e.node) here short))
    lacks.2
