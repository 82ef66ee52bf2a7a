-- The automaton of a child that occurs in a source is measured by the full content of the child's formula.
use Rattle.std.proofs.Common.{◌≡◌, ℕ, ◌+◌, Bool, IsTrue, List, [], ◌∷◌, length, map, slice_get, slice_index, slice_index_or, Option, Some, None, refl, sym, ap, subst, ◌∙◌, arith}
use Rattle.std.specs.List.Sorted.{IsStrictlyIncreasing}
use Rattle.std.specs.Option.{option_map}
use Rattle.std.proofs.lemmas.List.{length-map}
use Rattle.std.proofs.lemmas.Option.{none-some, same_Some, slice_get-map}
use Rattle.ms_arena.specs.Diagram.{IsOrdered}
use Rattle.ms_arena.specs.declared.node.Ref.{Ref}
use Rattle.ms_build.specs.Built.{IsLeastOf, entries_of, imports_for, node_meaning}
use Rattle.ms_build.specs.Short.{IsOperand}
use Rattle.ms_build.specs.declared.plan.Plan.{Plan}
use Rattle.ms_build.proofs.LawLemmas.{child_has_value}
use Rattle.ms_build.proofs.PlaceLemmas.{length-by_place}
use Rattle.ms_build.proofs.WholeLemmas.{rising-by_place}
use Rattle.ms_build_parts.specs.Laws.{IsMeasuredBy}
use Rattle.ms_build_parts.specs.SaySame.{SaySame}
use Rattle.ms_dag.specs.Dag.{IsChild}
use Rattle.ms_dag.specs.Laws.{HaveTheirOrders}
use Rattle.ms_dag.specs.Places.{picked}
use Rattle.ms_dag.specs.declared.node.Child.{Child}
use Rattle.ms_dag.specs.declared.node.Entry.{Entry}
use Rattle.ms_dag_steps.specs.NodeSteps.{ChildOccurs}
use Rattle.ms_dag_steps.specs.Occurrences.{Occurs, variables_named, whole_formula}
use Rattle.ms_dag_steps.proofs.OwnLemmas.{own_variables_are_free}
use Rattle.ms_dfa.specs.Values.{HasValues}
use Rattle.ms_logic.specs.Assignment.{Variable}
use Rattle.ms_logic.specs.Lists.{AreRising}
use Rattle.ms_logic.specs.Truth.{Import}
use Rattle.ms_logic.specs.declared.mode.Order.{Order}
use Rattle.ms_logic_core.specs.Calls.{Calls}
use Rattle.ms_logic_core.specs.CoreForm.{CoreForm}
use Rattle.ms_logic_core.specs.Operands.{variable}
use Rattle.ms_logic_core.specs.declared.core_formula.Lowered.{Lowered}
use Rattle.ms_logic_core.specs.declared.core_formula.Root.{Root}
use Rattle.ms_logic_measures.specs.Budgets.{IsOwnContent}
use Rattle.ms_logic_measures.specs.FullContent.{IsFullContent}
use Rattle.ms_logic_measures.specs.Steps.{free_variables}
use Rattle.ms_logic_starts.specs.ContentStarts.{HaveDistinctNumbers}
use Rattle.ms_logic_starts.proofs.RisingLemmas.{rising_distinct}
use Rattle.ms_logic_words.specs.Content.{Content, HasValueAt, IsClosed, IsFollowed, is_in_letters, is_truth_value, variables_by_place, variables_from}
use Rattle.ms_logic_words.specs.declared.sign.Sign.{Sign}
use Rattle.ms_rename.specs.Renamed.{HasPartsOf, renamed}
use Rattle.ms_rename.proofs.LeastLemmas.{parts_closed, renamed-orders}
use Rattle.ms_rename.proofs.OrderLemmas.{distinct-same, renamed-rising}
use Rattle.ms_build_steps.specs.Laws.{IsPlanned}
use Rattle.ms_build_steps.proofs.NodeSigns.{say_same}
use Rattle.ms_build_steps.proofs.Ordered.{ordered_in_root}
use Rattle.ms_build_steps.proofs.SameValues.{rising_behind}
use Rattle.ms_build_steps.proofs.Sides.{IsSide}
use Rattle.ms_build_steps.proofs.Through.{through}

-- variables under rising names rise
pub named_rising : (names : List ℕ) (os : List Order) → IsStrictlyIncreasing names → AreRising (variables_named names os)
named_rising [] os rising = tt
named_rising (x ∷ names) [] rising = tt
named_rising (x ∷ []) (o ∷ os) rising = (tt, tt)
named_rising (x ∷ y ∷ names) (o ∷ []) rising = (tt, tt)
named_rising (x ∷ y ∷ names) (o ∷ p ∷ os) rising = (rising 0 (omega arith), named_rising (y ∷ names) (p ∷ os) (rising_behind x (y ∷ names) rising))

-- variables by their places that are renamed, under names
renamed_through : (names places : List ℕ) (os : List Order) (base : ℕ) → length places ≡ length os → through names (renamed places (variables_from base os)) ≡ variables_named (picked names places) os
renamed_through names [] [] base long = refl
renamed_through names [] (o ∷ os) base long = absurd (omega (arith, long))
renamed_through names (p ∷ places) [] base long = absurd (omega (arith, long))
renamed_through names (p ∷ places) (o ∷ os) base long = ap (λ (vs : List Variable). variable (slice_index names p) o ∷ vs) (renamed_through names places os (base + 1) (omega (arith, long)))

-- a child of the formula of a root, whose variables have these names there
module _ (imports : List Import) (calls : Calls) (lowered : Lowered) (plan : Plan) (is : IsPlanned imports calls lowered plan) (number : ℕ) (root : Root) (is_root : slice_get lowered.roots number ≡ Some root) (own_names : List ℕ)
    (child : Child) (f : CoreForm) (at : Occurs (whole_formula calls root) plan.dag.now.entries f own_names child.node) (map_rises : IsStrictlyIncreasing child.map) (same_long : length child.map ≡ length own_names)
    (one : Content Sign) (operand : IsOperand plan child one) where
  abbrev entry : Entry
  entry = operand.is_least.0

  abbrev least : Content Sign
  least = operand.least

  abbrev least_is : IsLeastOf plan.mode (variables_by_place entry.orders) (node_meaning (imports_for plan) (entries_of plan) child.node) least
  least_is = operand.is_least.2

  long : length own_names ≡ length entry.orders
  long = same_Some _ _ (sym at.own ∙ ap (option_map length) (ap (option_map (λ (e : Entry). e.orders)) operand.is_least.1))

  free_named : free_variables imports f ≡ variables_named own_names entry.orders
  free_named = own_variables_are_free imports calls lowered plan.dag.now number root f own_names child.node entry is.lowered_is is.graph is_root operand.is_least.1 at

  map_long : length child.map ≡ length least.variables
  map_long =
      let own = long in
      let placed = ap length least_is.variables_are ∙ length-by_place 0 entry.orders in
      omega (arith, same_long, own, placed)

  pub variables_are : one.variables ≡ renamed child.map least.variables
  variables_are = operand.variables ∙ distinct-same (renamed child.map least.variables) (renamed-rising child.map least.variables map_rises)

  pub orders_are : map (λ (v : Variable). v.order) one.variables ≡ map (λ (v : Variable). v.order) least.variables
  orders_are = ap (λ vs. map (λ (v : Variable). v.order) vs) variables_are ∙ renamed-orders child.map least.variables map_long

  -- the automaton of the child's node is measured by the full content of the formula
  module _ (content : Content Sign) (full_own : IsOwnContent imports plan.mode f content) where
    full : IsFullContent imports plan.mode (variables_named own_names entry.orders) f content
    full = subst (λ vs. IsFullContent imports plan.mode vs f content) free_named full_own

    have : HaveTheirOrders imports lowered.orders f
    have = ordered_in_root imports calls lowered is.lowered_is number root is_root f at.subformula

    same : SaySame least content
    same = say_same imports plan.mode f entry.orders own_names long at.rising least content (node_meaning imports (entries_of plan) child.node) least_is.mode_is least_is.variables_are
        (subst (λ us. HasValues (node_meaning us (entries_of plan) child.node) least) is.imports_are least_is.values) full
        (λ e sign means. (child_has_value imports (entries_of plan) lowered.orders f (record { node = child.node; map = own_names }) e sign have at.unfolds).0 means)

    measured : IsMeasuredBy least content
    measured = record {
      ordered = subst IsOrdered operand.parts.nodes operand.automaton.ordered;
      closed = parts_closed one least operand.parts orders_are operand.automaton.closed;
      own = rising_distinct least.variables (subst AreRising (sym least_is.variables_are) (rising-by_place 0 entry.orders));
      reached = least_is.reached;
      differ = least_is.differ;
      is_canonical = full.canonical;
      distinct = subst HaveDistinctNumbers (sym full.same_variables) (rising_distinct (variables_named own_names entry.orders) (named_rising own_names entry.orders at.rising));
      same = same;
    }

    pub named_side : IsSide one content
    named_side = record { least = least; rising = operand.automaton.rising; parts = operand.parts; orders = orders_are; measured = measured }

-- a child of a node that occurs there
module _ (imports : List Import) (calls : Calls) (lowered : Lowered) (plan : Plan) (is : IsPlanned imports calls lowered plan) (number : ℕ) (root : Root) (is_root : slice_get lowered.roots number ≡ Some root) (names : List ℕ)
    (child : Child) (f : CoreForm) (at : ChildOccurs (whole_formula calls root) plan.dag.now.entries names f child) (i : ℕ) (outer : List Order) (is_child : IsChild plan.dag.now.entries i outer child)
    (one : Content Sign) (operand : IsOperand plan child one) where
  abbrev places_long : length child.map ≡ length (picked names child.map)
  places_long = sym (length-map child.map (slice_index names))

  pub child_orders : map (λ (v : Variable). v.order) one.variables ≡ map (λ (v : Variable). v.order) operand.least.variables
  child_orders = orders_are imports calls lowered plan is number root is_root (picked names child.map) child f at is_child.rising places_long one operand

  -- the free variables of its formula are its own, under the names
  pub child_free : free_variables imports f ≡ through names one.variables
  child_free =
      let own = variables_are imports calls lowered plan is number root is_root (picked names child.map) child f at is_child.rising places_long one operand in
      let named = free_named imports calls lowered plan is number root is_root (picked names child.map) child f at is_child.rising places_long one operand in
      let orders = operand.is_least.0.orders in
      let count = long imports calls lowered plan is number root is_root (picked names child.map) child f at is_child.rising places_long one operand in
      let same_count = places_long in
      named ∙ sym (renamed_through names child.map orders 0 (omega (arith, count, same_count)))
      ∙ ap (λ vs. through names (renamed child.map vs)) (sym operand.is_least.2.variables_are) ∙ ap (through names) (sym own)

  pub side : (content : Content Sign) → IsOwnContent imports plan.mode f content → IsSide one content
  side content full_own = named_side imports calls lowered plan is number root is_root (picked names child.map) child f at is_child.rising places_long one operand content full_own
