-- What has been made of a node by its form has the value of the node, over the node's own variables.
use Rattle.std.proofs.Common.{◌≡◌, ℕ, ◌<◌, ◌≤◌, inl, inr, ⊎_elim, Result, Ok, Err, IfOk, OnOk, List, [], ◌∷◌, ◌++◌, ◌+◌, All, Contains, length, length-append, map, slice_get, Some, None, Option, refl, sym, ap, subst, ◌∙◌, arith, ◌⊎◌}
use Rattle.std.specs.Option.{option_map}
use Rattle.std.proofs.lemmas.Option.{none-some, same_Some, slice_get_within, slice_get-map, get_or_from_slice_get}
use Rattle.std.proofs.lemmas.List.Elements.{Contains-append_cases, Contains-append_left, Contains-append_right}
use Rattle.ms_arena.proofs.Lists.{slice_get-pushed}
use Rattle.ms_basic.specs.Operands.{HaveOneOrder}
use Rattle.ms_basic.proofs.DistinctLemmas.{among-distinct, distinct-among}
use Rattle.ms_dag.specs.declared.node.Child.{Child}
use Rattle.ms_dag.specs.declared.node.DagNode.{DagNode}
use Rattle.ms_dag.specs.declared.node.DagNode.TheVariants.{True, False, Basic, Not, And, Or, Implies, Iff, Restrict, Import, Bind}
use Rattle.ms_dag.specs.declared.node.Entry.{Entry}
use Rattle.ms_dag.specs.Dag.{AreNodes, HasOwnOrders, IsChild, IsNode, children_of, orders_inside, places_in_maps, places_of}
use Rattle.ms_dag.specs.Laws.{ChildrenComeFirst}
use Rattle.ms_dag.specs.Values.{IsMetBy, NoAt, NodeNo, NodeYes, Verdict, YesAt}
use Rattle.ms_dfa.specs.Automaton.{IsAutomaton}
use Rattle.ms_list.specs.declared.fault.StepFault.{StepFault}
use Rattle.ms_dfa_explore.specs.Tracks.{distinct}
use Rattle.ms_logic.specs.Lists.{IsAmong}
use Rattle.ms_dfa_explore.proofs.AmongLemmas.{among_at, held_among}
use Rattle.ms_dfa_explore.proofs.TracksLemmas.{distinct-rising}
use Rattle.ms_logic_core.specs.declared.core_formula.Basic.{Basic as Relation}
use Rattle.ms_logic.specs.declared.mode.Mode.{Mode}
use Rattle.ms_logic.specs.declared.mode.Order.{Order}
use Rattle.ms_logic.specs.declared.mode.Quant.{Quant}
use Rattle.ms_logic.specs.declared.mode.Quant.TheVariants as quant
use Rattle.ms_logic_words.specs.declared.sign.Sign.{Sign}
use Rattle.ms_logic.specs.Assignment.{Env, Variable}
use Rattle.ms_logic_words.specs.Content.{Content, variables_by_place}
use Rattle.ms_logic_core.specs.CoreForm.{Holds, answer_over}
use Rattle.ms_logic_core.specs.Operands.{variables_of_basic}
use Rattle.ms_logic.specs.Truth.{Import as Imported, answer_yes, answer_no}
use Rattle.ms_product.specs.declared.op.Op.TheVariants as Op
use Rattle.ms_project.specs.Quantified.{QuantifiedYes, QuantifiedNo}
use Rattle.ms_build.specs.Connectives.{NoOf, YesOf}
use Rattle.ms_build.specs.declared.plan.Many.TheVariants as Many
use Rattle.ms_logic_words.specs.Residual.{AreReached, HasFewestStates, HaveDifferentResiduals, HaveEqualSigns, IsLeast}
use Rattle.ms_project.proofs.AlwaysLemmas.{sign_moves}
use Rattle.ms_rename.proofs.RenamedLemmas.{HasValues-same}
use Rattle.ms_dfa.specs.Values.{Meaning, meaning_by}
use Rattle.ms_build.specs.declared.nodes.Binder.{Binder}
use Rattle.ms_build.specs.declared.plan.Plan.{Plan}
use Rattle.ms_build.specs.Built.{AreBuiltFor, AreReadable, IsThere, IsUsedFrom, ChildNo, ChildYes, IsBinderOf, IsBuiltAt, IsDomainRead, IsLeastOf, IsMadeOf, IsOver, IsReadAt, ManyNo, ManyYes, child_meaning, entries_of, import_meaning, imports_for, many_meaning, node_meaning, pair_meaning, roots_of, IsWithin, relation_meaning}
use Rattle.ms_build.proofs.ChildLemmas.{same_variable}
use Rattle.ms_build.proofs.MeaningLemmas.{HasValues-to}
use Rattle.ms_build.proofs.NodeLemmas.{node_from_children}
use Rattle.ms_build.proofs.PlaceLemmas.{among-own, contains_place, own-among}
use Rattle.ms_logic.proofs.Items.{contains_at}
use Rattle.ms_build.proofs.WholeLemmas.{IsOver-part, rising-by_place, rising_equal}
use Rattle.std.specs.List.Sorted.{IsStrictlyIncreasing}

-- a fact of each item of a list holds of an item at a place
pub all_at : {X : Type 0} (P : X → Type 0) (xs : List X) → All P xs → (place : ℕ) (x : X) → slice_get xs place ≡ Some x → P x
all_at P xs all place x held = subst P (get_or_from_slice_get xs place x x held) (all place x (slice_get_within xs place x held))

all_among : (P : Variable → Type 0) (vs : List Variable) → All P vs → (v : Variable) → IsAmong vs v → P v
all_among P vs all v among = let at = held_among vs v among in all_at P vs all at.0 v at.1

-- the children of a node are read at its variables
pub read_child : (entries : List Entry) (i : ℕ) (orders : List Order) (children : List Child) → All (IsChild entries i orders) children → (place : ℕ) (child : Child) → slice_get children place ≡ Some child
    → (child.node < i) × IsReadAt entries orders child
read_child entries i orders children all place child held =
    let is = all_at (IsChild entries i orders) children all place child held in
    (is.part.smaller, is.ordered)

-- a child of the next node has its automaton
pub child_there : (plan : Plan) (count : ℕ) (entry : Entry) → slice_get (entries_of plan) count ≡ Some entry → IsNode (entries_of plan) count entry → (node : DagNode) → entry.node ≡ node
    → (place : ℕ) (child : Child) → slice_get (children_of node) place ≡ Some child → IsThere plan count child.node
child_there plan count entry held is node same place child at =
    let children = subst (λ n. All (IsChild (entries_of plan) count (orders_inside n entry.orders)) (children_of n)) same is.children in (
      (read_child (entries_of plan) count (orders_inside node entry.orders) (children_of node) children place child at).0,
      inr (
        count,
        entry,
        omega arith,
        held,
        subst (λ n. Contains (map (λ (c : Child). c.node) (children_of n)) child.node) (sym same)
            (contains_at (map (λ (c : Child). c.node) (children_of node)) place child.node (slice_get-map (λ (c : Child). c.node) (children_of node) place ∙ ap (option_map (λ (c : Child). c.node)) at)),
      ),
    )

-- the map of a child of the next node rises
pub child_rises : (plan : Plan) (count : ℕ) (entry : Entry) → IsNode (entries_of plan) count entry → (node : DagNode) → entry.node ≡ node → (place : ℕ) (child : Child) → slice_get (children_of node) place ≡ Some child
    → IsStrictlyIncreasing child.map
child_rises plan count entry is node same place child at =
    let children = subst (λ n. All (IsChild (entries_of plan) count (orders_inside n entry.orders)) (children_of n)) same is.children in
    (all_at (IsChild (entries_of plan) count (orders_inside node entry.orders)) (children_of node) children place child at).rising

-- and so do those of all
pub each_rises : (entries : List Entry) (i : ℕ) (orders : List Order) (children : List Child) → All (IsChild entries i orders) children → All (λ child. IsStrictlyIncreasing child.map) children
each_rises entries i orders children all place d within = (all place d within).rising

-- the children of a quantifier have theirs
module _ (plan : Plan) (count : ℕ) (entry : Entry) (held : slice_get (entries_of plan) count ≡ Some entry) (is : IsNode (entries_of plan) count entry) (q : Quant) (o : Order) (k : ℕ) (body : Child) where
  read_inside : (d : Option Child) → entry.node ≡ Bind q o k d body → (place : ℕ) (child : Child) → slice_get (children_of (Bind q o k d body)) place ≡ Some child
      → IsThere plan count child.node × IsReadAt (entries_of plan) (entry.orders ++ o ∷ []) child × IsStrictlyIncreasing child.map
  read_inside d same place child at = (
    child_there plan count entry held is (Bind q o k d body) same place child at,
    (read_child (entries_of plan) count (entry.orders ++ o ∷ []) (children_of (Bind q o k d body))
        (subst (λ n. All (IsChild (entries_of plan) count (orders_inside n entry.orders)) (children_of n)) same is.children) place child at).1,
    child_rises plan count entry is (Bind q o k d body) same place child at,
  )

  in_binder : (d : Option Child) → entry.node ≡ Bind q o k d body
      → (IsThere plan count body.node × IsReadAt (entries_of plan) (entry.orders ++ o ∷ []) body × IsStrictlyIncreasing body.map) × IsDomainRead plan (entry.orders ++ o ∷ []) count d
  in_binder None same = (read_inside None same 0 body refl, tt)
  in_binder (Some domain) same = (read_inside (Some domain) same 1 body refl, read_inside (Some domain) same 0 domain refl)

pub binder_read : (plan : Plan) (count : ℕ) (entry : Entry) → slice_get (entries_of plan) count ≡ Some entry → IsNode (entries_of plan) count entry → (q : Quant) (binder : Binder) (orders : List Order) → orders ≡ entry.orders
    → entry.node ≡ Bind q binder.quantifier.track.order binder.quantifier.track.variable binder.domain.now binder.body.now → IsBinderOf plan orders count binder
binder_read plan count entry held is q binder orders orders_are same =
    let o = binder.quantifier.track.order in
    let k = binder.quantifier.track.variable in
    let both = in_binder plan count entry held is q o k binder.body.now binder.domain.now same in
    subst (λ list. IsBinderOf plan list count binder) (sym orders_are)
    (record {
      bound = subst (λ n. HasOwnOrders n entry.orders) same is.own;
      body = both.0.0;
      read = both.0.1;
      rising = both.0.2;
      domain = both.1;
    })

pub readable : (plan : Plan) (built : List (Content Sign)) (orders : List Order) (children : List Child)
    → ((place : ℕ) (child : Child) → slice_get children place ≡ Some child → IsThere plan (length built) child.node)
    → All (IsChild (entries_of plan) (length built) orders) children → AreReadable plan built children
readable plan built orders children there all = (
  there,
  (orders, λ place child held. (read_child (entries_of plan) (length built) orders children all place child held).1),
)

-- the children of each node come first
pub children_first : (entries : List Entry) → AreNodes entries → ChildrenComeFirst entries
children_first entries are i node at = by (slice_get entries i) refl at
  where
    by : (found : Option Entry) → slice_get entries i ≡ found → option_map (λ e. e.node) found ≡ Some node → All (λ c. c.node < i) (children_of node)
    by None same held = absurd (none-some node held)
    by (Some entry) same held =
        subst (λ n. All (λ c. c.node < i) (children_of n)) (same_Some entry.node node held) (λ k d less. ((are.nodes i entry same).children k d less).part.smaller)

-- the operands of a relation whose variables have these orders
module _ (orders : List Order) (b : Relation) (own : All (λ (v : Variable). slice_get orders v.name ≡ Some v.order) (variables_of_basic b)) where
  operand_order : (v : Variable) → IsAmong (variables_of_basic b) v → slice_get orders v.name ≡ Some v.order
  operand_order v among = all_among (λ (w : Variable). slice_get orders w.name ≡ Some w.order) (variables_of_basic b) own v among

  pub operands_one_order : HaveOneOrder (variables_of_basic b)
  operands_one_order v w is also same =
      same_variable v w same (same_Some v.order w.order (sym (operand_order v is) ∙ ap (slice_get orders) same ∙ operand_order w also))

  pub operands_by_place : ((j : ℕ) → j < length orders → Contains (map (λ (v : Variable). v.name) (variables_of_basic b)) j) → distinct (variables_of_basic b) ≡ variables_by_place orders
  operands_by_place free =
      rising_equal (distinct (variables_of_basic b)) (variables_by_place orders) (distinct-rising (variables_of_basic b)) (rising-by_place 0 orders)
      (λ x among. among-own orders x (operand_order x (distinct-among (variables_of_basic b) x among)))
      (λ x among.
      let held = own-among orders x among in
      let named = free x.name (slice_get_within orders x.name x.order held) in
      let found = named_variable (variables_of_basic b) x.name named in
      let own_order = all_among (λ (w : Variable). slice_get orders w.name ≡ Some w.order) (variables_of_basic b) own found.0 found.1 in
      let same : found.0 ≡ x = same_variable found.0 x found.2 (same_Some found.0.order x.order (sym own_order ∙ ap (slice_get orders) found.2 ∙ held)) in
      among-distinct (variables_of_basic b) x operands_one_order (subst (IsAmong (variables_of_basic b)) same found.1))
    where
      named_variable : (vs : List Variable) (name : ℕ) → Contains (map (λ (v : Variable). v.name) vs) name → (v : Variable) × IsAmong vs v × (v.name ≡ name)
      named_variable vs name is =
          let at = contains_place (map (λ (v : Variable). v.name) vs) name is in
          by at.0 (slice_get vs at.0) refl (sym (slice_get-map (λ (v : Variable). v.name) vs at.0) ∙ at.1)
        where
          by : (place : ℕ) (found : Option Variable) → slice_get vs place ≡ found → option_map (λ (v : Variable). v.name) found ≡ Some name → (v : Variable) × IsAmong vs v × (v.name ≡ name)
          by place None same held = absurd (none-some name held)
          by place (Some v) same held = (v, among_at vs place v same, same_Some v.name name held)

-- variables that all stand in nothing are none
no_orders : (orders : List Order) → ((j : ℕ) → j < length orders → Contains [] j) → [] ≡ variables_by_place orders
no_orders [] free = refl
no_orders (o ∷ orders) free = let never = (free 0 (omega arith)).1 in absurd (omega (arith, never))

module _ (plan : Plan) (are : AreNodes (entries_of plan)) (i : ℕ) (entry : Entry) (held : slice_get (entries_of plan) i ≡ Some entry) (content : Content Sign) (automaton : IsAutomaton content) where
  abbrev imports : List Imported
  imports = imports_for plan

  abbrev entries : List Entry
  entries = entries_of plan

  abbrev Y : Verdict
  Y = NodeYes imports entries

  abbrev N : Verdict
  N = NodeNo imports entries

  abbrev orders : List Order
  orders = entry.orders

  is_node : IsNode entries i entry
  is_node = are.nodes i entry held

  module _ (node : DagNode) (same : entry.node ≡ node) where
    children_are : All (IsChild entries i (orders_inside node orders)) (children_of node)
    children_are = subst (λ n. All (IsChild entries i (orders_inside n orders)) (children_of n)) same is_node.children

    all_there : (j : ℕ) → j < length orders → Contains (places_of node) j
    all_there j less = subst (λ n. Contains (places_of n) j) same (is_node.free j less)

    own_orders_are : HasOwnOrders node orders
    own_orders_are = subst (λ n. HasOwnOrders n orders) same is_node.own

    read_at : (place : ℕ) (child : Child) → slice_get (children_of node) place ≡ Some child → IsReadAt entries (orders_inside node orders) child
    read_at place child there = (read_child entries i (orders_inside node orders) (children_of node) children_are place child there).1

    to_node : (PY PN : Env → Type 0) → ((e : Env) → PY e → YesAt imports Y N (Some node) e) → ((e : Env) → PN e → NoAt imports Y N (Some node) e) → ((e : Env) → YesAt imports Y N (Some node) e → PY e)
        → ((e : Env) → NoAt imports Y N (Some node) e → PN e) → IsOver plan.mode (variables_by_place orders) (meaning_by PY PN) content
        → IsOver plan.mode (variables_by_place orders) (node_meaning imports entries i) content
    to_node PY PN yes_to no_to yes_from no_from over = record {
      mode_is = over.mode_is;
      variables_are = over.variables_are;
      values = HasValues-to (meaning_by PY PN) (node_meaning imports entries i) content
          (λ word e sign assigned encodes right.
          node_from_children imports entries (children_first entries are) i node (ap (option_map (λ (x : Entry). x.node)) held ∙ ap Some same) e sign
          (sign_moves PY PN (YesAt imports Y N (Some node)) (NoAt imports Y N (Some node)) e (yes_to e) (no_to e) (yes_from e) (no_from e) sign right)) over.values;
    }

  over_none : (meaning : Meaning) → ((j : ℕ) → j < length orders → Contains [] j) → IsOver plan.mode [] meaning content → IsOver plan.mode (variables_by_place orders) meaning content
  over_none meaning free over = record { mode_is = over.mode_is; variables_are = over.variables_are ∙ no_orders orders free; values = over.values }

  only : (list : List ℕ) (j : ℕ) → Contains (list ++ []) j → Contains list j
  only list j is = ⊎_elim (λ here. here) (λ never. absurd (let none = never.1 in omega (arith, none))) (Contains-append_cases list [] j is)

  pair_there : (c d : Child) (j : ℕ) → Contains (places_in_maps (c ∷ d ∷ [])) j → Contains (c.map ++ d.map) j
  pair_there c d j is =
      ⊎_elim (λ one. Contains-append_left c.map d.map j one) (λ other. Contains-append_right c.map d.map j (only d.map j other)) (Contains-append_cases c.map (d.map ++ []) j is)

  -- what has been made of the node by its form
  pub IsOver-node : (node : DagNode) → entry.node ≡ node → IsMadeOf plan entry node content → IsOver plan.mode (variables_by_place orders) (node_meaning imports entries i) content
  IsOver-node True same made =
      to_node True same (λ e. Unit {0}) (λ e. ⊥) (λ e h. h) (λ e h. h) (λ e h. h) (λ e h. h) (over_none (meaning_by (λ e. Unit {0}) (λ e. ⊥)) (all_there True same) made)
  IsOver-node False same made =
      to_node False same (λ e. ⊥) (λ e. Unit {0}) (λ e h. h) (λ e h. h) (λ e h. h) (λ e h. h) (over_none (meaning_by (λ e. ⊥) (λ e. Unit {0})) (all_there False same) made)
  IsOver-node (Basic b) same made =
      to_node (Basic b) same (λ e. Holds b e) (λ e. ¬ Holds b e) (λ e h. h) (λ e h. h) (λ e h. h) (λ e h. h)
      (record { mode_is = made.mode_is; variables_are = made.variables_are ∙ operands_by_place orders b (own_orders_are (Basic b) same) (all_there (Basic b) same); values = made.values })
  IsOver-node (Not c) same made =
      to_node (Not c) same (ChildNo imports entries c) (ChildYes imports entries c) (λ e h. h) (λ e h. h) (λ e h. h) (λ e h. h)
      (IsOver-part plan.mode orders c.map (meaning_by (ChildNo imports entries c) (ChildYes imports entries c)) content automaton (made orders (read_at (Not c) same 0 c refl))
      (λ j less. only c.map j (all_there (Not c) same j less)))
  IsOver-node (Restrict c) same made =
      to_node (Restrict c) same (ChildYes imports entries c) (λ e. ⊥) (λ e h. h) (λ e h. h) (λ e h. h) (λ e h. h)
      (IsOver-part plan.mode orders c.map (meaning_by (ChildYes imports entries c) (λ e. ⊥)) content automaton (made orders (read_at (Restrict c) same 0 c refl))
      (λ j less. only c.map j (all_there (Restrict c) same j less)))
  IsOver-node (And cs) same made =
      to_node (And cs) same (ManyYes Many.All imports entries cs) (ManyNo Many.All imports entries cs) (λ e h. h) (λ e h. h) (λ e h. h) (λ e h. h)
      (IsOver-part plan.mode orders (places_in_maps cs) (many_meaning Many.All imports entries cs) content automaton (made orders (read_at (And cs) same)) (all_there (And cs) same))
  IsOver-node (Or cs) same made =
      to_node (Or cs) same (ManyYes Many.Any imports entries cs) (ManyNo Many.Any imports entries cs) (λ e h. h) (λ e h. h) (λ e h. h) (λ e h. h)
      (IsOver-part plan.mode orders (places_in_maps cs) (many_meaning Many.Any imports entries cs) content automaton (made orders (read_at (Or cs) same)) (all_there (Or cs) same))
  IsOver-node (Implies c d) same made =
      to_node (Implies c d) same (YesOf (ChildYes imports entries c) (ChildNo imports entries c) (ChildYes imports entries d) (ChildNo imports entries d) Op.Implies)
      (NoOf (ChildYes imports entries c) (ChildNo imports entries c) (ChildYes imports entries d) (ChildNo imports entries d) Op.Implies) (λ e h. h) (λ e h. h) (λ e h. h) (λ e h. h)
      (IsOver-part plan.mode orders (c.map ++ d.map) (pair_meaning Op.Implies imports entries c d) content automaton
      (made orders (read_at (Implies c d) same 0 c refl) (read_at (Implies c d) same 1 d refl)) (λ j less. pair_there c d j (all_there (Implies c d) same j less)))
  IsOver-node (Iff c d) same made =
      to_node (Iff c d) same (YesOf (ChildYes imports entries c) (ChildNo imports entries c) (ChildYes imports entries d) (ChildNo imports entries d) Op.Iff)
      (NoOf (ChildYes imports entries c) (ChildNo imports entries c) (ChildYes imports entries d) (ChildNo imports entries d) Op.Iff) (λ e h. h) (λ e h. h) (λ e h. h) (λ e h. h)
      (IsOver-part plan.mode orders (c.map ++ d.map) (pair_meaning Op.Iff imports entries c d) content automaton (made orders (read_at (Iff c d) same 0 c refl) (read_at (Iff c d) same 1 d refl))
      (λ j less. pair_there c d j (all_there (Iff c d) same j less)))
  IsOver-node (Import n xs) same made =
      to_node (Import n xs) same (λ e. answer_over (slice_get imports n) xs e ≡ answer_yes) (λ e. answer_over (slice_get imports n) xs e ≡ answer_no) (λ e h. h) (λ e h. h) (λ e h. h) (λ e h. h)
      (IsOver-part plan.mode orders xs (import_meaning imports n xs) content automaton made (all_there (Import n xs) same))
  IsOver-node (Bind quant.Ex o k d c) same made =
      to_node (Bind quant.Ex o k d c) same (QuantifiedYes quant.Ex (record { name = k; order = o }) (λ there. IsMetBy Y d there) (child_meaning imports entries c))
      (QuantifiedNo quant.Ex (record { name = k; order = o }) (λ there. IsMetBy Y d there) (child_meaning imports entries c)) (λ e h. h) (λ e h. h) (λ e h. h) (λ e h. h) made
  IsOver-node (Bind quant.All o k d c) same made =
      to_node (Bind quant.All o k d c) same (QuantifiedYes quant.All (record { name = k; order = o }) (λ there. IsMetBy Y d there) (child_meaning imports entries c))
      (QuantifiedNo quant.All (record { name = k; order = o }) (λ there. IsMetBy Y d there) (child_meaning imports entries c)) (λ e h. h) (λ e h. h) (λ e h. h) (λ e h. h) made

-- and then with fewest states
pub record IsLeastFrom (part made : Content Sign) : Type 0 where
  pub mode_is : made.mode ≡ part.mode
  pub variables_are : made.variables ≡ part.variables
  pub signs : HaveEqualSigns part made
  pub fewest : HasFewestStates made
  pub reached : AreReached made
  pub differ : HaveDifferentResiduals made

pub least_by : (mode : Mode) (variables : List Variable) (meaning : Meaning) (part : Content Sign) → IsOver mode variables meaning part → (made : Content Sign) → IsLeastFrom part made → IsLeastOf mode variables meaning made
least_by mode variables meaning part over made least = record {
  mode_is = least.mode_is ∙ over.mode_is;
  variables_are = least.variables_are ∙ over.variables_are;
  values = HasValues-same meaning part made least.mode_is least.variables_are least.signs over.values;
  fewest = least.fewest;
  reached = least.reached;
  differ = least.differ;
}

pub built_by : (plan : Plan) (i : ℕ) (entry : Entry) → slice_get (entries_of plan) i ≡ Some entry → (part : Content Sign)
    → IsOver plan.mode (variables_by_place entry.orders) (node_meaning (imports_for plan) (entries_of plan) i) part → (made : Content Sign) → IsLeastFrom part made → IsWithin plan.limit made
    → IsBuiltAt plan i made
built_by plan i entry held part over made least within =
    (entry, held, least_by plan.mode (variables_by_place entry.orders) (node_meaning (imports_for plan) (entries_of plan) i) part over made least, within)

pub node_by : (plan : Plan) (i : ℕ) (entry : Entry) → slice_get (entries_of plan) i ≡ Some entry → (part : Content Sign)
    → IsOver plan.mode (variables_by_place entry.orders) (node_meaning (imports_for plan) (entries_of plan) i) part → (result : Result (Content Sign) StepFault)
    → IfOk result (λ made. made.mode ≡ part.mode) → IfOk result (λ made. made.variables ≡ part.variables) → IfOk result (HaveEqualSigns part) → IfOk result HasFewestStates → IfOk result AreReached
    → IfOk result HaveDifferentResiduals → IfOk result (IsWithin plan.limit) → IfOk result (IsBuiltAt plan i)
node_by plan i entry held part over (Ok made) mode_is variables_are signs fewest reached differ within =
    built_by plan i entry held part over made (record { mode_is = mode_is; variables_are = variables_are; signs = signs; fewest = fewest; reached = reached; differ = differ }) within
node_by plan i entry held part over (Err fault) mode_is variables_are signs fewest reached differ within = tt

-- what has fewest states as it is made
pub built_as_made : (plan : Plan) → AreNodes (entries_of plan) → (i : ℕ) (entry : Entry) → slice_get (entries_of plan) i ≡ Some entry → (node : DagNode) → entry.node ≡ node
    → (result : Result (Content Sign) StepFault) → IfOk result (IsMadeOf plan entry node) → IfOk result IsAutomaton
    → IfOk result IsLeast → IfOk result (IsWithin plan.limit) → IfOk result (IsBuiltAt plan i)
built_as_made plan nodes i entry held node is (Ok made) made_of automaton least within =
    built_by plan i entry held made (IsOver-node plan nodes i entry held made automaton node is made_of) made
    (record { mode_is = refl; variables_are = refl; signs = λ word _. refl; fewest = least.fewest; reached = least.reached; differ = least.differ }) within
built_as_made plan nodes i entry held node is (Err fault) made_of automaton least within = tt

-- what is within the limit, or is small, and is more than the limit: so the limit is small
pub too_small : (limit : ℕ) (part : Content Sign) → IsWithin limit part ⊎ IsWithin 16 part → limit < length part.nodes + length part.states → limit < 16
too_small limit part (inl within) more = absurd (omega (arith, within, more))
too_small limit part (inr few) more = omega (arith, few, more)

-- what is used from a later node on is used from an earlier one on
pub used_before : (plan : Plan) (late early i : ℕ) → early ≤ late → IsUsedFrom (entries_of plan) (roots_of plan) late i → IsUsedFrom (entries_of plan) (roots_of plan) early i
used_before plan late early i less (inl root) = inl root
used_before plan late early i less (inr (k, entry, from, held, child)) = inr (k, entry, omega (arith, less, from), held, child)

-- the automaton of one node more
pub AreBuilt-more : (plan : Plan) (built : List (Content Sign)) (made : Content Sign) (more : List (Content Sign)) → more ≡ built ++ made ∷ [] → AreBuiltFor plan built → IsBuiltAt plan (length built) made
    → AreBuiltFor plan more
AreBuilt-more plan built made more same are is i content held used = ⊎_elim
    (λ before. are i content before (used_before plan (length more) (length built) i (let long = ap length same ∙ length-append built (made ∷ []) in omega (arith, long)) used))
    (λ last. subst (λ n. IsBuiltAt plan n content) (sym last.0) (subst (IsBuiltAt plan (length built)) last.1 is))
    (slice_get-pushed built made i content (ap (λ list. slice_get list i) (sym same) ∙ held))

pub AreBuilt-pushed : (plan : Plan) (built : List (Content Sign)) (made : Content Sign) (more : List (Content Sign)) {A : Type 0} (result : Result A StepFault) → IfOk result (λ done. more ≡ built ++ made ∷ [])
    → AreBuiltFor plan built → IsBuiltAt plan (length built) made → OnOk result (AreBuiltFor plan more × (length more ≡ length built + 1))
AreBuilt-pushed plan built made more (Ok done) same are is = (AreBuilt-more plan built made more same are is, ap length same ∙ length-append built (made ∷ []))
AreBuilt-pushed plan built made more (Err fault) same are is = tt
