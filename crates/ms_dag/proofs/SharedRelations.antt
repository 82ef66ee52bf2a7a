-- Constants, basic relations and imports stand in the graph when their nodes have numbers.
use Rattle.std.proofs.Common.{◌≡◌, ℕ, ◌<◌, List, [], length, map, get_or, slice_get, slice_index, All, Contains, Some, refl, sym, ◌∙◌, ap, subst, arith}
use Rattle.std.proofs.lemmas.List.Elements.{All-nil, All-contains, All-weaker, All-map}
use Rattle.std.proofs.lemmas.Option.{slice_get-get_or}
use Rattle.std.specs.List.Sorted.{IsStrictlyIncreasing}
use Rattle.ms_diagram.proofs.RootLemmas.{Contains-mapped}
use Rattle.ms_logic_core.specs.declared.core_formula.Basic.{Basic as Relation}
use Rattle.ms_logic_core.specs.declared.core_formula.Basic.TheVariants.{Truth, Number, Plus, Less, Member, Sub, Union, Inter, Diff, Up, Down, Min, Max, Bits}
use Rattle.ms_logic.specs.declared.mode.Order.{Order}
use Rattle.ms_logic.specs.Assignment.{Variable}
use Rattle.ms_logic_core.specs.CoreForm.{CoreForm, truth, falsity, basic, imported}
use Rattle.ms_logic_core.specs.Operands.{variable, variables_of_basic}
use Rattle.ms_dag.specs.declared.node.Child.{Child}
use Rattle.ms_dag.specs.declared.node.DagNode.{DagNode}
use Rattle.ms_dag.specs.declared.node.DagNode.TheVariants.{True, False, Basic, Import}
use Rattle.ms_dag.specs.declared.node.Entry.{Entry}
use Rattle.ms_dag.specs.Dag.{children_of, IsChild, IsNode, AreNodes}
use Rattle.ms_dag.specs.Laws.{HasOrder, HaveOrders}
use Rattle.ms_dag.specs.Places.{AreAt, AreBelow, AreAmong}
use Rattle.ms_dag.specs.inner.Relations.{IsBasicNode, IsImportNode}
use Rattle.ms_dag.specs.inner.Scope.{IsInScope}
use Rattle.ms_dag.specs.inner.Shared.{IsSharedNow, IsMade}
use Rattle.ms_dag.specs.Unfolds.{node_at, renamed, names_of_basic, Unfolds}
use Rattle.ms_dag.proofs.Growth.{Grown-none}
use Rattle.ms_dag.proofs.MadeNodes.{node_at-made, Grown-made}
use Rattle.ms_dag.proofs.Members.{All-by}
use Rattle.ms_dag.proofs.PlaceLemmas.{AreAt-within, AreAt-picked, HaveOrders-length, own_order, place_there}

-- each own variable is at the place of one of these
leaf_free : (orders : List Order) (map : List ℕ) (own : List Order) → HaveOrders orders map own → (places names : List ℕ) → IsStrictlyIncreasing map → AreAt map places names → AreAmong names map → (j : ℕ) → j < length own → Contains places j
leaf_free orders map own ordered places names rising at back j below =
    let long = HaveOrders-length orders map own ordered in
    let within : j < length map = omega arith in
    place_there map rising places names j (get_or map j 0) at (slice_get-get_or map j 0 within) (back j 0 within)

-- variables of another list are in scope where those are
scoped_leaf : (scope names own : List ℕ) → AreAmong names own → AreAmong scope names → AreAmong scope own
scoped_leaf scope names own back scoped = All-weaker (Contains names) (Contains scope) (λ x there. All-contains (Contains scope) names x scoped there) own back

variables-renamed : (name : ℕ → ℕ) (b : Relation) → variables_of_basic (renamed name b) ≡ map (λ v. variable (name v.name) v.order) (variables_of_basic b)
variables-renamed name (Truth a) = refl
variables-renamed name (Number x n) = refl
variables-renamed name (Plus x y n) = refl
variables-renamed name (Less x y) = refl
variables-renamed name (Member x s) = refl
variables-renamed name (Sub s t) = refl
variables-renamed name (Union s t u) = refl
variables-renamed name (Inter s t u) = refl
variables-renamed name (Diff s t u) = refl
variables-renamed name (Up s t n) = refl
variables-renamed name (Down s t n) = refl
variables-renamed name (Min x s) = refl
variables-renamed name (Max x s) = refl
variables-renamed name (Bits s n) = refl

-- a node with no children
module _ (orders : List Order) (old new : List Entry) (node : DagNode) (child : Child) (made : IsMade orders old new node child.map child) (nodes : AreNodes old)
    (none : children_of node ≡ []) (is_node : IsNode old (length old) (record { node = node; orders = made.own })) where
  at_leaf : node_at new child.node ≡ Some node
  at_leaf = node_at-made orders old new node child.map child made nodes is_node

  shared_leaf : (f : CoreForm) → Unfolds new f child.map child.node → IsStrictlyIncreasing child.map → ((scope : List ℕ) → IsInScope orders scope f → AreAmong scope child.map) → IsSharedNow orders old new f child
  shared_leaf f unfolds rising scoped = record {
    grown = Grown-made orders old new node child.map child made nodes is_node old [] (ap (map (λ (c : Child). c.node)) (sym none)) (Grown-none old [] nodes);
    shared = record {
      unfolds = unfolds;
      rising = rising;
      ordered = (record { node = node; orders = made.own }, made.number, made.ordered);
      scoped = scoped;
    };
  }

-- a constant
module _ (orders : List Order) (old new : List Entry) (child : Child) (nodes : AreNodes old) where
  no_own : (own : List Order) → HaveOrders orders [] own → (j : ℕ) → j < length own → ⊥
  no_own own ordered j below = let long = HaveOrders-length orders [] own ordered in omega (arith, long, below)

  none_rise : (xs : List ℕ) → xs ≡ [] → IsStrictlyIncreasing xs
  none_rise xs none k below = let long = ap length none in absurd (omega (arith, long, below))

  pub shared_truth : IsMade orders old new True [] child → IsSharedNow orders old new truth child
  shared_truth given =
      let made : IsMade orders old new True child.map child = subst (λ list. IsMade orders old new True list child) (sym given.map) given in
      let ordered : HaveOrders orders [] made.own = subst (λ list. HaveOrders orders list made.own) given.map made.ordered in
      let is_node : IsNode old (length old) (record { node = True; orders = made.own }) = record {
        children = All-nil (IsChild old (length old) made.own);
        own = tt;
        free = λ j below. absurd (no_own made.own ordered j below);
      } in
      shared_leaf orders old new True child made nodes refl is_node truth (at_leaf orders old new True child made nodes refl is_node) (none_rise child.map given.map)
      (λ scope scoped. subst (λ list. AreAmong scope list) (sym given.map) (All-nil (Contains scope)))

  pub shared_falsity : IsMade orders old new False [] child → IsSharedNow orders old new falsity child
  shared_falsity given =
      let made : IsMade orders old new False child.map child = subst (λ list. IsMade orders old new False list child) (sym given.map) given in
      let ordered : HaveOrders orders [] made.own = subst (λ list. HaveOrders orders list made.own) given.map made.ordered in
      let is_node : IsNode old (length old) (record { node = False; orders = made.own }) = record {
        children = All-nil (IsChild old (length old) made.own);
        own = tt;
        free = λ j below. absurd (no_own made.own ordered j below);
      } in
      shared_leaf orders old new False child made nodes refl is_node falsity (at_leaf orders old new False child made nodes refl is_node) (none_rise child.map given.map)
      (λ scope scoped. subst (λ list. AreAmong scope list) (sym given.map) (All-nil (Contains scope)))

  -- an import
  pub shared_import : (i : ℕ) (xs : List ℕ) → IsImportNode orders old new i xs child → IsSharedNow orders old new (imported i xs) child
  shared_import i xs is =
      let made = is.made in
      let long = HaveOrders-length orders child.map made.own made.ordered in
      let within : AreBelow (length child.map) is.own = AreAt-within child.map is.own xs is.places in
      let back : AreAmong xs child.map = All-by (Contains xs) child.map is.variables.back in
      let is_node : IsNode old (length old) (record { node = Import i is.own; orders = made.own }) = record {
        children = All-nil (IsChild old (length old) made.own);
        own = subst (λ n. AreBelow n is.own) long within;
        free = leaf_free orders child.map made.own made.ordered is.own xs is.rising is.places back;
      } in
      shared_leaf orders old new (Import i is.own) child made nodes refl is_node (imported i xs)
      (is.own, at_leaf orders old new (Import i is.own) child made nodes refl is_node, within, sym (AreAt-picked child.map is.own xs is.places)) is.rising
      (λ scope scoped. scoped_leaf scope xs child.map back scoped)

  -- a basic relation, whose variables have their orders
  basic_orders : (b own : Relation) (given : List Order) → HaveOrders orders child.map given → AreBelow (length child.map) (names_of_basic own) → b ≡ renamed (slice_index child.map) own → All (HasOrder orders) (variables_of_basic b) →
      All (λ (v : Variable). slice_get given v.name ≡ Some v.order) (variables_of_basic own)
  basic_orders b own given ordered within is all =
      All-by (λ (v : Variable). slice_get given v.name ≡ Some v.order) (variables_of_basic own)
      (λ v there.
      let below : v.name < length child.map = All-contains (λ j. j < length child.map) (names_of_basic own) v.name within (Contains-mapped (λ (w : Variable). w.name) (variables_of_basic own) v there) in
      let P : List Variable → Type 0 = λ vs. All (HasOrder orders) vs in
      let named : All (HasOrder orders) (map (λ (w : Variable). variable (slice_index child.map w.name) w.order) (variables_of_basic own)) = subst P (ap variables_of_basic is ∙ variables-renamed (slice_index child.map) own) all in
      let held : HasOrder orders (variable (slice_index child.map v.name) v.order) =
      All-contains (HasOrder orders) _ _ named (Contains-mapped (λ (w : Variable). variable (slice_index child.map w.name) w.order) (variables_of_basic own) v there) in
      own_order orders child.map given ordered v.name (slice_index child.map v.name) v.order (slice_get-get_or child.map v.name 0 below) held)

  pub shared_basic : (b : Relation) → All (HasOrder orders) (variables_of_basic b) → IsBasicNode orders old new b child → IsSharedNow orders old new (basic b) child
  shared_basic b held is =
      let made = is.made in
      let places = is.placed.places in
      let within : AreBelow (length child.map) (names_of_basic is.own) = AreAt-within child.map (names_of_basic is.own) (names_of_basic b) places in
      let back : AreAmong (names_of_basic b) child.map = All-by (Contains (names_of_basic b)) child.map is.variables.back in
      let is_node : IsNode old (length old) (record { node = Basic is.own; orders = made.own }) = record {
        children = All-nil (IsChild old (length old) made.own);
        own = basic_orders b is.own made.own made.ordered within is.placed.renamed_is held;
        free = leaf_free orders child.map made.own made.ordered (names_of_basic is.own) (names_of_basic b) is.rising places back;
      } in
      shared_leaf orders old new (Basic is.own) child made nodes refl is_node (basic b)
      (is.own, at_leaf orders old new (Basic is.own) child made nodes refl is_node, within, is.placed.renamed_is) is.rising
      (λ scope scoped. scoped_leaf scope (names_of_basic b) child.map back
      (All-map (Contains scope) (λ (v : Variable). v.name) (variables_of_basic b) (All-weaker (λ (v : Variable). Contains scope v.name × HasOrder orders v) (λ (v : Variable). Contains scope v.name) (λ v both. both.0) (variables_of_basic b) scoped)))
