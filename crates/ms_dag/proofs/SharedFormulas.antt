-- A formula whose parts stand in the graph stands there when its node has a number.
use Rattle.std.proofs.Common.{◌≡◌, ℕ, ◌+◌, ◌<◌, List, [], ◌∷◌, ◌++◌, length, get_or, Contains, Some, None, refl, sym, subst, ⊎_elim, append-nil, arith}
use Rattle.std.proofs.lemmas.List.{length_push, length-append, get_or_append_left, get_or_push, get_or_default}
use Rattle.std.proofs.lemmas.List.Elements.{All-nil, All-append, All-contains}
use Rattle.std.proofs.lemmas.List.Kept.{AllPairs-from_increasing}
use Rattle.std.specs.List.Sorted.{IsStrictlyIncreasing}
use Rattle.ms_logic.specs.declared.mode.Order.{Order}
use Rattle.ms_logic.specs.declared.mode.Quant.{Quant}
use Rattle.ms_logic_core.specs.CoreForm.{CoreForm, negation, conjunction, disjunction, implication, equivalence, restrict, quantified, CoreForms, no_forms, more_forms, unrestricted, restricted}
use Rattle.ms_logic_core.specs.Operands.{variable}
use Rattle.ms_diagram.proofs.ListLemmas.{Contains-cases}
use Rattle.ms_dag.specs.declared.node.Child.{Child}
use Rattle.ms_dag.specs.declared.node.DagNode.{DagNode}
use Rattle.ms_dag.specs.declared.node.DagNode.TheVariants.{Not, And, Or, Implies, Iff, Restrict, Bind}
use Rattle.ms_dag.specs.declared.node.Entry.{Entry}
use Rattle.ms_dag.specs.Dag.{children_of, orders_inside, HasOwnOrders, places_in_maps, places_of, IsNode, AreNodes}
use Rattle.ms_dag.specs.Laws.{HasOrder, HaveOrders}
use Rattle.ms_dag.specs.Places.{AreBelow, AreAmong}
use Rattle.ms_dag.specs.inner.Scope.{IsInScope, AreInScope}
use Rattle.ms_dag.specs.inner.Shared.{IsShared, IsSharedNow, AreShared, Grown, IsAbove}
use Rattle.ms_dag.specs.Unfolds.{node_at, Unfolds, UnfoldEach}
use Rattle.ms_dag.proofs.Growth.{Keeps-numbers}
use Rattle.ms_dag.proofs.MadeNodes.{AreKnown-shared, same_nodes, made_is_node, node_at-made, Grown-made, above_is_node, read_each}
use Rattle.ms_dag.proofs.Members.{All-by}
use Rattle.ms_dag.proofs.PlaceLemmas.{HaveOrders-length, HaveOrders-push}

rising_front : (xs ys : List ℕ) → IsStrictlyIncreasing (xs ++ ys) → IsStrictlyIncreasing xs
rising_front xs ys rising k within =
    let long = length-append xs ys in
    let first = get_or_append_left xs ys 0 k (omega arith) in
    let second = get_or_append_left xs ys 0 (k + 1) within in
    let less : get_or (xs ++ ys) k 0 < get_or (xs ++ ys) (k + 1) 0 = rising k (omega arith) in
    omega arith

-- the last of rising numbers is greater than the others
pub last_is_greatest : (xs : List ℕ) (x : ℕ) → IsStrictlyIncreasing (xs ++ x ∷ []) → AreBelow x xs
last_is_greatest xs x rising k d below =
    let long = length_push xs x in
    let last = get_or_push xs x 0 (length xs) refl in
    let first : get_or (xs ++ x ∷ []) k 0 ≡ get_or xs k 0 = get_or_append_left xs (x ∷ []) 0 k below in
    let same : get_or xs k d ≡ get_or xs k 0 = get_or_default xs k d 0 below in
    let less : get_or (xs ++ x ∷ []) k 0 < get_or (xs ++ x ∷ []) (length xs) 0 = AllPairs-from_increasing (xs ++ x ∷ []) rising k (length xs) 0 below (omega arith) in
    omega arith

-- the variables of shared parts are in scope where the formulas are
pub parts_scoped : (orders : List Order) (entries : List Entry) (fs : CoreForms) (parts : List Child) → AreShared orders entries fs parts → (scope : List ℕ) → AreInScope orders scope fs → AreAmong scope (places_in_maps parts)
parts_scoped orders entries no_forms [] are scope scoped = All-nil (Contains scope)
parts_scoped orders entries no_forms (p ∷ ps) are scope scoped = absurd are
parts_scoped orders entries (more_forms f fs) [] are scope scoped = absurd are
parts_scoped orders entries (more_forms f fs) (p ∷ ps) are scope scoped =
    All-append (Contains scope) p.map (places_in_maps ps) (are.0.scoped scope scoped.0) (parts_scoped orders entries fs ps are.1 scope scoped.1)

-- a node above shared parts
module _ (orders : List Order) (mid new : List Entry) (bound : List ℕ) (parts : List Child) (node : DagNode) (child : Child) (above : IsAbove orders mid new bound parts node child) (nodes : AreNodes mid)
    (fs : CoreForms) (are : AreShared orders mid fs parts) (inside : HaveOrders orders (child.map ++ bound) (orders_inside node above.made.own)) (own : HasOwnOrders node above.made.own)
    (places : places_of node ≡ places_in_maps (children_of node)) where
  is_node : IsNode mid (length mid) (record { node = node; orders = above.made.own })
  is_node = above_is_node orders mid new bound parts node child above (AreKnown-shared orders mid fs parts are) inside own places

  pub each_part : UnfoldEach new fs (child.map ++ bound) child.node (children_of node)
  each_part =
      let here = made_is_node orders mid new node child.map child above.made nodes is_node in
      read_each orders mid new fs (child.map ++ bound) (orders_inside node above.made.own) parts (children_of node) child.node (Keeps-numbers mid new _ above.made.numbers) are above.children
      (sym (HaveOrders-length orders (child.map ++ bound) (orders_inside node above.made.own) inside)) here.children

  pub at_number : node_at new child.node ≡ Some node
  at_number = node_at-made orders mid new node child.map child above.made nodes is_node

  pub grown_above : (old : List Entry) → Grown old mid parts → Grown old new (child ∷ [])
  grown_above old grown =
      Grown-made orders mid new node child.map child above.made nodes is_node old parts (same_nodes (child.map ++ bound) parts (children_of node) above.children) grown

  -- the variables are in scope where those of the parts are
  pub scoped_above : (scope : List ℕ) → AreInScope orders scope fs → AreAmong scope child.map
  scoped_above scope scoped =
      All-by (Contains scope) child.map
      (λ x there. All-contains (Contains scope) (places_in_maps parts) x (parts_scoped orders mid fs parts are scope scoped) (All-contains (Contains (places_in_maps parts)) child.map x above.back there))

  pub shared_above : (f : CoreForm) → Unfolds new f child.map child.node → ((scope : List ℕ) → IsInScope orders scope f → AreAmong scope child.map) → IsShared orders new f child
  shared_above f unfolds scoped = record {
    unfolds = unfolds;
    rising = rising_front child.map bound above.rising;
    ordered = (record { node = node; orders = above.made.own }, above.made.number, above.made.ordered);
    scoped = scoped;
  }

-- the others than the innermost are in scope where all are
module _ (scope names : List ℕ) (x : ℕ) where
  pub among_others : AreAmong (x ∷ scope) names → AreBelow x names → AreAmong scope names
  among_others among below =
      All-by (Contains scope) names
      (λ y there. ⊎_elim (λ first. let less = All-contains (λ z. z < x) names y below there in absurd (omega (arith, first, less))) (λ other. other)
      (Contains-cases x scope y (All-contains (Contains (x ∷ scope)) names y among there)))

  -- none is greater than the innermost, where the others are below it
  pub none_greater : AreAmong (x ∷ scope) names → AreBelow x scope → AreBelow (x + 1) names
  none_greater among below =
      All-by (λ y. y < x + 1) names
      (λ y there. ⊎_elim (λ first. omega (arith, first)) (λ other. let less = All-contains (λ z. z < x) scope y below other in omega arith)
      (Contains-cases x scope y (All-contains (Contains (x ∷ scope)) names y among there)))

-- connectives
module _ (orders : List Order) (old mid new : List Entry) (parts : List Child) (node : DagNode) (child : Child) (above : IsAbove orders mid new [] parts node child) (fs : CoreForms)
    (are : AreShared orders mid fs parts) (grown : Grown old mid parts) (no_binder : orders_inside node above.made.own ≡ above.made.own) (own : HasOwnOrders node above.made.own)
    (places : places_of node ≡ places_in_maps (children_of node)) where
  own_inside : HaveOrders orders (child.map ++ []) (orders_inside node above.made.own)
  own_inside = subst (λ os. HaveOrders orders (child.map ++ []) os) (sym no_binder) (subst (λ list. HaveOrders orders list above.made.own) (sym (append-nil child.map)) above.made.ordered)

  each_own : UnfoldEach new fs child.map child.node (children_of node)
  each_own =
      subst (λ list. UnfoldEach new fs list child.node (children_of node)) (append-nil child.map)
      (each_part orders mid new [] parts node child above grown.nodes fs are own_inside own places)

  at_own : node_at new child.node ≡ Some node
  at_own = at_number orders mid new [] parts node child above grown.nodes fs are own_inside own places

  connected : (f : CoreForm) → Unfolds new f child.map child.node → ((scope : List ℕ) → IsInScope orders scope f → AreInScope orders scope fs) → IsSharedNow orders old new f child
  connected f unfolds scoped = record {
    grown = grown_above orders mid new [] parts node child above grown.nodes fs are own_inside own places old grown;
    shared = shared_above orders mid new [] parts node child above grown.nodes fs are own_inside own places f unfolds
        (λ scope in_scope. scoped_above orders mid new [] parts node child above grown.nodes fs are own_inside own places scope (scoped scope in_scope));
  }

module _ (orders : List Order) (old mid new : List Entry) (f : CoreForm) (part placed child : Child) (shared : IsShared orders mid f part) (grown : Grown old mid (part ∷ [])) where
  pub shared_negation : IsAbove orders mid new [] (part ∷ []) (Not placed) child → IsSharedNow orders old new (negation f) child
  shared_negation above =
      let fs = more_forms f no_forms in
      let each = each_own orders old mid new (part ∷ []) (Not placed) child above fs (shared, tt) grown refl tt refl in
      let at = at_own orders old mid new (part ∷ []) (Not placed) child above fs (shared, tt) grown refl tt refl in
      connected orders old mid new (part ∷ []) (Not placed) child above fs (shared, tt) grown refl tt refl (negation f) (placed, at, each.0) (λ scope scoped. (scoped, tt))

  pub shared_restrict : IsAbove orders mid new [] (part ∷ []) (Restrict placed) child → IsSharedNow orders old new (restrict f) child
  shared_restrict above =
      let fs = more_forms f no_forms in
      let each = each_own orders old mid new (part ∷ []) (Restrict placed) child above fs (shared, tt) grown refl tt refl in
      let at = at_own orders old mid new (part ∷ []) (Restrict placed) child above fs (shared, tt) grown refl tt refl in
      connected orders old mid new (part ∷ []) (Restrict placed) child above fs (shared, tt) grown refl tt refl (restrict f) (placed, at, each.0) (λ scope scoped. (scoped, tt))

module _ (orders : List Order) (old mid new : List Entry) (fs : CoreForms) (parts placed : List Child) (child : Child) (are : AreShared orders mid fs parts) (grown : Grown old mid parts) where
  pub shared_conjunction : IsAbove orders mid new [] parts (And placed) child → IsSharedNow orders old new (conjunction fs) child
  shared_conjunction above =
      let each = each_own orders old mid new parts (And placed) child above fs are grown refl tt refl in
      let at = at_own orders old mid new parts (And placed) child above fs are grown refl tt refl in
      connected orders old mid new parts (And placed) child above fs are grown refl tt refl (conjunction fs) (placed, at, each) (λ scope scoped. scoped)

  pub shared_disjunction : IsAbove orders mid new [] parts (Or placed) child → IsSharedNow orders old new (disjunction fs) child
  shared_disjunction above =
      let each = each_own orders old mid new parts (Or placed) child above fs are grown refl tt refl in
      let at = at_own orders old mid new parts (Or placed) child above fs are grown refl tt refl in
      connected orders old mid new parts (Or placed) child above fs are grown refl tt refl (disjunction fs) (placed, at, each) (λ scope scoped. scoped)

module _ (orders : List Order) (old mid new : List Entry) (f g : CoreForm) (left right one two child : Child) (first : IsShared orders mid f left) (second : IsShared orders mid g right)
    (grown : Grown old mid (left ∷ right ∷ [])) where
  pub shared_implication : IsAbove orders mid new [] (left ∷ right ∷ []) (Implies one two) child → IsSharedNow orders old new (implication f g) child
  shared_implication above =
      let fs = more_forms f (more_forms g no_forms) in
      let parts : List Child = left ∷ right ∷ [] in
      let each = each_own orders old mid new parts (Implies one two) child above fs (first, (second, tt)) grown refl tt refl in
      let at = at_own orders old mid new parts (Implies one two) child above fs (first, (second, tt)) grown refl tt refl in
      connected orders old mid new parts (Implies one two) child above fs (first, (second, tt)) grown refl tt refl (implication f g) (one, two, at, each.0, each.1.0) (λ scope scoped. (scoped.0, (scoped.1, tt)))

  pub shared_equivalence : IsAbove orders mid new [] (left ∷ right ∷ []) (Iff one two) child → IsSharedNow orders old new (equivalence f g) child
  shared_equivalence above =
      let fs = more_forms f (more_forms g no_forms) in
      let parts : List Child = left ∷ right ∷ [] in
      let each = each_own orders old mid new parts (Iff one two) child above fs (first, (second, tt)) grown refl tt refl in
      let at = at_own orders old mid new parts (Iff one two) child above fs (first, (second, tt)) grown refl tt refl in
      connected orders old mid new parts (Iff one two) child above fs (first, (second, tt)) grown refl tt refl (equivalence f g) (one, two, at, each.0, each.1.0) (λ scope scoped. (scoped.0, (scoped.1, tt)))

-- quantifiers
module _ (orders : List Order) (old mid new : List Entry) (q : Quant) (o : Order) (x : ℕ) (child : Child) (bound : HasOrder orders (variable x o)) where
  binder_inside : (own : List Order) → HaveOrders orders child.map own → HaveOrders orders (child.map ++ x ∷ []) (own ++ o ∷ [])
  binder_inside own ordered = HaveOrders-push orders child.map own x o ordered bound

  pub shared_unrestricted : (f : CoreForm) (part placed : Child) → IsShared orders mid f part → Grown old mid (part ∷ []) → IsAbove orders mid new (x ∷ []) (part ∷ []) (Bind q o (length child.map) None placed) child →
      IsSharedNow orders old new (quantified q o x unrestricted f) child
  shared_unrestricted f part placed shared grown above =
      let node = Bind q o (length child.map) None placed in
      let fs = more_forms f no_forms in
      let inside = binder_inside above.made.own above.made.ordered in
      let own : length child.map ≡ length above.made.own = HaveOrders-length orders child.map above.made.own above.made.ordered in
      let each = each_part orders mid new (x ∷ []) (part ∷ []) node child above grown.nodes fs (shared, tt) inside own refl in
      let at = at_number orders mid new (x ∷ []) (part ∷ []) node child above grown.nodes fs (shared, tt) inside own refl in
      let greatest = last_is_greatest child.map x above.rising in
      record {
        grown = grown_above orders mid new (x ∷ []) (part ∷ []) node child above grown.nodes fs (shared, tt) inside own refl old grown;
        shared = shared_above orders mid new (x ∷ []) (part ∷ []) node child above grown.nodes fs (shared, tt) inside own refl (quantified q o x unrestricted f)
            (None, placed, at, greatest, tt, each.0)
            (λ scope scoped. among_others scope child.map x (scoped_above orders mid new (x ∷ []) (part ∷ []) node child above grown.nodes fs (shared, tt) inside own refl (x ∷ scope) (scoped.3, tt)) greatest);
      }

  pub shared_restricted : (d f : CoreForm) (first second one two : Child) → IsShared orders mid d first → IsShared orders mid f second → Grown old mid (first ∷ second ∷ []) →
      IsAbove orders mid new (x ∷ []) (first ∷ second ∷ []) (Bind q o (length child.map) (Some one) two) child → IsSharedNow orders old new (quantified q o x (restricted d) f) child
  shared_restricted d f first second one two shared_d shared_f grown above =
      let node = Bind q o (length child.map) (Some one) two in
      let fs = more_forms d (more_forms f no_forms) in
      let parts : List Child = first ∷ second ∷ [] in
      let are : AreShared orders mid fs parts = (shared_d, (shared_f, tt)) in
      let inside = binder_inside above.made.own above.made.ordered in
      let own : length child.map ≡ length above.made.own = HaveOrders-length orders child.map above.made.own above.made.ordered in
      let each = each_part orders mid new (x ∷ []) parts node child above grown.nodes fs are inside own refl in
      let at = at_number orders mid new (x ∷ []) parts node child above grown.nodes fs are inside own refl in
      let greatest = last_is_greatest child.map x above.rising in
      record {
        grown = grown_above orders mid new (x ∷ []) parts node child above grown.nodes fs are inside own refl old grown;
        shared = shared_above orders mid new (x ∷ []) parts node child above grown.nodes fs are inside own refl (quantified q o x (restricted d) f)
            (Some one, two, at, greatest, each.0, each.1.0)
            (λ scope scoped. among_others scope child.map x (scoped_above orders mid new (x ∷ []) parts node child above grown.nodes fs are inside own refl (x ∷ scope) (scoped.2, (scoped.3, tt))) greatest);
      }
