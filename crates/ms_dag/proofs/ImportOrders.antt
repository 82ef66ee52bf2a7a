-- A node that is an import has variables of the import's orders for those of its file, so two of the same import agree.
use Rattle.std.proofs.Common.{◌≡◌, ℕ, zero, suc, ◌+◌, ◌<◌, ◌≤◌, ⊎_elim, List, [], ◌∷◌, ◌++◌, length, map, slice_get, slice_index, All, Contains, Option, Some, None, refl, sym, ap, ap₂, subst, ◌∙◌, arith}
use Rattle.std.specs.Option.{option_map}
use Rattle.std.proofs.lemmas.List.Elements.{All-cons, All-nil, All-head, All-tail, All-map, All-contains}
use Rattle.std.proofs.lemmas.Option.{same_Some, slice_get_within, slice_get-get_or, slice_get-map}
use Rattle.ms_logic_core.specs.declared.core_formula.Lowered.{Lowered}
use Rattle.ms_logic_core.specs.declared.core_formula.Root as code
use Rattle.ms_logic.specs.declared.mode.Order.{Order}
use Rattle.ms_logic.specs.Assignment.{Variable}
use Rattle.ms_logic_core.specs.CoreForm.{CoreForm, core_form_of, truth, falsity, basic, negation, conjunction, disjunction, implication, equivalence, restrict, imported, quantified, CoreForms, no_forms, more_forms, CoreRestriction, unrestricted, restricted}
use Rattle.ms_logic_core.specs.Spread.{variables_of_import}
use Rattle.ms_logic_core.specs.Operands.{variables_at}
use Rattle.ms_logic.specs.Truth.{Import as Imported}
use Rattle.ms_logic_core.specs.Calls.{Calls, filled}
use Rattle.ms_logic_core.specs.Orders.{order_at}
use Rattle.ms_logic_core.specs.Stands.{Stands, EachStands, RestrictionStands}
use Rattle.ms_logic.specs.Lists.{Each}
use Rattle.ms_dag.specs.declared.dag.Dag.{Dag}
use Rattle.ms_dag.specs.declared.dag.SharedRoot.{SharedRoot}
use Rattle.ms_dag.specs.declared.node.Child.{Child}
use Rattle.ms_dag.specs.declared.node.DagNode.{DagNode}
use Rattle.ms_dag.specs.declared.node.DagNode.TheVariants.{True, False, Basic, Not, And, Or, Implies, Iff, Restrict, Import, Bind}
use Rattle.ms_dag.specs.declared.node.Entry.{Entry}
use Rattle.ms_dag.specs.Dag.{AreNodes, ImportsAgree, IsChild, IsNode, IsUsed, children_of, children_of_binder, orders_inside}
use Rattle.ms_dag.specs.Laws.{HasOrder, HaveOrders, HaveTheirOrders, EachHasItsOrders, RestrictionHasItsOrders}
use Rattle.ms_dag.specs.Lowered.{IsLowered, IsLoweredRoot}
use Rattle.ms_dag.specs.Places.{AreAt, AreBelow, picked}
use Rattle.ms_dag.specs.inner.Shared.{AreRootsNow}
use Rattle.ms_dag.specs.Share.{AreRootsOf, IsDagOf, children_of_roots}
use Rattle.ms_dag.specs.Unfolds.{ReadAs, UnfoldEach, Unfolds, UnfoldsIn, node_at}
use Rattle.ms_dag.proofs.PlaceLemmas.{AreAt-head, AreAt-tail, AreAt-inner, HaveOrders-length, HaveOrders-push}

-- the order of the name at a place
outer_place : (orders : List Order) (names : List ℕ) (inner : List Order) → HaveOrders orders names inner → (p : ℕ) (o : Order) → slice_get inner p ≡ Some o → order_at orders (slice_index names p) ≡ o
outer_place orders names inner at p o held =
    let within = slice_get_within inner p o held in
    let long = HaveOrders-length orders names inner at in
    let named = slice_get-get_or names p 0 (omega (arith, within, long)) in
    same_Some _ _ (sym (slice_get-map (order_at orders) names p ∙ ap (option_map (order_at orders)) named) ∙ (ap (λ list. slice_get list p) at ∙ held))

-- those of the names at places
picked_orders : (orders : List Order) (names : List ℕ) (inner : List Order) → HaveOrders orders names inner → (places : List ℕ) (given : List Order) → AreAt inner places given → HaveOrders orders (picked names places) given
picked_orders orders names inner at [] [] held = refl
picked_orders orders names inner at [] (g ∷ given) held = absurd (let never : ⊥ = cc in never)
picked_orders orders names inner at (p ∷ places) [] held = absurd (let never : ⊥ = cc in never)
picked_orders orders names inner at (p ∷ places) (g ∷ given) held =
    ap₂ (λ o os. o ∷ os) (outer_place orders names inner at p g (AreAt-head inner p places g given held))
    (picked_orders orders names inner at places given (AreAt-tail inner p places g given held))

-- places stand where their names are picked
AreAt-own : (names places : List ℕ) → AreBelow (length names) places → AreAt names places (picked names places)
AreAt-own names [] below = refl
AreAt-own names (p ∷ places) below =
    ap₂ (λ x xs. x ∷ xs) (slice_get-get_or names p 0 (All-head (λ j. j < length names) p places below))
    (AreAt-own names places (All-tail (λ j. j < length names) p places below))

-- variables with their orders, side by side with these
orders_at : (orders : List Order) (xs : List ℕ) (vs : List Variable) → length xs ≡ length vs → All (HasOrder orders) (variables_at xs vs) → HaveOrders orders xs (map (λ v. v.order) vs)
orders_at orders [] [] long have = refl
orders_at orders [] (v ∷ vs) long have = absurd (omega (arith, long))
orders_at orders (x ∷ xs) [] long have = absurd (omega (arith, long))
orders_at orders (x ∷ xs) (v ∷ vs) long have =
    ap₂ (λ o os. o ∷ os) (All-head (HasOrder orders) (record { name = x; order = v.order }) (variables_at xs vs) have)
    (orders_at orders xs vs (omega (arith, long)) (All-tail (HasOrder orders) (record { name = x; order = v.order }) (variables_at xs vs) have))

module _ (imports : List Imported) (orders : List Order) (entries : List Entry) (nodes : (i : ℕ) (entry : Entry) → slice_get entries i ≡ Some entry → IsNode entries i entry) where
  -- node i unfolds to a formula whose variables have their orders, and stand in a scope
  record IsFit (i : ℕ) : Type 0 where
    pub entry : Entry
    pub held : slice_get entries i ≡ Some entry
    pub formula : CoreForm
    pub names : List ℕ
    pub scope : List Variable
    pub at : HaveOrders orders names entry.orders
    pub unfolds : Unfolds entries formula names i
    pub stands : Stands imports scope formula
    pub have : HaveTheirOrders imports orders formula

  abbrev AreFit : List Child → Type 0
  AreFit children = All (λ (c : Child). IsFit c.node) children

  none_fit : AreFit []
  none_fit = All-nil (λ (c : Child). IsFit c.node)

  more_fit : (child : Child) (children : List Child) → IsFit child.node → AreFit children → AreFit (child ∷ children)
  more_fit child children first others = All-cons (λ (c : Child). IsFit c.node) child children first others

  module _ (i : ℕ) (inside : List Order) (names : List ℕ) (at : HaveOrders orders names inside) where
    one_fit : (child : Child) → IsChild entries i inside child → (f : CoreForm) (scope : List Variable) → ReadAs (λ given j. Unfolds entries f given j) names i child → Stands imports scope f
        → HaveTheirOrders imports orders f → IsFit child.node
    one_fit child is f scope reads stands have = record {
      entry = is.ordered.0;
      held = is.ordered.1;
      formula = f;
      names = picked names child.map;
      scope = scope;
      at = picked_orders orders names inside at child.map (is.ordered.0).orders is.ordered.2;
      unfolds = reads.1;
      stands = stands;
      have = have;
    }

    each_fit : (fs : CoreForms) (children : List Child) (scope : List Variable) → All (IsChild entries i inside) children → UnfoldEach entries fs names i children → EachStands imports scope fs
        → EachHasItsOrders imports orders fs → AreFit children
    each_fit no_forms [] scope are reads stand have = none_fit
    each_fit no_forms (child ∷ children) scope are reads stand have = absurd reads
    each_fit (more_forms f fs) [] scope are reads stand have = absurd reads
    each_fit (more_forms f fs) (child ∷ children) scope are reads stand have =
        more_fit child children (one_fit child (All-head (IsChild entries i inside) child children are) f scope reads.0 stand.0 have.0)
        (each_fit fs children scope (All-tail (IsChild entries i inside) child children are) reads.1 stand.1 have.1)

    two_fit : (left right : Child) → All (IsChild entries i inside) (left ∷ right ∷ []) → (f g : CoreForm) (scope : List Variable) → ReadAs (λ given j. Unfolds entries f given j) names i left
        → ReadAs (λ given j. Unfolds entries g given j) names i right → Stands imports scope f → Stands imports scope g → HaveTheirOrders imports orders f → HaveTheirOrders imports orders g
        → AreFit (left ∷ right ∷ [])
    two_fit left right are f g scope first second stands stands_too have have_too =
        more_fit left (right ∷ []) (one_fit left (All-head (IsChild entries i inside) left (right ∷ []) are) f scope first stands have)
        (more_fit right []
        (one_fit right (All-head (IsChild entries i inside) right [] (All-tail (IsChild entries i inside) left (right ∷ []) are)) g scope second stands_too have_too) none_fit)

    binder_fit : (d : CoreRestriction) (f : CoreForm) (scope : List Variable) (domain : Option Child) (body : Child) → All (IsChild entries i inside) (children_of_binder domain body)
        → UnfoldsIn entries d names i domain → ReadAs (λ given j. Unfolds entries f given j) names i body → RestrictionStands imports scope d → Stands imports scope f
        → RestrictionHasItsOrders imports orders d → HaveTheirOrders imports orders f → AreFit (children_of_binder domain body)
    binder_fit unrestricted f scope None body are within reads stands stands_too have have_too =
        more_fit body [] (one_fit body (All-head (IsChild entries i inside) body [] are) f scope reads stands_too have_too) none_fit
    binder_fit unrestricted f scope (Some domain) body are within reads stands stands_too have have_too = absurd within
    binder_fit (restricted d) f scope None body are within reads stands stands_too have have_too = absurd within
    binder_fit (restricted d) f scope (Some domain) body are within reads stands stands_too have have_too =
        two_fit domain body are d f scope within reads stands stands_too have have_too

  -- the children of a node that is fit are
  module _ (i : ℕ) (fit : IsFit i) where
    abbrev Of : DagNode → Type 0
    Of node = All (IsChild entries i (orders_inside node fit.entry.orders)) (children_of node)

    by_node : (node : DagNode) → node_at entries i ≡ Some node → (Of node → AreFit (children_of node)) → AreFit (children_of fit.entry.node)
    by_node node is step =
        let same : fit.entry.node ≡ node = same_Some fit.entry.node node (sym (ap (option_map (λ e. e.node)) fit.held) ∙ is) in
        subst (λ n. AreFit (children_of n)) (sym same) (step (subst Of same (nodes i fit.entry fit.held).children))

    children_fit : (f : CoreForm) → Unfolds entries f fit.names i → Stands imports fit.scope f → HaveTheirOrders imports orders f → AreFit (children_of fit.entry.node)
    children_fit truth unfolds stands have = by_node True unfolds (λ are. none_fit)
    children_fit falsity unfolds stands have = by_node False unfolds (λ are. none_fit)
    children_fit (basic b) unfolds stands have = by_node (Basic unfolds.0) unfolds.1 (λ are. none_fit)
    children_fit (negation f) unfolds stands have =
        by_node (Not unfolds.0) unfolds.1
        (λ are. more_fit unfolds.0 [] (one_fit i fit.entry.orders fit.names fit.at unfolds.0 (All-head (IsChild entries i fit.entry.orders) unfolds.0 [] are) f fit.scope unfolds.2 stands have) none_fit)
    children_fit (conjunction fs) unfolds stands have =
        by_node (And unfolds.0) unfolds.1 (λ are. each_fit i fit.entry.orders fit.names fit.at fs unfolds.0 fit.scope are unfolds.2 stands have)
    children_fit (disjunction fs) unfolds stands have =
        by_node (Or unfolds.0) unfolds.1 (λ are. each_fit i fit.entry.orders fit.names fit.at fs unfolds.0 fit.scope are unfolds.2 stands have)
    children_fit (implication f g) unfolds stands have =
        by_node (Implies unfolds.0 unfolds.1) unfolds.2
        (λ are. two_fit i fit.entry.orders fit.names fit.at unfolds.0 unfolds.1 are f g fit.scope unfolds.3 unfolds.4 stands.0 stands.1 have.0 have.1)
    children_fit (equivalence f g) unfolds stands have =
        by_node (Iff unfolds.0 unfolds.1) unfolds.2
        (λ are. two_fit i fit.entry.orders fit.names fit.at unfolds.0 unfolds.1 are f g fit.scope unfolds.3 unfolds.4 stands.0 stands.1 have.0 have.1)
    children_fit (restrict f) unfolds stands have =
        by_node (Restrict unfolds.0) unfolds.1
        (λ are. more_fit unfolds.0 [] (one_fit i fit.entry.orders fit.names fit.at unfolds.0 (All-head (IsChild entries i fit.entry.orders) unfolds.0 [] are) f fit.scope unfolds.2 stands have) none_fit)
    children_fit (imported n xs) unfolds stands have = by_node (Import n unfolds.0) unfolds.1 (λ are. none_fit)
    children_fit (quantified q o x d f) unfolds stands have =
        by_node (Bind q o (length fit.names) unfolds.0 unfolds.1) unfolds.2
        (λ are.
        binder_fit i (fit.entry.orders ++ o ∷ []) (fit.names ++ x ∷ []) (HaveOrders-push orders fit.names fit.entry.orders x o fit.at have.0) d f (record { name = x; order = o } ∷ fit.scope) unfolds.0 unfolds.1 are
        unfolds.4 unfolds.5 stands.1 stands.2 have.1 have.2)

    -- and a node that is an import has the import's orders
    module _ (n : ℕ) (xs : List ℕ) (import : node_at entries i ≡ Some (Import n xs)) where
      abbrev HasOrders : Type 0
      HasOrders = AreAt fit.entry.orders xs (map (λ v. v.order) (variables_of_import (slice_get imports n)))

      import_fit : (f : CoreForm) → Unfolds entries f fit.names i → Stands imports fit.scope f → HaveTheirOrders imports orders f → HasOrders
      import_fit truth unfolds stands have = let both : Some True ≡ Some (Import n xs) = sym unfolds ∙ import in let never : ⊥ = cc in absurd never
      import_fit falsity unfolds stands have = let both : Some False ≡ Some (Import n xs) = sym unfolds ∙ import in let never : ⊥ = cc in absurd never
      import_fit (basic b) unfolds stands have = let both : Some (Basic unfolds.0) ≡ Some (Import n xs) = sym unfolds.1 ∙ import in let never : ⊥ = cc in absurd never
      import_fit (negation f) unfolds stands have = let both : Some (Not unfolds.0) ≡ Some (Import n xs) = sym unfolds.1 ∙ import in let never : ⊥ = cc in absurd never
      import_fit (conjunction fs) unfolds stands have = let both : Some (And unfolds.0) ≡ Some (Import n xs) = sym unfolds.1 ∙ import in let never : ⊥ = cc in absurd never
      import_fit (disjunction fs) unfolds stands have = let both : Some (Or unfolds.0) ≡ Some (Import n xs) = sym unfolds.1 ∙ import in let never : ⊥ = cc in absurd never
      import_fit (implication f g) unfolds stands have = let both : Some (Implies unfolds.0 unfolds.1) ≡ Some (Import n xs) = sym unfolds.2 ∙ import in let never : ⊥ = cc in absurd never
      import_fit (equivalence f g) unfolds stands have = let both : Some (Iff unfolds.0 unfolds.1) ≡ Some (Import n xs) = sym unfolds.2 ∙ import in let never : ⊥ = cc in absurd never
      import_fit (restrict f) unfolds stands have = let both : Some (Restrict unfolds.0) ≡ Some (Import n xs) = sym unfolds.1 ∙ import in let never : ⊥ = cc in absurd never
      import_fit (imported m zs) unfolds stands have =
          let both : Some (Import m unfolds.0) ≡ Some (Import n xs) = sym unfolds.1 ∙ import in
          let number : m ≡ n = cc in
          let places : unfolds.0 ≡ xs = cc in
          let given = map (λ v. v.order) (variables_of_import (slice_get imports m)) in
          let outer : HaveOrders orders zs given = orders_at orders zs (variables_of_import (slice_get imports m)) stands.0 have in
          let own : AreAt fit.names unfolds.0 zs = subst (AreAt fit.names unfolds.0) (sym unfolds.3) (AreAt-own fit.names unfolds.0 unfolds.2) in
          let here : AreAt fit.entry.orders unfolds.0 given = AreAt-inner orders fit.names fit.entry.orders fit.at unfolds.0 zs given own outer in
          subst (λ k. AreAt fit.entry.orders xs (map (λ v. v.order) (variables_of_import (slice_get imports k)))) number (subst (λ ys. AreAt fit.entry.orders ys given) places here)
      import_fit (quantified q o x d f) unfolds stands have =
          let both : Some (Bind q o (length fit.names) unfolds.0 unfolds.1) ≡ Some (Import n xs) = sym unfolds.2 ∙ import in let never : ⊥ = cc in absurd never

-- the nodes of roots are fit
roots_fit : (imports : List Imported) (calls : Calls) (orders : List Order) (entries : List Entry) (nodes : (i : ℕ) (entry : Entry) → slice_get entries i ≡ Some entry → IsNode entries i entry)
    (roots : List code.Root) (shared : List SharedRoot) → AreRootsOf calls orders entries roots shared → Each (IsLoweredRoot imports calls orders) roots
    → AreFit imports orders entries nodes (children_of_roots shared)
roots_fit imports calls orders entries nodes [] [] are each = none_fit imports orders entries nodes
roots_fit imports calls orders entries nodes [] (s ∷ ss) are each = absurd are
roots_fit imports calls orders entries nodes (r ∷ rs) [] are each = absurd are
roots_fit imports calls orders entries nodes (r ∷ rs) (s ∷ ss) are each =
    more_fit imports orders entries nodes s.child (children_of_roots ss) (record {
      entry = (are.0).ordered.0;
      held = (are.0).ordered.1;
      formula = filled calls (core_form_of r.core);
      names = s.child.map;
      scope = (each.0).own;
      at = (are.0).ordered.2;
      unfolds = (are.0).unfolds;
      stands = (each.0).stands;
      have = (each.0).orders_of_all;
    }) (roots_fit imports calls orders entries nodes rs ss are.1 each.1)

module _ (imports : List Imported) (orders : List Order) (entries : List Entry) (roots : List Child) (nodes : AreNodes entries)
    (used : (i : ℕ) → i < length entries → IsUsed entries roots i) (at_roots : AreFit imports orders entries nodes.nodes roots) where
  -- each node is, since it is that of a root or a child of a node with a greater number
  all_fit : (rounds i : ℕ) → i < length entries → length entries ≤ i + rounds → IsFit imports orders entries nodes.nodes i
  all_fit zero i within near = absurd (omega (arith, within, near))
  all_fit (suc rounds) i within near =
      let Fit : ℕ → Type 0 = IsFit imports orders entries nodes.nodes in
      ⊎_elim
      (λ of_root. All-contains Fit (map (λ (c : Child). c.node) roots) i (All-map Fit (λ (c : Child). c.node) roots at_roots) of_root)
      (λ of_node.
      let k = of_node.0 in
      let entry = of_node.1 in
      let held = of_node.2 in
      let smaller = is_smaller i k entry held of_node.3 in
      let found = all_fit rounds k (slice_get_within entries k entry held) (omega (arith, near, smaller)) in
      let same : found.entry ≡ entry = same_Some found.entry entry (sym found.held ∙ held) in
      let children = subst (λ (e : Entry). AreFit imports orders entries nodes.nodes (children_of e.node)) same
      (children_fit imports orders entries nodes.nodes k found found.formula found.unfolds found.stands found.have) in
      All-contains Fit (map (λ (c : Child). c.node) (children_of entry.node)) i (All-map Fit (λ (c : Child). c.node) (children_of entry.node) children) of_node.3)
      (used i within)
    where
      is_smaller : (i k : ℕ) (entry : Entry) → slice_get entries k ≡ Some entry → Contains (map (λ (c : Child). c.node) (children_of entry.node)) i → i < k
      is_smaller i k entry held there =
          All-contains (λ j. j < k) (map (λ (c : Child). c.node) (children_of entry.node)) i
          (All-map (λ j. j < k) (λ (c : Child). c.node) (children_of entry.node)
          (λ place d within. ((nodes.nodes k entry held).children place d within).part.smaller)) there

  -- each node that is an import has variables of its orders
  import_orders : (place : ℕ) (entry : Entry) (i : ℕ) (xs : List ℕ) → slice_get entries place ≡ Some entry → entry.node ≡ Import i xs
      → AreAt entry.orders xs (map (λ v. v.order) (variables_of_import (slice_get imports i)))
  import_orders place entry i xs held import =
      let fit = all_fit (length entries) place (slice_get_within entries place entry held) (omega arith) in
      let same : fit.entry ≡ entry = same_Some fit.entry entry (sym fit.held ∙ held) in
      subst (λ (e : Entry). AreAt e.orders xs (map (λ v. v.order) (variables_of_import (slice_get imports i)))) same
      (import_fit imports orders entries nodes.nodes place fit i xs (ap (option_map (λ e. e.node)) held ∙ ap Some import) fit.formula fit.unfolds fit.stands fit.have)

  orders_agree : ImportsAgree entries
  orders_agree i j one two import xs ys first second is also = import_orders i one import xs first is ∙ sym (import_orders j two import ys second also)

-- the imports of a graph of roots agree
pub imports_agree : (imports : List Imported) (calls : Calls) (orders : List Order) (entries : List Entry) (roots : List code.Root) (shared : List SharedRoot) → Each (IsLoweredRoot imports calls orders) roots
    → AreRootsNow calls orders entries roots shared → ImportsAgree entries
imports_agree imports calls orders entries roots shared lowered now =
    orders_agree imports orders entries (children_of_roots shared) now.grown.nodes (λ i below. now.grown.used i (omega arith) below)
    (roots_fit imports calls orders entries now.grown.nodes.nodes roots shared now.roots_of lowered)

-- for the crates above: each node of the graph of a source that is an import has variables of the import's orders
pub imports_have_orders : (imports : List Imported) (calls : Calls) (lowered : Lowered) (dag : Dag) → IsLowered imports calls lowered → IsDagOf calls lowered dag → (place : ℕ) (entry : Entry) (i : ℕ) (xs : List ℕ)
    → slice_get dag.entries place ≡ Some entry → entry.node ≡ Import i xs → AreAt entry.orders xs (map (λ v. v.order) (variables_of_import (slice_get imports i)))
imports_have_orders imports calls lowered dag is_lowered is =
    import_orders imports lowered.orders dag.entries (children_of_roots dag.roots) is.graph.nodes is.graph.used
    (roots_fit imports calls lowered.orders dag.entries is.graph.nodes.nodes lowered.roots dag.roots is.roots is_lowered.roots)
