-- The own variables of a node are the free ones of each formula that it is.
use Rattle.std.proofs.Common.{◌≡◌, ℕ, zero, suc, ◌<◌, List, [], ◌∷◌, length, map, get_or, slice_get, slice_index, All, Contains, Some, refl, sym, ap, ap₂, subst, ◌∙◌, ⊎_elim, arith}
use Rattle.std.specs.Option.{option_map}
use Rattle.std.proofs.lemmas.List.{get_or-map, get_or_append_left, get_or_default, length-map}
use Rattle.std.proofs.lemmas.List.Elements.{All-contains, All-head, All-tail, Contains-append_cases}
use Rattle.std.proofs.lemmas.Option.{same_Some, slice_get-get_or}
use Rattle.ms_arena.proofs.Lists.{slice_get-append_left}
use Rattle.ms_diagram.proofs.ListLemmas.{Contains-cases, Contains-first, Contains-none, Contains-rest, same_rising}
use Rattle.ms_diagram.proofs.RootLemmas.{Contains-from_mapped, Contains-mapped}
use Rattle.ms_logic.specs.declared.mode.Order.{Order}
use Rattle.ms_logic.specs.Assignment.{Variable}
use Rattle.ms_logic.specs.Lists.{Each}
use Rattle.ms_logic.specs.Truth.{Import as Imported}
use Rattle.ms_logic_core.specs.declared.core_formula.Basic.{Basic as Relation}
use Rattle.ms_logic_core.specs.CoreForm.{CoreForm, truth, falsity, basic, negation, conjunction, disjunction, implication, equivalence, restrict, imported, quantified, CoreForms, no_forms, more_forms, CoreRestriction, unrestricted, restricted}
use Rattle.ms_logic_core.specs.Operands.{variable, variables_at, variables_of_basic}
use Rattle.ms_logic_core.specs.Orders.{order_at}
use Rattle.ms_logic_core.specs.Spread.{variables_of_import}
use Rattle.ms_logic_core.specs.Stands.{EachStands, RestrictionStands, Stands}
use Rattle.ms_logic_measures.specs.Steps.{free_variables}
use Rattle.ms_dag.specs.declared.node.Child.{Child}
use Rattle.ms_dag.specs.declared.node.DagNode.{DagNode}
use Rattle.ms_dag.specs.declared.node.DagNode.TheVariants.{True, False, Basic, Not, And, Or, Implies, Iff, Restrict, Import, Bind}
use Rattle.ms_dag.specs.declared.node.Entry.{Entry}
use Rattle.ms_dag.specs.Dag.{HasOwnOrders, IsChild, IsNode, children_of, orders_inside, places_in_maps, places_of}
use Rattle.ms_dag.specs.Laws.{EachHasItsOrders, HasOrder, HaveTheirOrders, RestrictionHasItsOrders}
use Rattle.ms_dag.specs.Lowered.{IsLoweredRoot}
use Rattle.ms_dag.specs.Places.{AreAt, picked}
use Rattle.ms_dag.specs.Unfolds.{Unfolds, names_of_basic, node_at, renamed}
use Rattle.ms_dag.proofs.ImportOrders.{imports_have_orders}
use Rattle.ms_dag.proofs.PlaceLemmas.{AreAt-at, AreAt-length}
use Rattle.ms_dag_steps.specs.Laws.{OwnVariablesAreFree}
use Rattle.ms_dag_steps.specs.Occurrences.{variables_named, whole_formula}
use Rattle.ms_dag_steps.specs.inner.Parts.{forms_of, names_inside, parts_of, restrictions_of}
use Rattle.ms_dag_steps.proofs.FreeLemmas.{IsNotBound, free_of_part, free_ordered, free_rise, free_within, names_at, variables_renamed}
use Rattle.ms_dag_steps.proofs.JoinedLemmas.{IsNamed, joined_left, named, rise_increasing}
use Rattle.ms_dag_steps.proofs.PartLemmas.{IsOneOf, children_are_parts}
use Rattle.ms_dag_steps.proofs.SubformulaLemmas.{goes_down, one_of_two, only}

-- the names inside a formula begin with those of the formula
names_begin : (f : CoreForm) (names : List ℕ) (j : ℕ) → j < length names → slice_index (names_inside f names) j ≡ slice_index names j
names_begin truth names j below = refl
names_begin falsity names j below = refl
names_begin (basic b) names j below = refl
names_begin (negation f) names j below = refl
names_begin (conjunction fs) names j below = refl
names_begin (disjunction fs) names j below = refl
names_begin (implication f g) names j below = refl
names_begin (equivalence f g) names j below = refl
names_begin (restrict f) names j below = refl
names_begin (imported n xs) names j below = refl
names_begin (quantified q o x d f) names j below = get_or_append_left names (x ∷ []) 0 j below

-- so do the orders inside a node
orders_begin : (node : DagNode) (orders : List Order) (j : ℕ) → j < length orders → slice_get (orders_inside node orders) j ≡ slice_get orders j
orders_begin True orders j below = refl
orders_begin False orders j below = refl
orders_begin (Basic b) orders j below = refl
orders_begin (Not c) orders j below = refl
orders_begin (And cs) orders j below = refl
orders_begin (Or cs) orders j below = refl
orders_begin (Implies c d) orders j below = refl
orders_begin (Iff c d) orders j below = refl
orders_begin (Restrict c) orders j below = refl
orders_begin (Import n xs) orders j below = refl
orders_begin (Bind q o k d c) orders j below = slice_get-append_left orders (o ∷ []) j below

-- a place in the maps of children is in that of one of them
in_maps : (P : Child → Type 0) (children : List Child) → All P children → (j : ℕ) → Contains (places_in_maps children) j → (c : Child) × P c × Contains c.map j
in_maps P [] all j there = absurd (Contains-none j there)
in_maps P (c ∷ cs) all j there =
    ⊎_elim (λ here. (c, All-head P c cs all, here)) (λ later. in_maps P cs (All-tail P c cs all) j later) (Contains-append_cases c.map (places_in_maps cs) j there)

module _ (imports : List Imported) (globals : List Order) where
  -- the variables of a formula stand in a scope, and have their orders
  abbrev IsKnown : CoreForm → Type 0
  IsKnown f = (scope : List Variable) × Stands imports scope f × HaveTheirOrders imports globals f

  known_one : (fs : CoreForms) (scope : List Variable) → EachStands imports scope fs → EachHasItsOrders imports globals fs → (g : CoreForm) → Contains (forms_of fs) g → IsKnown g
  known_one no_forms scope stand have g part = absurd (Contains-none g part)
  known_one (more_forms f fs) scope stand have g part =
      ⊎_elim (λ same. subst IsKnown (sym same) (scope, stand.0, have.0)) (λ later. known_one fs scope stand.1 have.1 g later) (Contains-cases f (forms_of fs) g part)

  known_restriction : (d : CoreRestriction) (scope : List Variable) → RestrictionStands imports scope d → RestrictionHasItsOrders imports globals d → (g : CoreForm) → Contains (restrictions_of d) g → IsKnown g
  known_restriction unrestricted scope stands have g part = absurd (Contains-none g part)
  known_restriction (restricted d) scope stands have g part = subst IsKnown (sym (only g d part)) (scope, stands, have)

  -- the same is known of its parts
  known_part : (f g : CoreForm) → IsKnown f → Contains (parts_of f) g → IsKnown g
  known_part truth g known part = absurd (Contains-none g part)
  known_part falsity g known part = absurd (Contains-none g part)
  known_part (basic b) g known part = absurd (Contains-none g part)
  known_part (negation f) g known part = subst IsKnown (sym (only g f part)) known
  known_part (conjunction fs) g known part = known_one fs known.0 known.1 known.2 g part
  known_part (disjunction fs) g known part = known_one fs known.0 known.1 known.2 g part
  known_part (implication f h) g known part =
      ⊎_elim (λ same. subst IsKnown (sym same) (known.0, known.1.0, known.2.0)) (λ same. subst IsKnown (sym same) (known.0, known.1.1, known.2.1)) (one_of_two g f h part)
  known_part (equivalence f h) g known part =
      ⊎_elim (λ same. subst IsKnown (sym same) (known.0, known.1.0, known.2.0)) (λ same. subst IsKnown (sym same) (known.0, known.1.1, known.2.1)) (one_of_two g f h part)
  known_part (restrict f) g known part = subst IsKnown (sym (only g f part)) known
  known_part (imported n xs) g known part = absurd (Contains-none g part)
  known_part (quantified q o x d f) g known part =
      let scope = record { name = x; order = o } ∷ known.0 in
      ⊎_elim (λ above. known_restriction d scope known.1.1 known.2.1 g above) (λ below. subst IsKnown (sym (only g f below)) (scope, known.1.2, known.2.2))
      (Contains-append_cases (restrictions_of d) (f ∷ []) g part)

  -- the variable at a place is free in the formula, with its order
  abbrev IsOwn : CoreForm → List ℕ → List Order → ℕ → Type 0
  IsOwn f names orders j = IsNamed (free_variables imports f) (slice_index names j) × (slice_get orders j ≡ Some (order_at globals (slice_index names j)))

  own_of_relation : (b own : Relation) (names : List ℕ) (orders : List Order) → b ≡ renamed (slice_index names) own → All (λ (v : Variable). slice_get orders v.name ≡ Some v.order) (variables_of_basic own)
      → All (HasOrder globals) (variables_of_basic b) → (j : ℕ) → Contains (names_of_basic own) j → IsOwn (basic b) names orders j
  own_of_relation b own names orders same own_orders have j there =
      let found = Contains-from_mapped (λ (v : Variable). v.name) (variables_of_basic own) j there in
      let v = found.0 in
      let w = variable (slice_index names v.name) v.order in
      let listed : variables_of_basic b ≡ map (λ (u : Variable). variable (slice_index names u.name) u.order) (variables_of_basic own) = ap variables_of_basic same ∙ variables_renamed (slice_index names) own in
      let moved : Contains (variables_of_basic b) w =
      subst (λ vs. Contains vs w) (sym listed) (Contains-mapped (λ (u : Variable). variable (slice_index names u.name) u.order) (variables_of_basic own) v found.1) in
      let ordered : order_at globals w.name ≡ w.order = All-contains (HasOrder globals) (variables_of_basic b) w have moved in
      let held = All-contains (λ (u : Variable). slice_get orders u.name ≡ Some u.order) (variables_of_basic own) v own_orders found.1 in
      subst (IsOwn (basic b) names orders) found.2 (joined_left (variables_of_basic b) [] w.name (named (variables_of_basic b) w moved), held ∙ ap Some (sym ordered))

  -- the orders of the variables at which an import stands are those of its own
  orders_at : (xs : List ℕ) (vs : List Variable) → length xs ≡ length vs → All (HasOrder globals) (variables_at xs vs) → map (order_at globals) xs ≡ map (λ (v : Variable). v.order) vs
  orders_at [] [] long have = refl
  orders_at [] (v ∷ vs) long have = absurd (omega (arith, long))
  orders_at (x ∷ xs) [] long have = absurd (omega (arith, long))
  orders_at (x ∷ xs) (v ∷ vs) long have =
      ap₂ (λ o os. o ∷ os) (All-head (HasOrder globals) (variable x v.order) (variables_at xs vs) have) (orders_at xs vs (omega (arith, long)) (All-tail (HasOrder globals) (variable x v.order) (variables_at xs vs) have))

  own_of_import : (n : ℕ) (xs own names : List ℕ) (orders : List Order) → xs ≡ picked names own → length xs ≡ length (variables_of_import (slice_get imports n))
      → All (HasOrder globals) (variables_at xs (variables_of_import (slice_get imports n))) → AreAt orders own (map (λ (v : Variable). v.order) (variables_of_import (slice_get imports n)))
      → (j : ℕ) → Contains own j → IsOwn (imported n xs) names orders j
  own_of_import n xs own names orders same long have at j there =
      let vs = variables_of_import (slice_get imports n) in
      let name = slice_index names j in
      let place : get_or own there.0 0 ≡ j = get_or_default own there.0 0 j there.1 ∙ there.2 in
      let listed : Contains (map (λ (v : Variable). v.name) (variables_at xs vs)) name =
      subst (λ ys. Contains ys name) (sym (names_at xs vs long ∙ same)) (Contains-mapped (slice_index names) own j there) in
      let given : map (λ (v : Variable). v.order) vs ≡ map (order_at globals) (picked names own) = sym (orders_at xs vs long have) ∙ ap (map (order_at globals)) same in
      let count = length-map own (slice_index names) in
      let here = AreAt-at orders own (map (order_at globals) (picked names own)) (subst (AreAt orders own) given at) there.0 (order_at globals name) there.1 in
      let order : get_or (map (order_at globals) (picked names own)) there.0 (order_at globals name) ≡ order_at globals name =
      get_or-map (order_at globals) (picked names own) there.0 0 (order_at globals name) (omega (arith, count, there.1))
      ∙ ap (order_at globals) (get_or-map (slice_index names) own there.0 0 0 there.1 ∙ ap (slice_index names) place) in
      (joined_left (variables_at xs vs) [] name listed, ap (slice_get orders) (sym place) ∙ here ∙ ap Some order)

  module _ (entries : List Entry) (nodes : (i : ℕ) (entry : Entry) → slice_get entries i ≡ Some entry → IsNode entries i entry)
      (of_imports : (place : ℕ) (entry : Entry) (n : ℕ) (xs : List ℕ) → slice_get entries place ≡ Some entry → entry.node ≡ Import n xs
      → AreAt entry.orders xs (map (λ v. v.order) (variables_of_import (slice_get imports n)))) where
    -- a name of a node is not that of the variable which its formula binds
    not_bound : (f : CoreForm) (names : List ℕ) (i : ℕ) → Unfolds entries f names i → (j : ℕ) → j < length names → IsNotBound imports f (slice_index names j)
    not_bound truth names i unfolds j below = tt
    not_bound falsity names i unfolds j below = tt
    not_bound (basic b) names i unfolds j below = tt
    not_bound (negation f) names i unfolds j below = tt
    not_bound (conjunction fs) names i unfolds j below = tt
    not_bound (disjunction fs) names i unfolds j below = tt
    not_bound (implication f g) names i unfolds j below = tt
    not_bound (equivalence f g) names i unfolds j below = tt
    not_bound (restrict f) names i unfolds j below = tt
    not_bound (imported n xs) names i unfolds j below = tt
    not_bound (quantified q o x d f) names i unfolds j below = λ same. let less : get_or names j 0 < x = unfolds.3 j 0 below in omega (arith, less, same)

    -- what is to be shown of a node
    abbrev HasOwn : ℕ → Type 0
    HasOwn i =
        (entry : Entry) → slice_get entries i ≡ Some entry → (f : CoreForm) (names : List ℕ) → length names ≡ length entry.orders → Unfolds entries f names i → IsKnown f
        → (j : ℕ) → j < length names → IsOwn f names entry.orders j

    module _ (i : ℕ) (entry : Entry) (held : slice_get entries i ≡ Some entry) (f : CoreForm) (names : List ℕ) (long : length names ≡ length entry.orders) (unfolds : Unfolds entries f names i)
        (known : IsKnown f) (j : ℕ) (below : j < length names) where
      -- by a child that has the variable
      of_child : (child : Child) → IsOneOf entries (parts_of f) (names_inside f names) i child → IsChild entries i (orders_inside entry.node entry.orders) child → Contains child.map j
          → HasOwn child.node → IsOwn f names entry.orders j
      of_child child part is there deep =
          let inside = names_inside f names in
          let outer = orders_inside entry.node entry.orders in
          let p = there.0 in
          let inner = is.ordered.0 in
          let count = length-map child.map (slice_index inside) in
          let same_length = AreAt-length outer child.map inner.orders is.ordered.2 in
          let place : get_or child.map p 0 ≡ j = get_or_default child.map p 0 j there.1 ∙ there.2 in
          let found = deep inner is.ordered.1 part.0 (picked inside child.map) (count ∙ same_length) part.2.1 (known_part f part.0 known part.1) p (omega (arith, count, there.1)) in
          let name : slice_index (picked inside child.map) p ≡ slice_index names j =
          get_or-map (slice_index inside) child.map p 0 0 there.1 ∙ ap (slice_index inside) place ∙ names_begin f names j below in
          let order : slice_get entry.orders j ≡ slice_get inner.orders p =
          sym (orders_begin entry.node entry.orders j (omega (arith, below, long))) ∙ ap (slice_get outer) (sym place) ∙ AreAt-at outer child.map inner.orders is.ordered.2 p (order_at globals 0) there.1
          ∙ sym (slice_get-get_or inner.orders p (order_at globals 0) (omega (arith, same_length, there.1))) in (
            free_of_part imports f part.0 part.1 (slice_index names j) (not_bound f names i unfolds j below) (subst (IsNamed (free_variables imports part.0)) name found.0),
            order ∙ found.1 ∙ ap (λ n. Some (order_at globals n)) name,
          )

      module _ (deep : (k : ℕ) → k < i → HasOwn k) where
        by_maps : Contains (places_in_maps (children_of entry.node)) j → IsOwn f names entry.orders j
        by_maps there =
            let Part : Child → Type 0 = IsOneOf entries (parts_of f) (names_inside f names) i in
            let Below : Child → Type 0 = IsChild entries i (orders_inside entry.node entry.orders) in
            let inside = children_are_parts entries f names i unfolds in
            let same : inside.0 ≡ entry.node = same_Some inside.0 entry.node (sym inside.1 ∙ ap (option_map (λ e. e.node)) held) in
            let parts = subst (λ (node : DagNode). All Part (children_of node)) same inside.2 in
            let children = (nodes i entry held).children in
            let found = in_maps (λ c. Part c × Below c) (children_of entry.node) (λ k d within. (parts k d within, children k d within)) j there in
            of_child found.0 found.1.0 found.1.1 found.2 (deep (found.0).node found.1.1.part.smaller)

      -- by the node, whose places are the variable's
      by_node : (node : DagNode) → node_at entries i ≡ Some node → (entry.node ≡ node → Contains (places_of node) j → IsOwn f names entry.orders j) → IsOwn f names entry.orders j
      by_node node is step =
          let same : entry.node ≡ node = same_Some entry.node node (sym (ap (option_map (λ e. e.node)) held) ∙ is) in
          step same (subst (λ n. Contains (places_of n) j) same ((nodes i entry held).free j (omega (arith, below, long))))

    -- where those of the node are in the maps of its children
    of_maps : (i : ℕ) → ((k : ℕ) → k < i → HasOwn k) → (entry : Entry) → slice_get entries i ≡ Some entry → (f : CoreForm) (names : List ℕ) → length names ≡ length entry.orders
        → Unfolds entries f names i → IsKnown f → (j : ℕ) → j < length names → (node : DagNode) → node_at entries i ≡ Some node
        → (Contains (places_of node) j → Contains (places_in_maps (children_of node)) j) → IsOwn f names entry.orders j
    of_maps i deep entry held f names long unfolds known j below node is inside = by_node i entry held f names long unfolds known j below node is
        (λ same there. by_maps i entry held f names long unfolds known j below deep (subst (λ n. Contains (places_in_maps (children_of n)) j) (sym same) (inside there)))

    -- the form of the formula decides
    by_form : (i : ℕ) → ((k : ℕ) → k < i → HasOwn k) → HasOwn i
    by_form i deep entry held truth names long unfolds known j below = by_node i entry held truth names long unfolds known j below True unfolds (λ same there. absurd (Contains-none j there))
    by_form i deep entry held falsity names long unfolds known j below = by_node i entry held falsity names long unfolds known j below False unfolds (λ same there. absurd (Contains-none j there))
    by_form i deep entry held (basic b) names long unfolds known j below = by_node i entry held (basic b) names long unfolds known j below (Basic unfolds.0) unfolds.1
        (λ same there. own_of_relation b unfolds.0 names entry.orders unfolds.3 (subst (λ node. HasOwnOrders node entry.orders) same (nodes i entry held).own) known.2 j there)
    by_form i deep entry held (negation f) names long unfolds known j below = of_maps i deep entry held (negation f) names long unfolds known j below (Not unfolds.0) unfolds.1 (λ there. there)
    by_form i deep entry held (conjunction fs) names long unfolds known j below = of_maps i deep entry held (conjunction fs) names long unfolds known j below (And unfolds.0) unfolds.1 (λ there. there)
    by_form i deep entry held (disjunction fs) names long unfolds known j below = of_maps i deep entry held (disjunction fs) names long unfolds known j below (Or unfolds.0) unfolds.1 (λ there. there)
    by_form i deep entry held (implication f g) names long unfolds known j below =
        of_maps i deep entry held (implication f g) names long unfolds known j below (Implies unfolds.0 unfolds.1) unfolds.2 (λ there. there)
    by_form i deep entry held (equivalence f g) names long unfolds known j below =
        of_maps i deep entry held (equivalence f g) names long unfolds known j below (Iff unfolds.0 unfolds.1) unfolds.2 (λ there. there)
    by_form i deep entry held (restrict f) names long unfolds known j below = of_maps i deep entry held (restrict f) names long unfolds known j below (Restrict unfolds.0) unfolds.1 (λ there. there)
    by_form i deep entry held (imported n xs) names long unfolds known j below = by_node i entry held (imported n xs) names long unfolds known j below (Import n unfolds.0) unfolds.1
        (λ same there. own_of_import n xs unfolds.0 names entry.orders unfolds.3 known.1.0 known.2 (of_imports i entry n unfolds.0 held same) j there)
    by_form i deep entry held (quantified q o x d f) names long unfolds known j below =
        of_maps i deep entry held (quantified q o x d f) names long unfolds known j below (Bind q o (length names) unfolds.0 unfolds.1) unfolds.2 (λ there. there)

    all_own : (rounds i : ℕ) → i < rounds → HasOwn i
    all_own zero i within = absurd (omega (arith, within))
    all_own (suc rounds) i within = by_form i (λ k below. all_own rounds k (omega (arith, below, within)))

-- the variables of some names with their orders, by the orders of all
named_variables : (globals : List Order) (names : List ℕ) (orders : List Order) → length names ≡ length orders → ((j : ℕ) → j < length names → slice_get orders j ≡ Some (order_at globals (slice_index names j)))
    → map (λ n. variable n (order_at globals n)) names ≡ variables_named names orders
named_variables globals [] orders long at = refl
named_variables globals (n ∷ names) [] long at = absurd (omega (arith, long))
named_variables globals (n ∷ names) (o ∷ orders) long at =
    ap₂ (λ v vs. v ∷ vs) (ap (variable n) (sym (same_Some o (order_at globals n) (at 0 (omega arith)))))
    (named_variables globals names orders (omega (arith, long)) (λ j below. at (suc j) (omega (arith, below))))

-- variables that have their orders, by their names
by_names : (globals : List Order) (vs : List Variable) → ((v : Variable) → Contains vs v → HasOrder globals v) → vs ≡ map (λ n. variable n (order_at globals n)) (map (λ (v : Variable). v.name) vs)
by_names globals [] have = refl
by_names globals (v ∷ vs) have = ap₂ (λ w ws. w ∷ ws) (ap (variable v.name) (sym (have v (Contains-first v vs)))) (by_names globals vs (λ w there. have w (Contains-rest v vs w there)))

-- an item of a list of which something holds
each_at : {X : Type 0} (P : X → Type 0) (xs : List X) → Each P xs → (k : ℕ) (x : X) → slice_get xs k ≡ Some x → P x
each_at P [] each k x held = absurd (let never : ⊥ = cc in never)
each_at P (y ∷ ys) each zero x held = subst P (same_Some y x held) each.0
each_at P (y ∷ ys) each (suc k) x held = each_at P ys each.1 k x held

pub own_variables_are_free : OwnVariablesAreFree
own_variables_are_free imports calls lowered dag number root f names place entry is_lowered is is_root held at =
    let globals = lowered.orders in
    let entries = dag.entries in
    let whole = each_at (IsLoweredRoot imports calls globals) lowered.roots is_lowered.roots number root is_root in
    let known = goes_down (IsKnown imports globals) (λ h g. known_part imports globals h g) (whole_formula calls root) f (whole.own, whole.stands, whole.orders_of_all) at.subformula in
    let long : length names ≡ length entry.orders = same_Some _ _ (sym at.own ∙ ap (option_map length) (ap (option_map (λ (e : Entry). e.orders)) held)) in
    let own = all_own imports globals entries is.graph.nodes.nodes (imports_have_orders imports calls lowered dag is_lowered is) (suc place) place (omega arith) entry held f names long at.unfolds known in
    let free = free_variables imports f in
    let numbers = map (λ (v : Variable). v.name) free in
    let same : numbers ≡ names =
    same_rising numbers names (rise_increasing free (free_rise imports f)) at.rising
    (λ n there.
    let found = Contains-from_mapped (λ (v : Variable). v.name) free n there in
    subst (Contains names) found.2 (free_within imports entries f names place at.unfolds found.0 found.1))
    (λ n there.
    let is_named : slice_index names there.0 ≡ n = get_or_default names there.0 0 n there.1 ∙ there.2 in
    subst (Contains numbers) is_named (own there.0 there.1).0) in
    by_names globals free (free_ordered imports globals f known.2) ∙ ap (map (λ n. variable n (order_at globals n))) same ∙ named_variables globals names entry.orders long (λ j below. (own j below).1)
