-- A node that has got a number is one of the graph.
use Rattle.std.proofs.Common.{◌≡◌, ℕ, ◌<◌, ◌≤◌, List, [], ◌∷◌, ◌++◌, length, map, get_or, slice_get, All, Contains, Some, refl, sym, ◌∙◌, ap, subst, inl, inr, ⊎_elim, arith}
use Rattle.std.proofs.lemmas.Bool.{cases_lt}
use Rattle.std.proofs.lemmas.List.{length-append}
use Rattle.std.proofs.lemmas.List.Elements.{All-nil, All-cons, All-head, All-tail, All-append}
use Rattle.std.proofs.lemmas.Option.{slice_get_within, slice_get-get_or}
use Rattle.std.specs.List.Sorted.{IsStrictlyIncreasing}
use Rattle.std.specs.Option.{option_map}
use Rattle.ms_arena.proofs.Lists.{slice_get-append_left, slice_get-pushed}
use Rattle.ms_logic.specs.declared.mode.Order.{Order}
use Rattle.ms_logic_core.specs.CoreForm.{CoreForm, CoreForms, no_forms, more_forms}
use Rattle.ms_dag.specs.declared.node.Child.{Child}
use Rattle.ms_dag.specs.declared.node.DagNode.{DagNode}
use Rattle.ms_dag.specs.declared.node.Entry.{Entry}
use Rattle.ms_diagram.specs.Numbering.{HasNoRepeats, Numbers}
use Rattle.ms_dag.specs.Dag.{children_of, orders_inside, HasOwnOrders, places_in_maps, places_of, IsChild, IsNode, AreNodes}
use Rattle.ms_dag.specs.Laws.{HaveOrders}
use Rattle.ms_dag.specs.inner.Maps.{IsPlaced, AreTheSameIn}
use Rattle.ms_dag.specs.Places.{AreBelow}
use Rattle.ms_dag.specs.inner.Shared.{IsShared, AreShared, Grown, IsMade, IsAbove, Keeps}
use Rattle.ms_dag.specs.Unfolds.{node_at, IsPartOf, ReadAs, Unfolds, UnfoldEach}
use Rattle.ms_dag.proofs.Growth.{Keeps-numbers, Unfolds-kept, IsNode-kept}
use Rattle.ms_dag.proofs.PlaceLemmas.{AreAt-within, AreAt-picked, AreAt-inner, HaveOrders-length, places_rise, placed_place}

-- what is known of a part: its variables rise, and have the orders of its node's own
pub record IsKnown (orders : List Order) (entries : List Entry) (part : Child) : Type 0 where
  pub rising : IsStrictlyIncreasing part.map
  pub ordered : (entry : Entry) × (slice_get entries part.node ≡ Some entry) × HaveOrders orders part.map entry.orders

pub IsKnown-shared : (orders : List Order) (entries : List Entry) (f : CoreForm) (part : Child) → IsShared orders entries f part → IsKnown orders entries part
IsKnown-shared orders entries f part is = record { rising = is.rising; ordered = is.ordered }

pub AreKnown-shared : (orders : List Order) (entries : List Entry) (fs : CoreForms) (parts : List Child) → AreShared orders entries fs parts → All (IsKnown orders entries) parts
AreKnown-shared orders entries no_forms [] are = All-nil (IsKnown orders entries)
AreKnown-shared orders entries no_forms (p ∷ ps) are = absurd are
AreKnown-shared orders entries (more_forms f fs) [] are = absurd are
AreKnown-shared orders entries (more_forms f fs) (p ∷ ps) are =
    All-cons (IsKnown orders entries) p ps (IsKnown-shared orders entries f p are.0) (AreKnown-shared orders entries fs ps are.1)

-- the parts have the nodes of the placed ones
pub same_nodes : (among : List ℕ) (parts placed : List Child) → AreTheSameIn among parts placed → map (λ (c : Child). c.node) parts ≡ map (λ (c : Child). c.node) placed
same_nodes among [] [] same = refl
same_nodes among [] (c ∷ cs) same = absurd same
same_nodes among (p ∷ ps) [] same = absurd same
same_nodes among (p ∷ ps) (c ∷ cs) same = let first = same.0.node in let others = same_nodes among ps cs same.1 in cc

module _ (orders : List Order) (entries : List Entry) (among : List ℕ) (inner : List Order) (rising : IsStrictlyIncreasing among) (outer : HaveOrders orders among inner) (i : ℕ) (above : length entries ≤ i) where
  -- a placed part is a child
  child_is : (part placed : Child) → IsPlaced among part placed → IsKnown orders entries part → IsChild entries i inner placed
  child_is part placed same known =
      let node : placed.node ≡ part.node = same.node in
      let held : slice_get entries placed.node ≡ Some known.ordered.0 = ap (slice_get entries) node ∙ known.ordered.1 in
      let below = slice_get_within entries placed.node known.ordered.0 held in
      let long = HaveOrders-length orders among inner outer in
      record {
        part = record {
          smaller = omega arith;
          within = subst (λ n. AreBelow n placed.map) long (AreAt-within among placed.map part.map same.places);
        };
        rising = places_rise among rising placed.map part.map known.rising same.places;
        ordered = (known.ordered.0, held, AreAt-inner orders among inner outer placed.map part.map known.ordered.0.orders same.places known.ordered.2);
      }

  pub children_are : (parts placed : List Child) → AreTheSameIn among parts placed → All (IsKnown orders entries) parts → All (IsChild entries i inner) placed
  children_are [] [] same known = All-nil (IsChild entries i inner)
  children_are [] (c ∷ cs) same known = absurd same
  children_are (p ∷ ps) [] same known = absurd same
  children_are (p ∷ ps) (c ∷ cs) same known =
      All-cons (IsChild entries i inner) c cs (child_is p c same.0 (All-head (IsKnown orders entries) p ps known)) (children_are ps cs same.1 (All-tail (IsKnown orders entries) p ps known))

-- nodes of which no two are equal stay so when one is numbered
distinct_made : (old new : List Entry) (entry : Entry) → HasNoRepeats old → Numbers old new entry → HasNoRepeats new
distinct_made old new entry distinct (inl same) = subst (λ list. HasNoRepeats list) (sym same) distinct
distinct_made old new entry distinct (inr added) = subst (λ list. HasNoRepeats list) (sym added.1) (λ one two item first second.
    ⊎_elim
    (λ there. ⊎_elim (λ here. distinct one two item there here) (λ last. absurd (added.0 one (there ∙ ap Some (sym last.1)))) (slice_get-pushed old entry two item second))
    (λ last. ⊎_elim (λ here. absurd (added.0 two (here ∙ ap Some (sym last.1)))) (λ also. last.0 ∙ sym also.0) (slice_get-pushed old entry two item second))
    (slice_get-pushed old entry one item first))

-- a node that was made, and is one above what was there
module _ (orders : List Order) (mid new : List Entry) (node : DagNode) (names : List ℕ) (child : Child) (made : IsMade orders mid new node names child) (nodes : AreNodes mid)
    (is_node : IsNode mid (length mid) (record { node = node; orders = made.own })) where
  abbrev entry : Entry
  entry = record { node = node; orders = made.own }

  keeps : Keeps mid new
  keeps = Keeps-numbers mid new entry made.numbers

  each_node : Numbers mid new entry → (i : ℕ) (e : Entry) → slice_get new i ≡ Some e → IsNode new i e
  each_node (inl same) i e held = IsNode-kept mid new keeps i e (nodes.nodes i e (ap (λ list. slice_get list i) (sym same) ∙ held))
  each_node (inr added) i e held =
      ⊎_elim (λ there. IsNode-kept mid new keeps i e (nodes.nodes i e there))
      (λ last. let P : ℕ → Type 0 = λ k. IsNode new k e in let Q : Entry → Type 0 = λ one. IsNode new (length mid) one in
      subst P (sym last.0) (subst Q last.1 (IsNode-kept mid new keeps (length mid) entry is_node)))
      (slice_get-pushed mid entry i e (ap (λ list. slice_get list i) (sym added.1) ∙ held))

  pub AreNodes-made : AreNodes new
  AreNodes-made = record {
    nodes = each_node made.numbers;
    distinct = distinct_made mid new entry nodes.distinct made.numbers;
  }

  pub made_is_node : IsNode new child.node entry
  made_is_node = AreNodes-made.nodes child.node entry made.number

  pub node_at-made : node_at new child.node ≡ Some node
  node_at-made = ap (option_map (λ (e : Entry). e.node)) made.number

  used_last : Numbers mid new entry → (i : ℕ) → length mid ≤ i → i < length new → i ≡ child.node
  used_last (inl same) i from below = let long = ap length same in absurd (omega (arith, from, below))
  used_last (inr added) i from below =
      let long = ap length added.1 ∙ length-append mid (entry ∷ []) in
      let held : slice_get (mid ++ entry ∷ []) child.node ≡ Some entry = ap (λ list. slice_get list child.node) (sym added.1) ∙ made.number in
      ⊎_elim (λ there. absurd (added.0 child.node there)) (λ last. let at = last.0 in omega arith) (slice_get-pushed mid entry child.node entry held)

  pub Grown-made : (old : List Entry) (parts : List Child) → map (λ (c : Child). c.node) parts ≡ map (λ (c : Child). c.node) (children_of node) → Grown old mid parts → Grown old new (child ∷ [])
  Grown-made old parts same grown = record {
    kept = λ i e held. keeps i e (grown.kept i e held);
    nodes = AreNodes-made;
    used = λ i from below.
        ⊎_elim (λ within. ⊎_elim
        (λ top. inr (child.node, entry, made.number, subst (λ list. Contains list i) same top))
        (λ other. inr (other.0, other.1, keeps other.0 other.1 other.2, other.3)) (grown.used i from within))
        (λ past. inl (0, omega arith, sym (used_last made.numbers i past below))) (cases_lt i (length mid));
  }

-- the same for a node above some parts
module _ (orders : List Order) (mid new : List Entry) (bound : List ℕ) (parts : List Child) (node : DagNode) (child : Child) (above : IsAbove orders mid new bound parts node child)
    (known : All (IsKnown orders mid) parts) (inside : HaveOrders orders (child.map ++ bound) (orders_inside node above.made.own)) (own : HasOwnOrders node above.made.own)
    (places : places_of node ≡ places_in_maps (children_of node)) where
  free_above : (j : ℕ) → j < length above.made.own → Contains (places_of node) j
  free_above j below =
      let long = HaveOrders-length orders child.map above.made.own above.made.ordered in
      let within : j < length child.map = omega arith in
      let name = get_or child.map j 0 in
      let held : slice_get (child.map ++ bound) j ≡ Some name = slice_get-append_left child.map bound j within ∙ slice_get-get_or child.map j 0 within in
      subst (λ list. Contains list j) (sym places)
      (placed_place (child.map ++ bound) above.rising parts (children_of node) j name above.children held (above.back j 0 within))

  pub above_is_node : IsNode mid (length mid) (record { node = node; orders = above.made.own })
  above_is_node = record {
    children = children_are orders mid (child.map ++ bound) (orders_inside node above.made.own) above.rising inside (length mid) (omega arith) parts (children_of node) above.children known;
    own = own;
    free = free_above;
  }

-- a part that is a formula, placed below its node
pub read_as : (orders : List Order) (mid new : List Entry) (f : CoreForm) (among : List ℕ) (inner : List Order) (part placed : Child) (i : ℕ) → Keeps mid new → IsShared orders mid f part → IsPlaced among part placed →
    length inner ≡ length among → IsChild new i inner placed → ReadAs (λ given j. Unfolds new f given j) among i placed
read_as orders mid new f among inner part placed i kept is same long child =
    let P : ℕ → Type 0 = λ n. IsPartOf i n placed in
    let Q : ℕ → Type 0 = λ n. Unfolds new f part.map n in
    let R : List ℕ → Type 0 = λ given. Unfolds new f given placed.node in
    (subst P long child.part, subst R (sym (AreAt-picked among placed.map part.map same.places)) (subst Q (sym same.node) (Unfolds-kept mid new kept f part.map part.node is.unfolds)))

pub read_each : (orders : List Order) (mid new : List Entry) (fs : CoreForms) (among : List ℕ) (inner : List Order) (parts placed : List Child) (i : ℕ) → Keeps mid new → AreShared orders mid fs parts → AreTheSameIn among parts placed →
    length inner ≡ length among → All (IsChild new i inner) placed → UnfoldEach new fs among i placed
read_each orders mid new no_forms among inner [] [] i kept are same long children = tt
read_each orders mid new no_forms among inner [] (c ∷ cs) i kept are same long children = absurd same
read_each orders mid new no_forms among inner (p ∷ ps) placed i kept are same long children = absurd are
read_each orders mid new (more_forms f fs) among inner [] placed i kept are same long children = absurd are
read_each orders mid new (more_forms f fs) among inner (p ∷ ps) [] i kept are same long children = absurd same
read_each orders mid new (more_forms f fs) among inner (p ∷ ps) (c ∷ cs) i kept are same long children =
    (read_as orders mid new f among inner p c i kept are.0 same.0 long (All-head (IsChild new i inner) c cs children), read_each orders mid new fs among inner ps cs i kept are.1 same.1 long (All-tail (IsChild new i inner) c cs children))

-- a fact of each variable of each part
pub All-places : (P : ℕ → Type 0) (parts : List Child) → All (λ (p : Child). All P p.map) parts → All P (places_in_maps parts)
All-places P [] each = All-nil P
All-places P (p ∷ ps) each =
    All-append P p.map (places_in_maps ps) (All-head (λ (c : Child). All P c.map) p ps each) (All-places P ps (All-tail (λ (c : Child). All P c.map) p ps each))
