-- Each node of the graph of a source occurs in one of its roots.
use Rattle.std.proofs.Common.{◌≡◌, ℕ, zero, suc, ◌+◌, ◌<◌, ◌≤◌, ⊎_elim, List, [], ◌∷◌, length, map, get_or, slice_get, slice_index, All, Contains, Some, refl, sym, ap, subst, ◌∙◌, arith}
use Rattle.std.specs.List.Sorted.{IsStrictlyIncreasing}
use Rattle.std.specs.Option.{option_map}
use Rattle.std.proofs.lemmas.List.{get_or-map, length-map}
use Rattle.std.proofs.lemmas.List.Elements.{All-cons, All-nil, All-map, All-contains}
use Rattle.std.proofs.lemmas.List.Kept.{AllPairs-from_increasing}
use Rattle.std.proofs.lemmas.Option.{same_Some, slice_get_within}
use Rattle.ms_logic_core.specs.declared.core_formula.Root.{Root}
use Rattle.ms_logic.specs.declared.mode.Order.{Order}
use Rattle.ms_logic_core.specs.CoreForm.{CoreForm, truth, falsity, basic, negation, conjunction, disjunction, implication, equivalence, restrict, imported, quantified}
use Rattle.ms_logic_core.specs.Calls.{Calls}
use Rattle.ms_dag.specs.declared.dag.SharedRoot.{SharedRoot}
use Rattle.ms_dag.specs.declared.node.Child.{Child}
use Rattle.ms_dag.specs.declared.node.DagNode.{DagNode}
use Rattle.ms_dag.specs.declared.node.Entry.{Entry}
use Rattle.ms_dag.specs.Dag.{IsChild, IsDag, children_of, orders_inside}
use Rattle.ms_dag.specs.Places.{AreBelow, picked}
use Rattle.ms_dag.specs.Share.{AreRootsOf, children_of_roots}
use Rattle.ms_dag.specs.Unfolds.{Unfolds}
use Rattle.ms_dag.proofs.BinderLemmas.{rising_push}
use Rattle.ms_dag.proofs.PlaceLemmas.{AreAt-length, HaveOrders-length}
use Rattle.ms_dag_steps.specs.Laws.{NodesOccurInRoots}
use Rattle.ms_dag_steps.specs.Occurrences.{Occurs, OccursInRoot, whole_formula}
use Rattle.ms_dag_steps.specs.NodeSteps.{ChildOccurs}
use Rattle.ms_dag_steps.specs.inner.Parts.{IsFormula, names_inside, parts_of}
use Rattle.ms_dag_steps.proofs.PartLemmas.{IsOneOf, children_are_parts}
use Rattle.ms_dag_steps.proofs.SubformulaLemmas.{itself, part_below}

-- rising names at rising places rise
pub picked_rise : (names places : List ℕ) → IsStrictlyIncreasing names → IsStrictlyIncreasing places → AreBelow (length names) places → IsStrictlyIncreasing (picked names places)
picked_rise names places names_rise places_rise below k within =
    let long = length-map places (slice_index names) in
    let first = get_or-map (slice_index names) places k 0 0 (omega arith) in
    let second = get_or-map (slice_index names) places (k + 1) 0 0 (omega arith) in
    let up : get_or places k 0 < get_or places (k + 1) 0 = places_rise k (omega arith) in
    let less : get_or names (get_or places k 0) 0 < get_or names (get_or places (k + 1) 0) 0 =
    AllPairs-from_increasing names names_rise (get_or places k 0) (get_or places (k + 1) 0) 0 up (below (k + 1) 0 (omega arith)) in
    omega (arith, first, second, less)

-- the names for the parts of a formula rise, too
pub inside_rises : (entries : List Entry) (f : CoreForm) (names : List ℕ) (i : ℕ) → Unfolds entries f names i → IsStrictlyIncreasing names → IsStrictlyIncreasing (names_inside f names)
inside_rises entries truth names i unfolds rising = rising
inside_rises entries falsity names i unfolds rising = rising
inside_rises entries (basic b) names i unfolds rising = rising
inside_rises entries (negation f) names i unfolds rising = rising
inside_rises entries (conjunction fs) names i unfolds rising = rising
inside_rises entries (disjunction fs) names i unfolds rising = rising
inside_rises entries (implication f g) names i unfolds rising = rising
inside_rises entries (equivalence f g) names i unfolds rising = rising
inside_rises entries (restrict f) names i unfolds rising = rising
inside_rises entries (imported n xs) names i unfolds rising = rising
inside_rises entries (quantified q o x d f) names i unfolds rising = rising_push names x rising unfolds.3

-- a child of a node that occurs does as a part of the node's formula
pub child_occurs : (whole : CoreForm) (entries : List Entry) (f : CoreForm) (names : List ℕ) (place : ℕ) → Occurs whole entries f names place → (outer : List Order) (child : Child) → IsChild entries place outer child
    → (part : CoreForm) → Contains (parts_of f) part → IsFormula entries part (names_inside f names) place child → ChildOccurs whole entries (names_inside f names) part child
child_occurs whole entries f names place at outer child is part there reads =
    let inside = names_inside f names in
    let given = is.ordered in
    let long = AreAt-length outer child.map given.0.orders given.2 in
    record {
      subformula = part_below whole f part at.subformula there;
      rising = picked_rise inside child.map (inside_rises entries f names place at.unfolds at.rising) is.rising reads.0.within;
      own = ap (option_map length) (ap (option_map (λ (e : Entry). e.orders)) given.1) ∙ ap Some (sym (length-map child.map (slice_index inside) ∙ long));
      unfolds = reads.1;
    }

module _ (calls : Calls) (roots : List Root) (entries : List Entry) where
  abbrev AreOccurring : List Child → Type 0
  AreOccurring children = All (λ (c : Child). OccursInRoot calls roots entries c.node) children

  -- the node of a root is its formula
  roots_occur : (orders : List Order) (some : List Root) (shared : List SharedRoot) (before : ℕ) → ((k : ℕ) (root : Root) → slice_get some k ≡ Some root → slice_get roots (before + k) ≡ Some root)
      → AreRootsOf calls orders entries some shared → AreOccurring (children_of_roots shared)
  roots_occur orders [] [] before at are = All-nil (λ (c : Child). OccursInRoot calls roots entries c.node)
  roots_occur orders [] (s ∷ ss) before at are = absurd are
  roots_occur orders (r ∷ rs) [] before at are = absurd are
  roots_occur orders (r ∷ rs) (s ∷ ss) before at are =
      let entry = are.0.ordered in
      let long = HaveOrders-length orders s.child.map entry.0.orders entry.2 in
      All-cons (λ (c : Child). OccursInRoot calls roots entries c.node) s.child (children_of_roots ss)
      (record {
        number = before + 0;
        root = r;
        is_root = at 0 r refl;
        formula = whole_formula calls r;
        names = s.child.map;
        occurs = record {
          subformula = itself (whole_formula calls r);
          rising = are.0.rising;
          own = ap (option_map length) (ap (option_map (λ (e : Entry). e.orders)) entry.1) ∙ ap Some (sym long);
          unfolds = are.0.unfolds;
        };
      })
      (roots_occur orders rs ss (before + 1) (λ k root held.
      let next : before + 1 + k ≡ before + suc k = omega arith in
      subst (λ place. slice_get roots place ≡ Some root) (sym next) (at (suc k) root held)) are.1)

  module _ (shared : List Child) (graph : IsDag entries shared) (at_roots : AreOccurring shared) where
    children_occur : (place : ℕ) (entry : Entry) → slice_get entries place ≡ Some entry → OccursInRoot calls roots entries place → AreOccurring (children_of entry.node)
    children_occur place entry held at k d within =
        let inside = children_are_parts entries at.formula at.names place at.occurs.unfolds in
        let same : inside.0 ≡ entry.node = same_Some inside.0 entry.node (sym inside.1 ∙ ap (option_map (λ e. e.node)) held) in
        let parts = subst (λ (node : DagNode). All (IsOneOf entries (parts_of at.formula) (names_inside at.formula at.names) place) (children_of node)) same inside.2 in
        let child = get_or (children_of entry.node) k d in
        let part = parts k d within in
        record {
          number = at.number;
          root = at.root;
          is_root = at.is_root;
          formula = part.0;
          names = picked (names_inside at.formula at.names) child.map;
          occurs = child_occurs (whole_formula calls at.root) entries at.formula at.names place at.occurs (orders_inside entry.node entry.orders) child ((graph.nodes.nodes place entry held).children k d within) part.0 part.1 part.2;
        }

    -- each node does, since it is that of a root or a child of a node with a greater number
    all_occur : (rounds i : ℕ) → i < length entries → length entries ≤ i + rounds → OccursInRoot calls roots entries i
    all_occur zero i within near = absurd (omega (arith, within, near))
    all_occur (suc rounds) i within near = ⊎_elim
        (λ of_root. All-contains (OccursInRoot calls roots entries) (map (λ (c : Child). c.node) shared) i (All-map (OccursInRoot calls roots entries) (λ (c : Child). c.node) shared at_roots) of_root)
        (λ of_node.
        let k = of_node.0 in
        let entry = of_node.1 in
        let held = of_node.2 in
        let smaller = i_is_smaller i k entry held of_node.3 in
        let found = all_occur rounds k (slice_get_within entries k entry held) (omega (arith, near, smaller)) in
        let children = children_occur k entry held found in
        All-contains (OccursInRoot calls roots entries) (map (λ (c : Child). c.node) (children_of entry.node)) i
        (All-map (OccursInRoot calls roots entries) (λ (c : Child). c.node) (children_of entry.node) children) of_node.3)
        (graph.used i within)
      where
        i_is_smaller : (i k : ℕ) (entry : Entry) → slice_get entries k ≡ Some entry → Contains (map (λ (c : Child). c.node) (children_of entry.node)) i → i < k
        i_is_smaller i k entry held there =
            All-contains (λ j. j < k) (map (λ (c : Child). c.node) (children_of entry.node)) i
            (All-map (λ j. j < k) (λ (c : Child). c.node) (children_of entry.node)
            (λ place d within. ((graph.nodes.nodes k entry held).children place d within).part.smaller)) there

pub nodes_occur_in_roots : NodesOccurInRoots
nodes_occur_in_roots calls lowered dag place is within =
    let shared = children_of_roots dag.roots in
    let at_roots = roots_occur calls lowered.roots dag.entries lowered.orders lowered.roots dag.roots 0 (λ k root held. let same : 0 + k ≡ k = omega arith in subst (λ p. slice_get lowered.roots p ≡ Some root) (sym same) held) is.roots in
    all_occur calls lowered.roots dag.entries shared is.graph at_roots (length dag.entries) place within (omega arith)
