-- The imports of nodes are those of the core formulas that they reads to.
use Rattle.std.proofs.Common.{◌≡◌, ℕ, zero, suc, ◌+◌, ◌<◌, ◌≤◌, ⊎_elim, List, [], ◌∷◌, ◌++◌, length, map, slice_get, All, Contains, Option, Some, None, refl, sym, ap, subst, ◌∙◌, arith}
use Rattle.std.specs.Option.{option_map}
use Rattle.std.proofs.lemmas.List.Elements.{All-cons, All-nil, All-map, All-contains}
use Rattle.std.proofs.lemmas.Option.{same_Some, slice_get_within}
use Rattle.ms_logic_core.specs.declared.core_formula.Root as code
use Rattle.ms_logic.specs.declared.mode.Order.{Order}
use Rattle.ms_logic_core.specs.CoreForm.{CoreForm, core_form_of, truth, falsity, basic, negation, conjunction, disjunction, implication, equivalence, restrict, imported, quantified, CoreForms, no_forms, more_forms, CoreRestriction, unrestricted, restricted}
use Rattle.ms_logic_core.specs.Calls.{Calls, filled}
use Rattle.ms_dag.specs.declared.dag.SharedRoot.{SharedRoot}
use Rattle.ms_dag.specs.declared.node.Child.{Child}
use Rattle.ms_dag.specs.declared.node.DagNode.{DagNode}
use Rattle.ms_dag.specs.declared.node.DagNode.TheVariants.{True, False, Basic, Not, And, Or, Implies, Iff, Restrict, Import, Bind}
use Rattle.ms_dag.specs.declared.node.Entry.{Entry}
use Rattle.ms_dag.specs.Dag.{IsDag, children_of, children_of_binder}
use Rattle.ms_dag.specs.Imports.{EachImportsBelow, ImportsBelow, NodesImportAsRootsDo, RestrictionImportsBelow, RootsImportBelow}
use Rattle.ms_dag.specs.Places.{picked}
use Rattle.ms_dag.specs.Share.{AreRootsOf, children_of_roots}
use Rattle.ms_dag.specs.Unfolds.{UnfoldEach, Unfolds, UnfoldsIn, node_at}

module _ (entries : List Entry) (count : ℕ) where
  -- a node unfolds to a formula with imports below the count
  abbrev IsBelow : ℕ → Type 0
  IsBelow i = (f : CoreForm) × (names : List ℕ) × Unfolds entries f names i × ImportsBelow count f

  abbrev AreBelow : List Child → Type 0
  AreBelow children = All (λ (c : Child). IsBelow c.node) children

  one_below : (child : Child) → IsBelow child.node → AreBelow (child ∷ [])
  one_below child below = All-cons (λ (c : Child). IsBelow c.node) child [] below (All-nil (λ (c : Child). IsBelow c.node))

  two_below : (left right : Child) → IsBelow left.node → IsBelow right.node → AreBelow (left ∷ right ∷ [])
  two_below left right first second = All-cons (λ (c : Child). IsBelow c.node) left (right ∷ []) first (one_below right second)

  none_below : AreBelow []
  none_below = All-nil (λ (c : Child). IsBelow c.node)

  each_below : (fs : CoreForms) (names : List ℕ) (i : ℕ) (children : List Child) → UnfoldEach entries fs names i children → EachImportsBelow count fs → AreBelow children
  each_below no_forms names i [] reads below = none_below
  each_below no_forms names i (child ∷ children) reads below = absurd reads
  each_below (more_forms f fs) names i [] reads below = absurd reads
  each_below (more_forms f fs) names i (child ∷ children) reads below =
      All-cons (λ (c : Child). IsBelow c.node) child children (f, picked names child.map, reads.0.1, below.0) (each_below fs names i children reads.1 below.1)

  binder_below : (d : CoreRestriction) (f : CoreForm) (names : List ℕ) (i : ℕ) (domain : Option Child) (body : Child) → UnfoldsIn entries d names i domain → RestrictionImportsBelow count d
      → IsBelow body.node → AreBelow (children_of_binder domain body)
  binder_below unrestricted f names i None body reads below inside = one_below body inside
  binder_below unrestricted f names i (Some child) body reads below inside = absurd reads
  binder_below (restricted d) f names i None body reads below inside = absurd reads
  binder_below (restricted d) f names i (Some child) body reads below inside = two_below child body (d, picked names child.map, reads.1, below) inside

  -- so do its children
  abbrev HasChildrenBelow : ℕ → Type 0
  HasChildrenBelow i = (node : DagNode) × (node_at entries i ≡ Some node) × AreBelow (children_of node)

  children_below : (f : CoreForm) (names : List ℕ) (i : ℕ) → Unfolds entries f names i → ImportsBelow count f → HasChildrenBelow i
  children_below truth names i unfolds below = (True, unfolds, none_below)
  children_below falsity names i unfolds below = (False, unfolds, none_below)
  children_below (basic b) names i unfolds below = (Basic unfolds.0, unfolds.1, none_below)
  children_below (negation f) names i unfolds below = (Not unfolds.0, unfolds.1, one_below unfolds.0 (f, picked names (unfolds.0).map, unfolds.2.1, below))
  children_below (conjunction fs) names i unfolds below = (And unfolds.0, unfolds.1, each_below fs names i unfolds.0 unfolds.2 below)
  children_below (disjunction fs) names i unfolds below = (Or unfolds.0, unfolds.1, each_below fs names i unfolds.0 unfolds.2 below)
  children_below (implication f g) names i unfolds below = (
    Implies unfolds.0 unfolds.1,
    unfolds.2,
    two_below unfolds.0 unfolds.1 (f, picked names (unfolds.0).map, unfolds.3.1, below.0) (g, picked names (unfolds.1).map, unfolds.4.1, below.1),
  )
  children_below (equivalence f g) names i unfolds below = (
    Iff unfolds.0 unfolds.1,
    unfolds.2,
    two_below unfolds.0 unfolds.1 (f, picked names (unfolds.0).map, unfolds.3.1, below.0) (g, picked names (unfolds.1).map, unfolds.4.1, below.1),
  )
  children_below (restrict f) names i unfolds below = (Restrict unfolds.0, unfolds.1, one_below unfolds.0 (f, picked names (unfolds.0).map, unfolds.2.1, below))
  children_below (imported n xs) names i unfolds below = (Import n unfolds.0, unfolds.1, none_below)
  children_below (quantified q o x d f) names i unfolds below = (
    Bind q o (length names) unfolds.0 unfolds.1,
    unfolds.2,
    binder_below d f (names ++ x ∷ []) i unfolds.0 unfolds.1 unfolds.4 below.0 (f, picked (names ++ x ∷ []) (unfolds.1).map, unfolds.5.1, below.1),
  )

  -- and a node that is an import is one of them
  import_below : (f : CoreForm) (names : List ℕ) (place i : ℕ) (xs : List ℕ) → Unfolds entries f names place → ImportsBelow count f → node_at entries place ≡ Some (Import i xs) → i < count
  import_below truth names place i xs unfolds below is = let both : Some True ≡ Some (Import i xs) = sym unfolds ∙ is in let never : ⊥ = cc in absurd never
  import_below falsity names place i xs unfolds below is = let both : Some False ≡ Some (Import i xs) = sym unfolds ∙ is in let never : ⊥ = cc in absurd never
  import_below (basic b) names place i xs unfolds below is = let both : Some (Basic unfolds.0) ≡ Some (Import i xs) = sym unfolds.1 ∙ is in let never : ⊥ = cc in absurd never
  import_below (negation f) names place i xs unfolds below is = let both : Some (Not unfolds.0) ≡ Some (Import i xs) = sym unfolds.1 ∙ is in let never : ⊥ = cc in absurd never
  import_below (conjunction fs) names place i xs unfolds below is = let both : Some (And unfolds.0) ≡ Some (Import i xs) = sym unfolds.1 ∙ is in let never : ⊥ = cc in absurd never
  import_below (disjunction fs) names place i xs unfolds below is = let both : Some (Or unfolds.0) ≡ Some (Import i xs) = sym unfolds.1 ∙ is in let never : ⊥ = cc in absurd never
  import_below (implication f g) names place i xs unfolds below is = let both : Some (Implies unfolds.0 unfolds.1) ≡ Some (Import i xs) = sym unfolds.2 ∙ is in let never : ⊥ = cc in absurd never
  import_below (equivalence f g) names place i xs unfolds below is = let both : Some (Iff unfolds.0 unfolds.1) ≡ Some (Import i xs) = sym unfolds.2 ∙ is in let never : ⊥ = cc in absurd never
  import_below (restrict f) names place i xs unfolds below is = let both : Some (Restrict unfolds.0) ≡ Some (Import i xs) = sym unfolds.1 ∙ is in let never : ⊥ = cc in absurd never
  import_below (imported n ys) names place i xs unfolds below is = let both : Some (Import n unfolds.0) ≡ Some (Import i xs) = sym unfolds.1 ∙ is in let same : n ≡ i = cc in subst (λ m. m < count) same below
  import_below (quantified q o x d f) names place i xs unfolds below is = let both : Some (Bind q o (length names) unfolds.0 unfolds.1) ≡ Some (Import i xs) = sym unfolds.2 ∙ is in let never : ⊥ = cc in absurd never

  -- the nodes of the roots reads to their formulas
  roots_below : (calls : Calls) (orders : List Order) (roots : List code.Root) (shared : List SharedRoot) → AreRootsOf calls orders entries roots shared → RootsImportBelow calls count roots → AreBelow (children_of_roots shared)
  roots_below calls orders [] [] are below = none_below
  roots_below calls orders [] (s ∷ ss) are below = absurd are
  roots_below calls orders (r ∷ rs) [] are below = absurd are
  roots_below calls orders (r ∷ rs) (s ∷ ss) are below =
      All-cons (λ (c : Child). IsBelow c.node) s.child (children_of_roots ss) (filled calls (core_form_of r.core), s.child.map, are.0.unfolds, below 0 r refl)
      (roots_below calls orders rs ss are.1 (λ k root is. below (suc k) root is))

  module _ (roots : List Child) (graph : IsDag entries roots) (at_roots : AreBelow roots) where
    -- each node does, since it is that of a root or a child of a node with a greater number
    all_below : (rounds i : ℕ) → i < length entries → length entries ≤ i + rounds → IsBelow i
    all_below zero i within near = absurd (omega (arith, within, near))
    all_below (suc rounds) i within near = ⊎_elim
        (λ of_root. All-contains IsBelow (map (λ (c : Child). c.node) roots) i (All-map IsBelow (λ (c : Child). c.node) roots at_roots) of_root)
        (λ of_node.
        let k = of_node.0 in
        let entry = of_node.1 in
        let held = of_node.2 in
        let smaller = i_is_smaller i k entry held of_node.3 in
        let found = all_below rounds k (slice_get_within entries k entry held) (omega (arith, near, smaller)) in
        let inside = children_below found.0 found.1 k found.2 found.3 in
        let same : inside.0 ≡ entry.node = same_Some inside.0 entry.node (sym inside.1 ∙ ap (option_map (λ e. e.node)) held) in
        let children = subst (λ node. AreBelow (children_of node)) same inside.2 in
        All-contains IsBelow (map (λ (c : Child). c.node) (children_of entry.node)) i (All-map IsBelow (λ (c : Child). c.node) (children_of entry.node) children) of_node.3)
        (graph.used i within)
      where
        i_is_smaller : (i k : ℕ) (entry : Entry) → slice_get entries k ≡ Some entry → Contains (map (λ (c : Child). c.node) (children_of entry.node)) i → i < k
        i_is_smaller i k entry held there =
            All-contains (λ j. j < k) (map (λ (c : Child). c.node) (children_of entry.node)) i
            (All-map (λ j. j < k) (λ (c : Child). c.node) (children_of entry.node)
            (λ place d within. ((graph.nodes.nodes k entry held).children place d within).part.smaller)) there

pub nodes_import_as_roots_do : NodesImportAsRootsDo
nodes_import_as_roots_do calls lowered dag count is roots place entry i xs held import =
    let shared = children_of_roots dag.roots in
    let found = all_below dag.entries count shared is.graph (roots_below dag.entries count calls lowered.orders lowered.roots dag.roots is.roots roots) (length dag.entries) place
    (slice_get_within dag.entries place entry held) (omega arith) in
    import_below dag.entries count found.0 found.1 place i xs found.2 found.3 (ap (option_map (λ e. e.node)) held ∙ ap Some import)
