-- The formula that a quantifier's node is where it occurs.
use Rattle.std.proofs.Common.{◌≡◌, ℕ, All, List, [], ◌∷◌, ◌++◌, Contains, length, slice_get, Option, Some, None, refl, sym, ap, subst, ◌∙◌}
use Rattle.std.specs.Option.{option_map}
use Rattle.std.proofs.lemmas.List.Elements.{All-head, All-tail}
use Rattle.std.proofs.lemmas.Option.{same_Some}
use Rattle.ms_dag.specs.Dag.{AreNodes, IsChild, children_of, children_of_binder, orders_inside}
use Rattle.ms_dag.specs.Places.{AreBelow}
use Rattle.ms_dag.specs.Unfolds.{ReadAs, Unfolds, UnfoldsIn, node_at}
use Rattle.ms_dag.specs.declared.node.Child.{Child}
use Rattle.ms_dag.specs.declared.node.DagNode.{DagNode}
use Rattle.ms_dag.specs.declared.node.DagNode.TheVariants.{True, False, Basic, Not, And, Or, Implies, Iff, Restrict, Import, Bind}
use Rattle.ms_dag.specs.declared.node.Entry.{Entry}
use Rattle.ms_dag_steps.specs.NodeSteps.{ChildOccurs, RestrictionOccurs}
use Rattle.ms_dag_steps.specs.Occurrences.{Occurs}
use Rattle.ms_dag_steps.specs.OwnSteps.{own_steps}
use Rattle.ms_dag_steps.proofs.OccurrenceLemmas.{child_occurs}
use Rattle.ms_diagram.proofs.ListLemmas.{Contains-first, Contains-rest}
use Rattle.ms_logic.specs.declared.mode.Order.{Order}
use Rattle.ms_logic.specs.declared.mode.Quant.{Quant}
use Rattle.ms_logic_core.specs.CoreForm.{CoreForm, truth, falsity, basic, negation, conjunction, disjunction, implication, equivalence, restrict, imported, quantified, CoreRestriction, unrestricted, restricted}
use Rattle.ms_logic_core.specs.Operands.{variable}
use Rattle.ms_logic_measures.specs.Steps.{binding}

-- the restriction and the body of a quantifier occur
module _ (whole : CoreForm) (entries : List Entry) (q : Quant) (o : Order) (x : ℕ) (names : List ℕ) (i : ℕ) (outer : List Order) where
  inside_occurs : (r : CoreRestriction) (g : CoreForm) → Occurs whole entries (quantified q o x r g) names i → (d : Option Child) (c : Child) → All (IsChild entries i outer) (children_of_binder d c)
      → UnfoldsIn entries r (names ++ x ∷ []) i d → ReadAs (λ given j. Unfolds entries g given j) (names ++ x ∷ []) i c
      → RestrictionOccurs whole entries (names ++ x ∷ []) r d × ChildOccurs whole entries (names ++ x ∷ []) g c
  inside_occurs unrestricted g at None c all unfolds reads =
      (tt, child_occurs whole entries (quantified q o x unrestricted g) names i at outer c (All-head (IsChild entries i outer) c [] all) g (Contains-first g []) reads)
  inside_occurs unrestricted g at (Some d) c all unfolds reads = absurd unfolds
  inside_occurs (restricted r) g at None c all unfolds reads = absurd unfolds
  inside_occurs (restricted r) g at (Some d) c all unfolds reads = (
    child_occurs whole entries (quantified q o x (restricted r) g) names i at outer d (All-head (IsChild entries i outer) d (c ∷ []) all) r (Contains-first r (g ∷ [])) unfolds,
    child_occurs whole entries (quantified q o x (restricted r) g) names i at outer c
        (All-head (IsChild entries i outer) c [] (All-tail (IsChild entries i outer) d (c ∷ []) all)) g (Contains-rest r (g ∷ []) g (Contains-first g [])) reads,
  )

-- a formula is a quantifier with this restriction and body, which occur: its variable is above all names, and its step is the formula's own
pub record IsBoundBy (whole : CoreForm) (entries : List Entry) (names : List ℕ) (i : ℕ) (f : CoreForm) (q : Quant) (o : Order) (d : Option Child) (c : Child) : Type 0 where
  pub x : ℕ
  pub r : CoreRestriction
  pub body : CoreForm
  pub is : f ≡ quantified q o x r body
  pub above : AreBelow x names
  pub restriction_occurs : RestrictionOccurs whole entries (names ++ x ∷ []) r d
  pub body_occurs : ChildOccurs whole entries (names ++ x ∷ []) body c
  pub reads : ReadAs (λ given j. Unfolds entries body given j) (names ++ x ∷ []) i c
  pub step : Contains (own_steps f) (binding (variable x o) r body)

module _ (whole : CoreForm) (entries : List Entry) (names : List ℕ) (i : ℕ) (entry : Entry) (held : slice_get entries i ≡ Some entry) (nodes : AreNodes entries)
    (q : Quant) (o : Order) (k : ℕ) (d : Option Child) (c : Child) (is_bind : entry.node ≡ Bind q o k d c) where
  abbrev IsBoundAt : CoreForm → DagNode → Type 0
  IsBoundAt f (Bind q o k d c) = IsBoundBy whole entries names i f q o d c
  IsBoundAt f node = Unit {0}

  here : (node : DagNode) → node_at entries i ≡ Some node → node ≡ Bind q o k d c
  here node there = same_Some node (Bind q o k d c) (sym there ∙ ap (option_map (λ (e : Entry). e.node)) held ∙ ap Some is_bind)

  by_form : (f : CoreForm) → Occurs whole entries f names i → Unfolds entries f names i → IsBoundBy whole entries names i f q o d c
  by_form truth at unfolds = let same = here True unfolds in let never : ⊥ = cc in absurd never
  by_form falsity at unfolds = let same = here False unfolds in let never : ⊥ = cc in absurd never
  by_form (basic b) at unfolds = let same = here (Basic unfolds.0) unfolds.1 in let never : ⊥ = cc in absurd never
  by_form (negation f) at unfolds = let same = here (Not unfolds.0) unfolds.1 in let never : ⊥ = cc in absurd never
  by_form (conjunction fs) at unfolds = let same = here (And unfolds.0) unfolds.1 in let never : ⊥ = cc in absurd never
  by_form (disjunction fs) at unfolds = let same = here (Or unfolds.0) unfolds.1 in let never : ⊥ = cc in absurd never
  by_form (implication f g) at unfolds = let same = here (Implies unfolds.0 unfolds.1) unfolds.2 in let never : ⊥ = cc in absurd never
  by_form (equivalence f g) at unfolds = let same = here (Iff unfolds.0 unfolds.1) unfolds.2 in let never : ⊥ = cc in absurd never
  by_form (restrict f) at unfolds = let same = here (Restrict unfolds.0) unfolds.1 in let never : ⊥ = cc in absurd never
  by_form (imported n xs) at unfolds = let same = here (Import n unfolds.0) unfolds.1 in let never : ⊥ = cc in absurd never
  by_form (quantified q' o' x r g) at unfolds =
      let own = Bind q' o' (length names) unfolds.0 unfolds.1 in
      let same : own ≡ Bind q o k d c = here own unfolds.2 in
      let is_own : entry.node ≡ own = is_bind ∙ sym same in
      let children : All (IsChild entries i (entry.orders ++ o' ∷ [])) (children_of_binder unfolds.0 unfolds.1)
      = subst (λ (n : DagNode). All (IsChild entries i (orders_inside n entry.orders)) (children_of n)) is_own (nodes.nodes i entry held).children in
      let occur = inside_occurs whole entries q' o' x names i (entry.orders ++ o' ∷ []) r g at unfolds.0 unfolds.1 children unfolds.4 unfolds.5 in
      let found : IsBoundBy whole entries names i (quantified q' o' x r g) q' o' unfolds.0 unfolds.1
      = record {
        x = x;
        r = r;
        body = g;
        is = refl;
        above = unfolds.3;
        restriction_occurs = occur.0;
        body_occurs = occur.1;
        reads = unfolds.5;
        step = Contains-first (binding (variable x o') r g) [];
      } in
      subst (IsBoundAt (quantified q' o' x r g)) same found

  pub bound_by : (f : CoreForm) → Occurs whole entries f names i → IsBoundBy whole entries names i f q o d c
  bound_by f at = by_form f at at.unfolds

  -- its restriction and its body are read at its own variables and the bound one
  pub bound_children : All (IsChild entries i (entry.orders ++ o ∷ [])) (children_of_binder d c)
  bound_children = subst (λ (n : DagNode). All (IsChild entries i (orders_inside n entry.orders)) (children_of n)) is_bind (nodes.nodes i entry held).children
