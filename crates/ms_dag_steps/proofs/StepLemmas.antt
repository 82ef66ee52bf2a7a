-- The steps of nodes, which are own steps of the formulas that they are.
use Rattle.std.proofs.Common.{◌≡◌, ℕ, zero, suc, ◌<◌, List, [], ◌∷◌, ◌++◌, length, take, slice_get, All, Contains, Option, Some, None, refl, sym, ap, subst, ◌∙◌, append_assoc, append-nil, arith}
use Rattle.std.specs.List.{AllZip}
use Rattle.std.specs.Option.{option_map}
use Rattle.ms_logic.specs.declared.mode.Order.{Order}
use Rattle.std.proofs.lemmas.List.Elements.{All-head, All-tail}
use Rattle.std.proofs.lemmas.Option.{same_Some, slice_get_within, slice_get-get_or}
use Rattle.ms_diagram.proofs.ListLemmas.{Contains-first, Contains-rest}
use Rattle.ms_logic_core.specs.CoreForm.{CoreForm, truth, falsity, basic, negation, conjunction, disjunction, implication, equivalence, restrict, imported, quantified, CoreForms, no_forms, more_forms, CoreRestriction, unrestricted, restricted, core_forms}
use Rattle.ms_logic_core.specs.Operands.{variable}
use Rattle.ms_logic_measures.specs.Steps.{Step, connected, connective, constant, steps_of_list}
use Rattle.ms_logic_measures.specs.Steps as step
use Rattle.ms_dag.specs.declared.node.Child.{Child}
use Rattle.ms_dag.specs.declared.node.DagNode.{DagNode}
use Rattle.ms_dag.specs.declared.node.DagNode.TheVariants.{True, False, Basic, Not, And, Or, Implies, Iff, Restrict, Import, Bind}
use Rattle.ms_dag.specs.declared.node.Entry.{Entry}
use Rattle.ms_dag.specs.Dag.{IsChild, IsNode, children_of, children_of_binder, orders_inside}
use Rattle.ms_dag.specs.Unfolds.{UnfoldEach, Unfolds, UnfoldsIn, node_at}
use Rattle.ms_dag_steps.specs.Laws.{NodesHaveTheirSteps, PrefixesAreOperands}
use Rattle.ms_dag_steps.specs.NodeSteps.{ChildOccurs, HasItsSteps, HasStepsOfList, Prefix, RestrictionOccurs}
use Rattle.ms_dag_steps.specs.Occurrences.{Occurs}
use Rattle.ms_dag_steps.specs.OwnSteps.{own_steps}
use Rattle.ms_dag_steps.specs.inner.Parts.{IsFormula, forms_of, names_inside, parts_of, restrictions_of}
use Rattle.ms_dag_steps.proofs.OccurrenceLemmas.{child_occurs}
use Rattle.ms_dag_steps.proofs.SubformulaSteps.{own_of_conjunction, own_of_disjunction}

-- a list of operands is that of its formulas
same_operands : (fs : CoreForms) → core_forms (forms_of fs) ≡ fs
same_operands no_forms = refl
same_operands (more_forms f fs) = ap (more_forms f) (same_operands fs)

module _ (connect : CoreForms → CoreForm) where
  -- step k of the operands behind some connects those and the next k with the one after them
  step_behind : (first : CoreForm) (before rest : List CoreForm) (k : ℕ) (next : CoreForm) → slice_get rest k ≡ Some next
      → slice_get (steps_of_list connect (first ∷ before) (core_forms rest)) k ≡ Some (connective (connected connect (first ∷ (before ++ take k rest))) next)
  step_behind first before [] k next held = absurd (let never : ⊥ = cc in never)
  step_behind first before (f ∷ fs) zero next held =
      let same : f ≡ next = same_Some f next held in
      ap Some (ap (λ g. connective (connected connect (first ∷ before)) g) same) ∙ ap (λ list. Some (connective (connected connect (first ∷ list)) next)) (sym (append-nil before))
  step_behind first before (f ∷ fs) (suc k) next held =
      step_behind first (before ++ f ∷ []) fs k next held ∙ ap (λ list. Some (connective (connected connect (first ∷ list)) next)) (append_assoc before (f ∷ []) (take k fs))

  module _ (entries : List Entry) (names : List ℕ) (i : ℕ) where
    -- the first so many children are the first so many operands
    front : (k : ℕ) (operands : List CoreForm) (children : List Child) → UnfoldEach entries (core_forms operands) names i children
        → UnfoldEach entries (core_forms (take k operands)) names i (take k children)
    front zero operands children are = tt
    front (suc k) [] [] are = tt
    front (suc k) [] (c ∷ cs) are = absurd are
    front (suc k) (f ∷ fs) [] are = absurd are
    front (suc k) (f ∷ fs) (c ∷ cs) are = (are.0, front k fs cs are.1)

    -- the child at a place is the operand there
    record Both (operands : List CoreForm) (children : List Child) (k : ℕ) : Type 0 where
      pub operand : CoreForm
      pub child : Child
      pub is_operand : slice_get operands k ≡ Some operand
      pub is_child : slice_get children k ≡ Some child
      pub reads : IsFormula entries operand names i child

    both : (k : ℕ) (operands : List CoreForm) (children : List Child) → UnfoldEach entries (core_forms operands) names i children → k < length children → Both operands children k
    both k [] [] are within = absurd (omega (arith, within))
    both k [] (c ∷ cs) are within = absurd are
    both k (f ∷ fs) [] are within = absurd are
    both zero (f ∷ fs) (c ∷ cs) are within = record { operand = f; child = c; is_operand = refl; is_child = refl; reads = are.0 }
    both (suc k) (f ∷ fs) (c ∷ cs) are within =
        let later = both k fs cs are.1 (omega (arith, within)) in
        record { operand = later.operand; child = later.child; is_operand = later.is_operand; is_child = later.is_child; reads = later.reads }

    prefix_of : (operands : List CoreForm) (children : List Child) → UnfoldEach entries (core_forms operands) names i children → (k : ℕ) → suc k < length children
        → Prefix connect entries operands names i children k
    prefix_of [] [] are k within = absurd (omega (arith, within))
    prefix_of [] (c ∷ cs) are k within = absurd are
    prefix_of (f ∷ fs) [] are k within = absurd are
    prefix_of (f ∷ fs) (c ∷ cs) are k within =
        let next = both (suc k) (f ∷ fs) (c ∷ cs) are within in
        record {
          next = next.operand;
          child = next.child;
          is_next = next.is_operand;
          is_child = next.is_child;
          before = front (suc k) (f ∷ fs) (c ∷ cs) are;
          reads = next.reads;
          step = step_behind f [] fs k next.operand next.is_operand;
        }

pub prefixes_are_operands : PrefixesAreOperands
prefixes_are_operands connect entries operands names i children k are within = prefix_of connect entries names i operands children are k within

module _ (whole : CoreForm) (entries : List Entry) (f : CoreForm) (names : List ℕ) (i : ℕ) (at : Occurs whole entries f names i) (outer : List Order) where
  -- the children of a list of operands occur
  operands_occur : (fs : CoreForms) (children : List Child) → ((g : CoreForm) → Contains (forms_of fs) g → Contains (parts_of f) g) → All (IsChild entries i outer) children
      → UnfoldEach entries fs (names_inside f names) i children → AllZip (ChildOccurs whole entries (names_inside f names)) (forms_of fs) children
  operands_occur no_forms [] parts all are = tt
  operands_occur no_forms (c ∷ cs) parts all are = absurd are
  operands_occur (more_forms g gs) [] parts all are = absurd are
  operands_occur (more_forms g gs) (c ∷ cs) parts all are = (
    child_occurs whole entries f names i at outer c (All-head (IsChild entries i outer) c cs all) g (parts g (Contains-first g (forms_of gs))) are.0,
    operands_occur gs cs (λ h there. parts h (Contains-rest g (forms_of gs) h there)) (All-tail (IsChild entries i outer) c cs all) are.1,
  )

  -- a child alone, two children, and those of a quantifier
  one_occurs : (c : Child) → All (IsChild entries i outer) (c ∷ []) → (g : CoreForm) → Contains (parts_of f) g → IsFormula entries g (names_inside f names) i c → ChildOccurs whole entries (names_inside f names) g c
  one_occurs c all g there reads = child_occurs whole entries f names i at outer c (All-head (IsChild entries i outer) c [] all) g there reads

  two_occur : (c d : Child) → All (IsChild entries i outer) (c ∷ d ∷ []) → (g h : CoreForm) → Contains (parts_of f) g → Contains (parts_of f) h → IsFormula entries g (names_inside f names) i c
      → IsFormula entries h (names_inside f names) i d → ChildOccurs whole entries (names_inside f names) g c × ChildOccurs whole entries (names_inside f names) h d
  two_occur c d all g h there there_too reads reads_too = (
    child_occurs whole entries f names i at outer c (All-head (IsChild entries i outer) c (d ∷ []) all) g there reads,
    one_occurs d (All-tail (IsChild entries i outer) c (d ∷ []) all) h there_too reads_too,
  )

  binder_occurs : (r : CoreRestriction) (g : CoreForm) (d : Option Child) (c : Child) → All (IsChild entries i outer) (children_of_binder d c) → ((h : CoreForm) → Contains (restrictions_of r ++ g ∷ []) h → Contains (parts_of f) h)
      → UnfoldsIn entries r (names_inside f names) i d → IsFormula entries g (names_inside f names) i c
      → RestrictionOccurs whole entries (names_inside f names) r d × ChildOccurs whole entries (names_inside f names) g c
  binder_occurs unrestricted g None c all parts unfolds reads = (tt, one_occurs c all g (parts g (Contains-first g [])) reads)
  binder_occurs unrestricted g (Some d) c all parts unfolds reads = absurd unfolds
  binder_occurs (restricted r) g None c all parts unfolds reads = absurd unfolds
  binder_occurs (restricted r) g (Some d) c all parts unfolds reads =
      two_occur d c all r g (parts r (Contains-first r (g ∷ []))) (parts g (Contains-rest r (g ∷ []) g (Contains-first g []))) unfolds reads

  -- the connective of the children has its steps
  list_steps : (connect : CoreForms → CoreForm) (fs : CoreForms) (children : List Child) → ((g : CoreForm) → Contains (forms_of fs) g → Contains (parts_of f) g) → All (IsChild entries i outer) children
      → UnfoldEach entries fs (names_inside f names) i children → ((s : Step) → Contains (steps_of_list connect [] fs) s → Contains (own_steps f) s)
      → HasStepsOfList whole f connect entries (names_inside f names) i children
  list_steps connect fs children parts all are within = record {
    operands = forms_of fs;
    occur = operands_occur fs children parts all are;
    none = λ empty. within (constant (connect no_forms)) (of_none fs (subst (UnfoldEach entries fs (names_inside f names) i) empty are));
    each = λ k more.
        let here = prefix_of connect entries (names_inside f names) i (forms_of fs) children (subst (λ gs. UnfoldEach entries gs (names_inside f names) i children) (sym (same_operands fs)) are) k more in
        let held = ap (λ gs. slice_get (steps_of_list connect [] gs) k) (sym (same_operands fs)) ∙ here.step in
        (here, within (connective (connected connect (take (suc k) (forms_of fs))) here.next) (there k held));
  }
    where
      of_none : (gs : CoreForms) → UnfoldEach entries gs (names_inside f names) i [] → Contains (steps_of_list connect [] gs) (constant (connect no_forms))
      of_none no_forms none = Contains-first (constant (connect no_forms)) []
      of_none (more_forms g gs) none = absurd none

      there : {s : Step} (k : ℕ) → slice_get (steps_of_list connect [] fs) k ≡ Some s → Contains (steps_of_list connect [] fs) s
      there {s} k held = (
        k,
        slice_get_within (steps_of_list connect [] fs) k s held,
        same_Some _ _ (sym (slice_get-get_or (steps_of_list connect [] fs) k s (slice_get_within (steps_of_list connect [] fs) k s held)) ∙ held),
      )

module _ (whole : CoreForm) (entries : List Entry) (names : List ℕ) (i : ℕ) (entry : Entry) (held : slice_get entries i ≡ Some entry) (is : IsNode entries i entry) where
  abbrev Has : CoreForm → DagNode → Type 0
  Has f node = HasItsSteps whole f entries names i node

  by_node : (f : CoreForm) (node : DagNode) → node_at entries i ≡ Some node → (All (IsChild entries i (orders_inside node entry.orders)) (children_of node) → Has f node) → Has f entry.node
  by_node f node there step =
      let same : entry.node ≡ node = same_Some entry.node node (sym (ap (option_map (λ e. e.node)) held) ∙ there) in
      subst (Has f) (sym same) (step (subst (λ (n : DagNode). All (IsChild entries i (orders_inside n entry.orders)) (children_of n)) same is.children))

  -- a node has the own steps of the formula that it is
  node_steps : (f : CoreForm) → Occurs whole entries f names i → Unfolds entries f names i → Has f entry.node
  node_steps truth at unfolds = by_node truth True unfolds (λ all. Contains-first (constant truth) [])
  node_steps falsity at unfolds = by_node falsity False unfolds (λ all. Contains-first (constant falsity) [])
  node_steps (basic b) at unfolds =
      by_node (basic b) (Basic unfolds.0) unfolds.1 (λ all. subst (λ r. Contains (own_steps (basic b)) (step.relation r)) unfolds.3 (Contains-first (step.relation b) []))
  node_steps (negation f) at unfolds = by_node (negation f) (Not unfolds.0) unfolds.1
      (λ all. (f, one_occurs whole entries (negation f) names i at entry.orders unfolds.0 all f (Contains-first f []) unfolds.2, Contains-first (step.of_one (negation f) f) []))
  node_steps (conjunction fs) at unfolds = by_node (conjunction fs) (And unfolds.0) unfolds.1
      (λ all. list_steps whole entries (conjunction fs) names i at entry.orders conjunction fs unfolds.0 (λ g there. there) all unfolds.2 (λ s there. own_of_conjunction s fs there))
  node_steps (disjunction fs) at unfolds = by_node (disjunction fs) (Or unfolds.0) unfolds.1
      (λ all. list_steps whole entries (disjunction fs) names i at entry.orders disjunction fs unfolds.0 (λ g there. there) all unfolds.2 (λ s there. own_of_disjunction s fs there))
  node_steps (implication f g) at unfolds = by_node (implication f g) (Implies unfolds.0 unfolds.1) unfolds.2
      (λ all.
      let both = two_occur whole entries (implication f g) names i at entry.orders unfolds.0 unfolds.1 all f g (Contains-first f (g ∷ [])) (Contains-rest f (g ∷ []) g (Contains-first g [])) unfolds.3 unfolds.4 in
      (f, g, both.0, both.1, Contains-first (connective f g) []))
  node_steps (equivalence f g) at unfolds = by_node (equivalence f g) (Iff unfolds.0 unfolds.1) unfolds.2
      (λ all.
      let both = two_occur whole entries (equivalence f g) names i at entry.orders unfolds.0 unfolds.1 all f g (Contains-first f (g ∷ [])) (Contains-rest f (g ∷ []) g (Contains-first g [])) unfolds.3 unfolds.4 in
      (f, g, both.0, both.1, Contains-first (connective f g) []))
  node_steps (restrict f) at unfolds = by_node (restrict f) (Restrict unfolds.0) unfolds.1
      (λ all. (f, one_occurs whole entries (restrict f) names i at entry.orders unfolds.0 all f (Contains-first f []) unfolds.2, Contains-first (step.of_one (restrict f) f) []))
  node_steps (imported n xs) at unfolds =
      by_node (imported n xs) (Import n unfolds.0) unfolds.1 (λ all. subst (λ ys. Contains (own_steps (imported n xs)) (step.import_at n ys)) unfolds.3 (Contains-first (step.import_at n xs) []))
  node_steps (quantified q o x d f) at unfolds = by_node (quantified q o x d f) (Bind q o (length names) unfolds.0 unfolds.1) unfolds.2
      (λ all.
      let both = binder_occurs whole entries (quantified q o x d f) names i at (entry.orders ++ o ∷ []) d f unfolds.0 unfolds.1 all (λ h there. there) unfolds.4 unfolds.5 in
      (x, d, f, unfolds.3, both.0, both.1, Contains-first (step.binding (variable x o) d f) []))

pub nodes_have_their_steps : NodesHaveTheirSteps
nodes_have_their_steps whole entries f names place entry nodes held at = node_steps whole entries names place entry held (nodes.nodes place entry held) f at at.unfolds
