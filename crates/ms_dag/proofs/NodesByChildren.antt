-- A node has its value by those of its children, and a root that of its formula.
use Rattle.ms_dag.proofs.Readings.{ReadsAs-read_through}
use Rattle.ms_dag.proofs.NodeValues.{node_has_value_of_formula}
use Rattle.ms_logic_core.specs.CoreForm.{core_form_of, CoreYes, CoreNo}
use Rattle.ms_logic.specs.declared.mode.Order.{Order}
use Rattle.ms_logic_core.specs.declared.core_formula.Root.{Root}
use Rattle.ms_dag.specs.declared.dag.SharedRoot.{SharedRoot}
use Rattle.ms_dag.specs.Share.{IsRootOf}
use Rattle.std.proofs.Common.{◌≡◌, ℕ, zero, suc, ◌<◌, List, [], ◌∷◌, All, Option, Some, None, refl, arith, ◌↔◌}
use Rattle.std.proofs.lemmas.List.Elements.{All-head, All-tail}
use Rattle.ms_logic.specs.declared.mode.Quant.TheVariants.{Ex, All as Every}
use Rattle.ms_logic.specs.Assignment.{Env, assign}
use Rattle.ms_logic.specs.Truth.{Import as Imported}
use Rattle.ms_logic_core.specs.Calls.{Calls, filled}
use Rattle.ms_dag.specs.declared.node.Child.{Child}
use Rattle.ms_dag.specs.declared.node.DagNode.{DagNode}
use Rattle.ms_dag.specs.declared.node.DagNode.TheVariants.{True, False, Basic, Not, And, Or, Implies, Iff, Restrict, Import, Bind}
use Rattle.ms_dag.specs.declared.node.Entry.{Entry}
use Rattle.ms_dag.specs.Dag.{children_of}
use Rattle.ms_dag.specs.Laws.{ChildrenComeFirst, NodeHasValueByChildren, HaveTheirOrders}
use Rattle.ms_dag.specs.Unfolds.{node_at}
use Rattle.ms_dag.specs.Values.{Verdict, Of, EachIs, SomeIs, EachIsDefined, YesAt, NoAt, YesBelow, NoBelow, NodeYes, NodeNo, read_through}
use Rattle.ms_dag.proofs.SameVerdicts.{SameVerdict, same_swapped, same_itself, same_negation, same_restrict, same_implication, same_equivalence, SameOfEach, none_same, more_same, same_conjunction, same_disjunction, same_some, same_every}

module _ (Y N Y' N' : Verdict) (i : ℕ) (same : (c : Child) → c.node < i → (e : Env) → SameVerdict (Of Y c e) (Of N c e) (Of Y' c e) (Of N' c e)) where
  children_to : (cs : List Child) → All (λ c. c.node < i) cs → (e : Env) →
      SameOfEach (EachIs Y cs e) (EachIs N cs e) (EachIsDefined Y N cs e) (SomeIs Y cs e) (SomeIs N cs e)
      (EachIs Y' cs e) (EachIs N' cs e) (EachIsDefined Y' N' cs e) (SomeIs Y' cs e) (SomeIs N' cs e)
  children_to [] below e = none_same
  children_to (c ∷ cs) below e =
      more_same (same c (All-head (λ (d : Child). d.node < i) c cs below) e) (children_to cs (All-tail (λ (d : Child). d.node < i) c cs below) e)

  children_from : (cs : List Child) → All (λ c. c.node < i) cs → (e : Env) →
      SameOfEach (EachIs Y' cs e) (EachIs N' cs e) (EachIsDefined Y' N' cs e) (SomeIs Y' cs e) (SomeIs N' cs e)
      (EachIs Y cs e) (EachIs N cs e) (EachIsDefined Y N cs e) (SomeIs Y cs e) (SomeIs N cs e)
  children_from [] below e = none_same
  children_from (c ∷ cs) below e =
      more_same (same_swapped (same c (All-head (λ (d : Child). d.node < i) c cs below) e)) (children_from cs (All-tail (λ (d : Child). d.node < i) c cs below) e)

  -- a node has one verdict where each of its children has
  pub same_node : (imports : List Imported) (node : DagNode) → All (λ c. c.node < i) (children_of node) → (e : Env) →
      SameVerdict (YesAt imports Y N (Some node) e) (NoAt imports Y N (Some node) e) (YesAt imports Y' N' (Some node) e) (NoAt imports Y' N' (Some node) e)
  same_node imports True below e = same_itself _ _
  same_node imports False below e = same_itself _ _
  same_node imports (Basic b) below e = same_itself _ _
  same_node imports (Not c) below e = same_negation (same c (below 0 c (omega arith)) e)
  same_node imports (And cs) below e = same_conjunction (children_to cs below e) (children_from cs below e)
  same_node imports (Or cs) below e = same_disjunction (children_to cs below e) (children_from cs below e)
  same_node imports (Implies c d) below e = same_implication (same c (below 0 c (omega arith)) e) (same d (below 1 c (omega arith)) e)
  same_node imports (Iff c d) below e = same_equivalence (same c (below 0 c (omega arith)) e) (same d (below 1 c (omega arith)) e)
  same_node imports (Restrict c) below e = same_restrict (same c (below 0 c (omega arith)) e)
  same_node imports (Import k xs) below e = same_itself _ _
  same_node imports (Bind Ex o x None c) below e =
      same_some (λ v in_range. in_range) (λ v in_range. in_range) (λ v in_range. same c (below 0 c (omega arith)) (assign x v e))
  same_node imports (Bind Every o x None c) below e =
      same_every (λ v in_range. in_range) (λ v in_range. in_range) (λ v in_range. same c (below 0 c (omega arith)) (assign x v e))
  same_node imports (Bind Ex o x (Some d) c) below e =
      let domain = same d (below 0 c (omega arith)) in
      same_some (λ v in_range. (in_range.0, (domain (assign x v e)).yes_to in_range.1)) (λ v in_range. (in_range.0, (domain (assign x v e)).yes_from in_range.1))
      (λ v in_range. same c (below 1 c (omega arith)) (assign x v e))
  same_node imports (Bind Every o x (Some d) c) below e =
      let domain = same d (below 0 c (omega arith)) in
      same_every (λ v in_range. (in_range.0, (domain (assign x v e)).yes_to in_range.1)) (λ v in_range. (in_range.0, (domain (assign x v e)).yes_from in_range.1))
      (λ v in_range. same c (below 1 c (omega arith)) (assign x v e))

  pub same_at : (imports : List Imported) (o : Option DagNode) → ((node : DagNode) → o ≡ Some node → All (λ c. c.node < i) (children_of node)) → (e : Env) →
      SameVerdict (YesAt imports Y N o e) (NoAt imports Y N o e) (YesAt imports Y' N' o e) (NoAt imports Y' N' o e)
  same_at imports None below e = same_itself _ _
  same_at imports (Some node) below e = same_node imports node (below node refl) e

module _ (imports : List Imported) (entries : List Entry) (first : ChildrenComeFirst entries) where
  -- a bound above the number of a node changes nothing
  same_bound : (n m i : ℕ) (e : Env) → i < n → i < m → SameVerdict (YesBelow imports entries n i e) (NoBelow imports entries n i e) (YesBelow imports entries m i e) (NoBelow imports entries m i e)
  same_bound zero m i e below_n below_m = absurd (omega (arith, below_n))
  same_bound (suc n) zero i e below_n below_m = absurd (omega (arith, below_m))
  same_bound (suc n) (suc m) i e below_n below_m =
      same_at (λ j there. YesBelow imports entries n j there) (λ j there. NoBelow imports entries n j there) (λ j there. YesBelow imports entries m j there) (λ j there. NoBelow imports entries m j there)
      i (λ c smaller there. same_bound n m c.node _ (omega arith) (omega arith)) imports (node_at entries i) (first i) e

pub node_has_value_by_children : NodeHasValueByChildren
node_has_value_by_children imports entries i e first =
    let same =
    same_at (λ j there. YesBelow imports entries i j there) (λ j there. NoBelow imports entries i j there) (λ j there. YesBelow imports entries (suc j) j there) (λ j there. NoBelow imports entries (suc j) j there)
    i (λ c smaller there. same_bound imports entries first i (suc c.node) c.node _ (omega arith) (omega arith)) imports (node_at entries i) (first i) e in
    ((same.yes_to, same.yes_from), (same.no_to, same.no_from))

-- a root of the graph has the value of its formula, where its variables have the values that their numbers have
pub root_has_value_of_formula : (imports : List Imported) (calls : Calls) (orders : List Order) (entries : List Entry) (root : Root) (shared : SharedRoot) (c : Env) → IsRootOf calls orders entries root shared → HaveTheirOrders imports orders (filled calls (core_form_of root.core)) →
    (NodeYes imports entries shared.child.node (read_through shared.child.map c) ↔ CoreYes imports (filled calls (core_form_of root.core)) c)
    × (NodeNo imports entries shared.child.node (read_through shared.child.map c) ↔ CoreNo imports (filled calls (core_form_of root.core)) c)
root_has_value_of_formula imports calls orders entries root shared c is ordered =
    node_has_value_of_formula imports entries orders (filled calls (core_form_of root.core)) shared.child.map shared.child.node (read_through shared.child.map c) c ordered is.unfolds (ReadsAs-read_through orders shared.child.map c)
