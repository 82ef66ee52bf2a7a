-- The children of a node are the parts of the formula that it is.
use Rattle.std.proofs.Common.{◌≡◌, ℕ, List, [], ◌∷◌, ◌++◌, length, All, Contains, Option, Some, None}
use Rattle.std.proofs.lemmas.List.Elements.{All-cons, All-nil, All-weaker}
use Rattle.ms_diagram.proofs.ListLemmas.{Contains-first, Contains-rest}
use Rattle.ms_logic_core.specs.CoreForm.{CoreForm, truth, falsity, basic, negation, conjunction, disjunction, implication, equivalence, restrict, imported, quantified, CoreForms, no_forms, more_forms, CoreRestriction, unrestricted, restricted}
use Rattle.ms_dag.specs.declared.node.Child.{Child}
use Rattle.ms_dag.specs.declared.node.DagNode.{DagNode}
use Rattle.ms_dag.specs.declared.node.DagNode.TheVariants.{True, False, Basic, Not, And, Or, Implies, Iff, Restrict, Import, Bind}
use Rattle.ms_dag.specs.declared.node.Entry.{Entry}
use Rattle.ms_dag.specs.Dag.{children_of, children_of_binder}
use Rattle.ms_dag.specs.Unfolds.{UnfoldEach, Unfolds, UnfoldsIn, node_at}
use Rattle.ms_dag_steps.specs.inner.Parts.{IsFormula, forms_of, names_inside, parts_of, restrictions_of}

module _ (entries : List Entry) where
  -- a child is one of these formulas
  abbrev pub IsOneOf : List CoreForm → List ℕ → ℕ → Child → Type 0
  IsOneOf fs names i child = (f : CoreForm) × Contains fs f × IsFormula entries f names i child

  module _ (names : List ℕ) (i : ℕ) where
    none_are : (fs : List CoreForm) → All (IsOneOf fs names i) []
    none_are fs = All-nil (IsOneOf fs names i)

    one_is : (f : CoreForm) (child : Child) → IsFormula entries f names i child → All (IsOneOf (f ∷ []) names i) (child ∷ [])
    one_is f child is = All-cons (IsOneOf (f ∷ []) names i) child [] (f, Contains-first f [], is) (none_are (f ∷ []))

    more_are : (f : CoreForm) (fs : List CoreForm) (child : Child) (children : List Child) → IsFormula entries f names i child → All (IsOneOf fs names i) children
        → All (IsOneOf (f ∷ fs) names i) (child ∷ children)
    more_are f fs child children is others =
        All-cons (IsOneOf (f ∷ fs) names i) child children (f, Contains-first f fs, is)
        (All-weaker (IsOneOf fs names i) (IsOneOf (f ∷ fs) names i) (λ c there. (there.0, Contains-rest f fs there.0 there.1, there.2)) children others)

    each_is : (fs : CoreForms) (children : List Child) → UnfoldEach entries fs names i children → All (IsOneOf (forms_of fs) names i) children
    each_is no_forms [] are = none_are []
    each_is no_forms (child ∷ children) are = absurd are
    each_is (more_forms f fs) [] are = absurd are
    each_is (more_forms f fs) (child ∷ children) are = more_are f (forms_of fs) child children are.0 (each_is fs children are.1)

    binder_is : (d : CoreRestriction) (f : CoreForm) (domain : Option Child) (body : Child) → UnfoldsIn entries d names i domain → IsFormula entries f names i body
        → All (IsOneOf (restrictions_of d ++ f ∷ []) names i) (children_of_binder domain body)
    binder_is unrestricted f None body unfolds is = one_is f body is
    binder_is unrestricted f (Some child) body unfolds is = absurd unfolds
    binder_is (restricted d) f None body unfolds is = absurd unfolds
    binder_is (restricted d) f (Some child) body unfolds is = more_are d (f ∷ []) child (body ∷ []) unfolds (one_is f body is)

  -- the children of the node are parts of this formula
  abbrev pub HasParts : CoreForm → List ℕ → ℕ → Type 0
  HasParts f names i = (node : DagNode) × (node_at entries i ≡ Some node) × All (IsOneOf (parts_of f) (names_inside f names) i) (children_of node)

  pub children_are_parts : (f : CoreForm) (names : List ℕ) (i : ℕ) → Unfolds entries f names i → HasParts f names i
  children_are_parts truth names i unfolds = (True, unfolds, none_are names i [])
  children_are_parts falsity names i unfolds = (False, unfolds, none_are names i [])
  children_are_parts (basic b) names i unfolds = (Basic unfolds.0, unfolds.1, none_are names i [])
  children_are_parts (negation f) names i unfolds = (Not unfolds.0, unfolds.1, one_is names i f unfolds.0 unfolds.2)
  children_are_parts (conjunction fs) names i unfolds = (And unfolds.0, unfolds.1, each_is names i fs unfolds.0 unfolds.2)
  children_are_parts (disjunction fs) names i unfolds = (Or unfolds.0, unfolds.1, each_is names i fs unfolds.0 unfolds.2)
  children_are_parts (implication f g) names i unfolds =
      (Implies unfolds.0 unfolds.1, unfolds.2, more_are names i f (g ∷ []) unfolds.0 (unfolds.1 ∷ []) unfolds.3 (one_is names i g unfolds.1 unfolds.4))
  children_are_parts (equivalence f g) names i unfolds =
      (Iff unfolds.0 unfolds.1, unfolds.2, more_are names i f (g ∷ []) unfolds.0 (unfolds.1 ∷ []) unfolds.3 (one_is names i g unfolds.1 unfolds.4))
  children_are_parts (restrict f) names i unfolds = (Restrict unfolds.0, unfolds.1, one_is names i f unfolds.0 unfolds.2)
  children_are_parts (imported n xs) names i unfolds = (Import n unfolds.0, unfolds.1, none_are names i [])
  children_are_parts (quantified q o x d f) names i unfolds =
      (Bind q o (length names) unfolds.0 unfolds.1, unfolds.2, binder_is (names ++ x ∷ []) i d f unfolds.0 unfolds.1 unfolds.4 unfolds.5)
