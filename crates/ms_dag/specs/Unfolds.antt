-- The core formula that a node of the graph is, where its own variables have these names: their numbers in the core formula.
use Rattle.std.specs.Prelude.{◌≡◌, ℕ, ◌<◌, List, [], ◌∷◌, ◌++◌, length, map, slice_get, slice_index, Option, Some, None}
use Rattle.std.specs.Option.{option_map}
use Rattle.ms_logic_core.specs.declared.core_formula.Basic.{Basic as Relation}
use Rattle.ms_logic_core.specs.declared.core_formula.Basic.TheVariants.{Truth, Number, Plus, Less, Member, Sub, Union, Inter, Diff, Up, Down, Min, Max, Bits}
use Rattle.ms_logic_core.specs.CoreForm.{CoreForm, truth, falsity, basic, negation, conjunction, disjunction, implication, equivalence, restrict, imported, quantified, CoreForms, no_forms, more_forms, CoreRestriction, unrestricted, restricted}
use Rattle.ms_logic_core.specs.Operands.{variables_of_basic}
use Rattle.ms_dag.specs.declared.node.Child.{Child}
use Rattle.ms_dag.specs.declared.node.DagNode.{DagNode}
use Rattle.ms_dag.specs.declared.node.DagNode.TheVariants.{True, False, Basic, Not, And, Or, Implies, Iff, Restrict, Import, Bind}
use Rattle.ms_dag.specs.declared.node.Entry.{Entry}
use Rattle.ms_dag.specs.Places.{picked, AreBelow}

-- the node with a number
abbrev pub node_at : List Entry → ℕ → Option DagNode
node_at entries i = option_map (λ e. e.node) (slice_get entries i)

-- a basic relation between other variables
abbrev pub renamed : (ℕ → ℕ) → Relation → Relation
renamed name (Truth a) = Truth (name a)
renamed name (Number x n) = Number (name x) n
renamed name (Plus x y n) = Plus (name x) (name y) n
renamed name (Less x y) = Less (name x) (name y)
renamed name (Member x s) = Member (name x) (name s)
renamed name (Sub s t) = Sub (name s) (name t)
renamed name (Union s t u) = Union (name s) (name t) (name u)
renamed name (Inter s t u) = Inter (name s) (name t) (name u)
renamed name (Diff s t u) = Diff (name s) (name t) (name u)
renamed name (Up s t n) = Up (name s) (name t) n
renamed name (Down s t n) = Down (name s) (name t) n
renamed name (Min x s) = Min (name x) (name s)
renamed name (Max x s) = Max (name x) (name s)
renamed name (Bits s n) = Bits (name s) n

-- the variables of a basic relation by their numbers
abbrev pub names_of_basic : Relation → List ℕ
names_of_basic b = map (λ v. v.name) (variables_of_basic b)

-- a child of node i, in whose formula there are so many variables: its number is smaller, and its map gives some of them
pub record IsPartOf (i count : ℕ) (child : Child) : Type 0 where
  pub smaller : child.node < i
  pub within : AreBelow count child.map

-- the child is a formula, where its own variables have the names that its map picks
abbrev pub ReadAs : (List ℕ → ℕ → Type 0) → List ℕ → ℕ → Child → Type 0
ReadAs IsFormula names i child = IsPartOf i (length names) child × IsFormula (picked names child.map) child.node

-- node i is the core formula, where its own variables have these names. Below a binder the names are those of the node and
-- then that of the bound variable, which is greater.
abbrev mutual
  pub Unfolds : List Entry → CoreForm → List ℕ → ℕ → Type 0
  Unfolds entries truth names i = node_at entries i ≡ Some True
  Unfolds entries falsity names i = node_at entries i ≡ Some False
  Unfolds entries (basic b) names i =
      (own : Relation) × (node_at entries i ≡ Some (Basic own)) × AreBelow (length names) (names_of_basic own)
      × (b ≡ renamed (slice_index names) own)
  Unfolds entries (negation f) names i =
      (child : Child) × (node_at entries i ≡ Some (Not child)) × ReadAs (λ given j. Unfolds entries f given j) names i child
  Unfolds entries (conjunction fs) names i =
      (children : List Child) × (node_at entries i ≡ Some (And children)) × UnfoldEach entries fs names i children
  Unfolds entries (disjunction fs) names i =
      (children : List Child) × (node_at entries i ≡ Some (Or children)) × UnfoldEach entries fs names i children
  Unfolds entries (implication f g) names i =
      (left : Child) × (right : Child) × (node_at entries i ≡ Some (Implies left right))
      × ReadAs (λ given j. Unfolds entries f given j) names i left × ReadAs (λ given j. Unfolds entries g given j) names i right
  Unfolds entries (equivalence f g) names i =
      (left : Child) × (right : Child) × (node_at entries i ≡ Some (Iff left right))
      × ReadAs (λ given j. Unfolds entries f given j) names i left × ReadAs (λ given j. Unfolds entries g given j) names i right
  Unfolds entries (restrict f) names i =
      (child : Child) × (node_at entries i ≡ Some (Restrict child)) × ReadAs (λ given j. Unfolds entries f given j) names i child
  Unfolds entries (imported n xs) names i =
      (own : List ℕ) × (node_at entries i ≡ Some (Import n own)) × AreBelow (length names) own × (xs ≡ picked names own)
  Unfolds entries (quantified q o x d f) names i =
      (domain : Option Child) × (body : Child) × (node_at entries i ≡ Some (Bind q o (length names) domain body))
      × AreBelow x names
      × UnfoldsIn entries d (names ++ x ∷ []) i domain
      × ReadAs (λ given j. Unfolds entries f given j) (names ++ x ∷ []) i body

  -- the children are these formulas, in their order
  pub UnfoldEach : List Entry → CoreForms → List ℕ → ℕ → List Child → Type 0
  UnfoldEach entries no_forms names i [] = Unit {0}
  UnfoldEach entries no_forms names i (child ∷ children) = ⊥
  UnfoldEach entries (more_forms f fs) names i [] = ⊥
  UnfoldEach entries (more_forms f fs) names i (child ∷ children) =
      ReadAs (λ given j. Unfolds entries f given j) names i child × UnfoldEach entries fs names i children

  pub UnfoldsIn : List Entry → CoreRestriction → List ℕ → ℕ → Option Child → Type 0
  UnfoldsIn entries unrestricted names i None = Unit {0}
  UnfoldsIn entries unrestricted names i (Some child) = ⊥
  UnfoldsIn entries (restricted d) names i None = ⊥
  UnfoldsIn entries (restricted d) names i (Some child) = ReadAs (λ given j. Unfolds entries d given j) names i child
