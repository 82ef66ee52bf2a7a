-- What the automata of the nodes of a graph are.
use Rattle.std.specs.Prelude.{◌≡◌, ◌<◌, ◌≤◌, ◌⊎◌, ◌+◌, ℕ, ◌++◌, List, [], ◌∷◌, length, map, slice_get, Contains, Some, None, Option}
use Rattle.ms_logic.specs.declared.mode.Mode.{Mode}
use Rattle.ms_logic.specs.declared.mode.Order.{Order}
use Rattle.ms_logic_words.specs.declared.sign.Sign.{Sign}
use Rattle.ms_logic.specs.Assignment.{Env, Variable}
use Rattle.ms_logic_core.specs.CoreForm.{Holds, answer_over}
use Rattle.ms_logic_core.specs.declared.core_formula.Basic.{Basic as Relation}
use Rattle.ms_logic_core.specs.Operands.{variables_of_basic}
use Rattle.ms_dag.specs.declared.node.DagNode.{DagNode}
use Rattle.ms_dag.specs.declared.node.DagNode.TheVariants.{True, False, Basic, Not, And, Or, Implies, Iff, Restrict, Import, Bind}
use Rattle.ms_logic_words.specs.Content.{Content, answer_of, variables_by_place}
use Rattle.ms_logic.specs.Truth.{Import as Imported, answer_yes, answer_no}
use Rattle.ms_dag.specs.declared.dag.Dag.{Dag}
use Rattle.ms_dag.specs.declared.node.Child.{Child}
use Rattle.ms_dag.specs.declared.node.Entry.{Entry}
use Rattle.ms_dag.specs.Dag.{IsNodeOf, children_of, places_in_maps}
use Rattle.ms_dag.specs.Share.{children_of_roots}
use Rattle.ms_dag.specs.Places.{AreAt}
use Rattle.ms_dag.specs.Values.{EachIs, EachIsDefined, IsMetBy, NodeYes, NodeNo, SomeIs, read_through}
use Rattle.ms_build.specs.declared.plan.Many.{Many}
use Rattle.ms_build.specs.declared.plan.Many.TheVariants.{All, Any}
use Rattle.ms_build.specs.declared.built.Built.{Built}
use Rattle.ms_build.specs.declared.plan.Plan.{Plan}
use Rattle.ms_list.specs.declared.fault.StepFault.{StepFault}
use Rattle.ms_list.specs.declared.fault.StepFault.TheVariants as fault
use Rattle.ms_edge.specs.declared.refusal.Refusal.{Refusal}
use Rattle.ms_edge.specs.declared.refusal.Refusal.TheVariants.{Nodes, Memory}
use Rattle.ms_build.specs.declared.nodes.Binder.{Binder}
use Rattle.ms_build.specs.Connectives.{NoOf, YesOf}
use Rattle.ms_product.specs.declared.op.Op.{Op}
use Rattle.ms_dfa_explore.specs.Tracks.{distinct}
use Rattle.ms_logic.specs.Lists.{IsAmong}
use Rattle.ms_dfa.specs.Automaton.{variable_of}
use Rattle.ms_logic_words.specs.Residual.{AreReached, HasFewestStates, HaveDifferentResiduals}
use Rattle.ms_project.specs.declared.quantifier.Quantifier.{Quantifier}
use Rattle.ms_project.specs.Quantified.{quantified}
use Rattle.ms_dfa.specs.Values.{Meaning, meaning_by, HasValues}
use Rattle.ms_logic_words.specs.Signs.{answer_for}
use Rattle.std.specs.List.Sorted.{IsStrictlyIncreasing}

-- what automata answer as imports
abbrev pub import_of : Content Sign → Imported
import_of content = record { variables = content.variables; answer = answer_of answer_for content }

abbrev pub imports_of : List (Content Sign) → List Imported
imports_of contents = map import_of contents

-- the value of a node
abbrev pub node_meaning : List Imported → List Entry → ℕ → Meaning
node_meaning imports entries i = meaning_by (NodeYes imports entries i) (NodeNo imports entries i)

-- the value of a child, at an environment of the node above it
abbrev pub ChildYes : List Imported → List Entry → Child → Env → Type 0
ChildYes imports entries child e = NodeYes imports entries child.node (read_through child.map e)

abbrev pub ChildNo : List Imported → List Entry → Child → Env → Type 0
ChildNo imports entries child e = NodeNo imports entries child.node (read_through child.map e)

abbrev pub child_meaning : List Imported → List Entry → Child → Meaning
child_meaning imports entries child = meaning_by (ChildYes imports entries child) (ChildNo imports entries child)

-- the connective of two that is behind one of many
abbrev pub op_of : Many → Op
op_of All = Op.And
op_of Any = Op.Or

-- the value of the conjunction or the disjunction of children
abbrev pub ManyYes : Many → List Imported → List Entry → List Child → Env → Type 0
ManyYes All imports entries cs e = EachIs (NodeYes imports entries) cs e
ManyYes Any imports entries cs e = EachIsDefined (NodeYes imports entries) (NodeNo imports entries) cs e × SomeIs (NodeYes imports entries) cs e

abbrev pub ManyNo : Many → List Imported → List Entry → List Child → Env → Type 0
ManyNo All imports entries cs e = EachIsDefined (NodeYes imports entries) (NodeNo imports entries) cs e × SomeIs (NodeNo imports entries) cs e
ManyNo Any imports entries cs e = EachIs (NodeNo imports entries) cs e

abbrev pub many_meaning : Many → List Imported → List Entry → List Child → Meaning
many_meaning many imports entries cs = meaning_by (ManyYes many imports entries cs) (ManyNo many imports entries cs)

-- the value of a connective of two children
abbrev pub pair_meaning : Op → List Imported → List Entry → Child → Child → Meaning
pair_meaning op imports entries left right =
    meaning_by (YesOf (ChildYes imports entries left) (ChildNo imports entries left) (ChildYes imports entries right) (ChildNo imports entries right) op)
    (NoOf (ChildYes imports entries left) (ChildNo imports entries left) (ChildYes imports entries right) (ChildNo imports entries right) op)

-- the map of a child gives variables of its own orders among these
abbrev pub IsReadAt : List Entry → List Order → Child → Type 0
IsReadAt entries orders child = (entry : Entry) × (slice_get entries child.node ≡ Some entry) × AreAt orders child.map entry.orders

abbrev pub AreReadAt : List Entry → List Order → List Child → Type 0
AreReadAt entries orders children = (place : ℕ) (child : Child) → slice_get children place ≡ Some child → IsReadAt entries orders child

-- an automaton with the values of a meaning over variables of these orders by their places, with all that are covered
pub record IsPart (mode : Mode) (orders : List Order) (covered : List ℕ) (meaning : Meaning) (content : Content Sign) : Type 0 where
  pub mode_is : content.mode ≡ mode
  pub among : (v : Variable) → IsAmong content.variables v → IsAmong (variables_by_place orders) v
  pub covers : (j : ℕ) (o : Order) → Contains covered j → slice_get orders j ≡ Some o → IsAmong content.variables (record { name = j; order = o })
  pub values : HasValues meaning content

-- an automaton over just these variables with the values of a meaning, and with fewest states: each is reached, and no two have equal
-- residuals
pub record IsLeastOf (mode : Mode) (variables : List Variable) (meaning : Meaning) (content : Content Sign) : Type 0 where
  pub mode_is : content.mode ≡ mode
  pub variables_are : content.variables ≡ variables
  pub values : HasValues meaning content
  pub fewest : HasFewestStates content
  pub reached : AreReached content
  pub differ : HaveDifferentResiduals content

-- the nodes and states of a content are together within a limit
abbrev pub IsWithin : ℕ → Content Sign → Type 0
IsWithin limit content = length content.nodes + length content.states ≤ limit

-- the node of a root, or a child of a node from this number on
abbrev pub IsUsedFrom : List Entry → List Child → ℕ → ℕ → Type 0
IsUsedFrom entries roots from i =
    IsNodeOf roots i ⊎ ((k : ℕ) × (entry : Entry) × (from ≤ k) × (slice_get entries k ≡ Some entry) × IsNodeOf (children_of entry.node) i)

-- each that is used from here on is the automaton of the node at its place, over the node's own variables, and within the limit
abbrev pub AreBuilt : ℕ → List Imported → Mode → List Entry → List Child → List (Content Sign) → Type 0
AreBuilt limit imports mode entries roots contents =
    (i : ℕ) (content : Content Sign) → slice_get contents i ≡ Some content → IsUsedFrom entries roots (length contents) i
    → (entry : Entry) × (slice_get entries i ≡ Some entry) × IsLeastOf mode (variables_by_place entry.orders) (node_meaning imports entries i) content
    × IsWithin limit content

-- the parts of what is being built
abbrev pub entries_of : Plan → List Entry
entries_of plan = plan.dag.now.entries

abbrev pub imports_for : Plan → List Imported
imports_for plan = imports_of plan.imports.now

abbrev pub roots_of : Plan → List Child
roots_of plan = children_of_roots plan.dag.now.roots

abbrev pub AreBuiltFor : Plan → List (Content Sign) → Type 0
AreBuiltFor plan contents = AreBuilt plan.limit (imports_for plan) plan.mode (entries_of plan) (roots_of plan) contents

-- a node has its automaton among the first so many: it is one of these, and is used from there on
abbrev pub IsThere : Plan → ℕ → ℕ → Type 0
IsThere plan count i = (i < count) × IsUsedFrom (entries_of plan) (roots_of plan) count i

-- a limit on nodes and states
pub record IsLimit (limit : ℕ) : Type 0 where
  pub some : 1 ≤ limit
  pub small : limit ≤ 4000000000

-- a child is read at variables of some orders
abbrev pub IsReadSomewhere : Plan → Child → Type 0
IsReadSomewhere plan child = (orders : List Order) × IsReadAt (entries_of plan) orders child

-- an automaton of the child, wherever it is read
abbrev pub IsBrought : Plan → Child → Content Sign → Type 0
IsBrought plan child content =
    (orders : List Order) → IsReadAt (entries_of plan) orders child → IsPart plan.mode orders child.map (child_meaning (imports_for plan) (entries_of plan) child) content

-- the variables of a content have numbers of this list
abbrev pub HasOnly : List ℕ → Content Sign → Type 0
HasOnly names content = (v : Variable) → IsAmong content.variables v → Contains names v.name

-- two children are read at variables of some orders
abbrev pub AreReadSomewhere : Plan → Child → Child → Type 0
AreReadSomewhere plan left right = (orders : List Order) × IsReadAt (entries_of plan) orders left × IsReadAt (entries_of plan) orders right

-- an automaton of the connective of two children, wherever they are read
abbrev pub IsPairOf : Plan → Op → Child → Child → Content Sign → Type 0
IsPairOf plan op left right content =
    (orders : List Order) → IsReadAt (entries_of plan) orders left → IsReadAt (entries_of plan) orders right
    → IsPart plan.mode orders (left.map ++ right.map) (pair_meaning op (imports_for plan) (entries_of plan) left right) content

-- children that have automata, read at variables of some orders
abbrev pub AreReadable : Plan → List (Content Sign) → List Child → Type 0
AreReadable plan built children =
    ((place : ℕ) (child : Child) → slice_get children place ≡ Some child → IsThere plan (length built) child.node)
    × ((orders : List Order) × AreReadAt (entries_of plan) orders children)

-- an automaton of the connective of many children, wherever they are read
abbrev pub IsManyOf : Plan → Many → List Child → Content Sign → Type 0
IsManyOf plan many children content =
    (orders : List Order) → AreReadAt (entries_of plan) orders children
    → IsPart plan.mode orders (places_in_maps children) (many_meaning many (imports_for plan) (entries_of plan) children) content

-- an automaton over just these variables with the values of a meaning
pub record IsOver (mode : Mode) (variables : List Variable) (meaning : Meaning) (content : Content Sign) : Type 0 where
  pub mode_is : content.mode ≡ mode
  pub variables_are : content.variables ≡ variables
  pub values : HasValues meaning content

-- automata of the negation of a child, and of a child as a restriction, wherever it is read
abbrev pub IsNegationOf : Plan → Child → Content Sign → Type 0
IsNegationOf plan child content =
    (orders : List Order) → IsReadAt (entries_of plan) orders child
    → IsPart plan.mode orders child.map (meaning_by (ChildNo (imports_for plan) (entries_of plan) child) (ChildYes (imports_for plan) (entries_of plan) child)) content

abbrev pub IsRestrictionOf : Plan → Child → Content Sign → Type 0
IsRestrictionOf plan child content =
    (orders : List Order) → IsReadAt (entries_of plan) orders child
    → IsPart plan.mode orders child.map (meaning_by (ChildYes (imports_for plan) (entries_of plan) child) (λ e. ⊥)) content

-- the first so many variables of these orders are among those of a content
abbrev pub HasFirst : List Order → ℕ → List Variable → Type 0
HasFirst orders count variables = (j : ℕ) (o : Order) → j < count → slice_get orders j ≡ Some o → IsAmong variables (record { name = j; order = o })

-- the body of a quantifier, over the variables of the node and the one that is bound
abbrev pub IsBodyOf : Plan → List Order → Child → Content Sign → Type 0
IsBodyOf plan inside body content =
    IsOver plan.mode (variables_by_place inside) (child_meaning (imports_for plan) (entries_of plan) body) content

-- the quantified body of a node with variables of these orders
abbrev pub IsQuantifiedOf : Plan → List Order → Quantifier → Option Child → Child → Content Sign → Type 0
IsQuantifiedOf plan orders quantifier domain body content =
    IsOver plan.mode (variables_by_place orders)
    (quantified quantifier.quant (variable_of quantifier.track) (λ there. IsMetBy (NodeYes (imports_for plan) (entries_of plan)) domain there)
    (child_meaning (imports_for plan) (entries_of plan) body))
    content

-- the value of a relation
abbrev pub relation_meaning : Relation → Meaning
relation_meaning b = meaning_by (λ e. Holds b e) (λ e. ¬ Holds b e)

-- the answer of an import at the variables of a list
abbrev pub import_meaning : List Imported → ℕ → List ℕ → Meaning
import_meaning imports i xs =
    meaning_by (λ e. answer_over (slice_get imports i) xs e ≡ answer_yes) (λ e. answer_over (slice_get imports i) xs e ≡ answer_no)

-- what has been made of a node by its form, before it has fewest states
abbrev pub IsMadeOf : Plan → Entry → DagNode → Content Sign → Type 0
IsMadeOf plan entry True content = IsOver plan.mode [] (meaning_by (λ e. Unit {0}) (λ e. ⊥)) content
IsMadeOf plan entry False content = IsOver plan.mode [] (meaning_by (λ e. ⊥) (λ e. Unit {0})) content
IsMadeOf plan entry (Basic b) content = IsOver plan.mode (distinct (variables_of_basic b)) (relation_meaning b) content
IsMadeOf plan entry (Not c) content = IsNegationOf plan c content
IsMadeOf plan entry (And cs) content = IsManyOf plan All cs content
IsMadeOf plan entry (Or cs) content = IsManyOf plan Any cs content
IsMadeOf plan entry (Implies c d) content = IsPairOf plan Op.Implies c d content
IsMadeOf plan entry (Iff c d) content = IsPairOf plan Op.Iff c d content
IsMadeOf plan entry (Restrict c) content = IsRestrictionOf plan c content
IsMadeOf plan entry (Import i xs) content = IsPart plan.mode entry.orders xs (import_meaning (imports_for plan) i xs) content
IsMadeOf plan entry (Bind q o k d c) content =
    IsQuantifiedOf plan entry.orders (record { quant = q; track = record { variable = k; order = o } }) d c content

-- an import has an automaton of the mode, over variables by their places, to which a list gives variables of their orders
abbrev pub IsImportOf : List (Content Sign) → Mode → List Order → ℕ → List ℕ → Type 0
IsImportOf contents mode orders i xs =
    (content : Content Sign) × (slice_get contents i ≡ Some content) × (content.mode ≡ mode)
    × ((given : List Order) × (content.variables ≡ variables_by_place given) × AreAt orders xs given)

-- so has each that a node stands for
abbrev pub AreImportsOf : List (Content Sign) → Mode → List Entry → Type 0
AreImportsOf contents mode entries =
    (place : ℕ) (entry : Entry) (i : ℕ) (xs : List ℕ) → slice_get entries place ≡ Some entry → entry.node ≡ Import i xs → IsImportOf contents mode entry.orders i xs

abbrev pub IsImported : Plan → Entry → Type 0
IsImported plan entry = (i : ℕ) (xs : List ℕ) → entry.node ≡ Import i xs → IsImportOf plan.imports.now plan.mode entry.orders i xs

-- a restriction, if there is one, has an automaton, and is read at variables of these orders
abbrev pub IsDomainRead : Plan → List Order → ℕ → Option Child → Type 0
IsDomainRead plan inside count None = Unit {0}
IsDomainRead plan inside count (Some child) = IsThere plan count child.node × IsReadAt (entries_of plan) inside child × IsStrictlyIncreasing child.map

-- a quantifier of a node with variables of these orders, whose restriction and body have automata
pub record IsBinderOf (plan : Plan) (orders : List Order) (count : ℕ) (binder : Binder) : Type 0 where
  pub bound : binder.quantifier.track.variable ≡ length orders
  pub body : IsThere plan count binder.body.now.node
  pub read : IsReadAt (entries_of plan) (orders ++ binder.quantifier.track.order ∷ []) binder.body.now
  pub rising : IsStrictlyIncreasing binder.body.now.map
  pub domain : IsDomainRead plan (orders ++ binder.quantifier.track.order ∷ []) count binder.domain.now

-- the automaton of a node by its number, within the limit
abbrev pub IsBuiltAt : Plan → ℕ → Content Sign → Type 0
IsBuiltAt plan i content =
    (entry : Entry) × (slice_get (entries_of plan) i ≡ Some entry)
    × IsLeastOf plan.mode (variables_by_place entry.orders) (node_meaning (imports_for plan) (entries_of plan) i) content × IsWithin plan.limit content

-- the automata of all nodes of a graph that are roots
pub record IsBuiltOver (imports : List (Content Sign)) (mode : Mode) (dag : Dag) (built : Built) : Type 0 where
  pub imports_are : built.plan.imports.now ≡ imports
  pub mode_is : built.plan.mode ≡ mode
  pub dag_is : built.plan.dag.now ≡ dag
  pub each : AreBuiltFor built.plan built.automata
  pub all : length built.automata ≡ length dag.entries

-- the refusal of a step, by its number
abbrev pub refusal_of : ℕ → ℕ → StepFault → Refusal
refusal_of step limit fault.Memory = Memory
refusal_of step limit (fault.Nodes named) = Nodes step limit
