-- Why a step of a graph lacks nodes, by what its formula makes of the automata of its children: these have fewest states, and what is
-- made of them needs more nodes and states than the limit.
use Rattle.std.specs.Prelude.{◌≡◌, ◌≢◌, ◌⊎◌, ◌<◌, ◌≤◌, ◌+◌, ◌*◌, ℕ, List, [], ◌∷◌, ◌++◌, length, slice_get, take, Option, Some, None}
use Rattle.ms_basic.specs.States.{states_of}
use Rattle.ms_dag.specs.declared.dag.Dag.{Dag}
use Rattle.ms_dag.specs.declared.dag.SharedRoot.{SharedRoot}
use Rattle.ms_dag.specs.declared.node.Child.{Child}
use Rattle.ms_dag.specs.declared.node.DagNode.{DagNode}
use Rattle.ms_dag.specs.declared.node.DagNode.TheVariants.{True, False, Basic, Not, And, Or, Implies, Iff, Restrict, Import, Bind}
use Rattle.ms_dag.specs.declared.node.Entry.{Entry}
use Rattle.ms_dfa.specs.Automaton.{IsAutomaton}
use Rattle.ms_dfa_explore.specs.Tracks.{distinct}
use Rattle.ms_edge.specs.declared.refusal.Refusal.{Refusal}
use Rattle.ms_edge.specs.declared.refusal.Refusal.TheVariants.{Nodes, Memory}
use Rattle.ms_logic.specs.Assignment.{Variable}
use Rattle.ms_logic.specs.Lists.{IsAmong}
use Rattle.ms_logic.specs.declared.mode.Mode.{Mode}
use Rattle.ms_logic.specs.declared.mode.Order.{Order}
use Rattle.ms_logic_words.specs.Content.{Content, variables_by_place}
use Rattle.ms_logic_words.specs.declared.sign.Sign.{Sign}
use Rattle.ms_logic_words.specs.Residual.{HaveEqualSigns, IsLeast}
use Rattle.ms_product.specs.Pairing.{AreAtLeast, operands_of}
use Rattle.ms_product.specs.declared.op.Op.{Op}
use Rattle.ms_project.specs.Always.{domain_or_always}
use Rattle.ms_project.specs.Projection as projections
use Rattle.ms_rename.specs.Renamed.{HasPartsOf, NeedsAtLeast, renamed, renamed_places}
use Rattle.ms_rename.specs.Whole.{IsSmallWhole}
use Rattle.ms_dag.specs.Dag.{places_in_maps}
use Rattle.ms_build.specs.Built.{HasOnly, IsBodyOf, IsBrought, IsBuiltAt, IsManyOf, entries_of, op_of}
use Rattle.ms_build.specs.Roots.{named}
use Rattle.ms_build.specs.Wider.{IsWider}
use Rattle.ms_build.specs.declared.plan.Many.{Many}
use Rattle.ms_build.specs.declared.plan.Many.TheVariants.{All, Any}
use Rattle.ms_build.specs.declared.plan.Plan.{Plan}

-- the automaton of a child: that of the child's node, with its states and nodes, over the variables that the map gives it; it has the
-- child's value wherever it is read
pub record IsOperand (plan : Plan) (child : Child) (content : Content Sign) : Type 0 where
  pub automaton : IsAutomaton content
  pub least : Content Sign
  pub is_least : IsBuiltAt plan child.node least
  pub parts : HasPartsOf least content
  pub variables : content.variables ≡ distinct (renamed child.map least.variables)
  pub brought : IsBrought plan child content

-- the connective of two children is short of nodes
pub record PairLacks (plan : Plan) (op : Op) (left right : Child) : Type 0 where
  pub one : Content Sign
  pub other : Content Sign
  pub is_left : IsOperand plan left one
  pub is_right : IsOperand plan right other
  pub short : AreAtLeast plan.limit op (operands_of one other)

-- the connective of the first children: the first one itself, or one with fewest states
pub record IsOfFirst (plan : Plan) (many : Many) (children : List Child) (count : ℕ) (content : Content Sign) : Type 0 where
  pub automaton : IsAutomaton content
  pub value : IsManyOf plan many (take count children) content
  pub only : HasOnly (places_in_maps (take count children)) content
  pub alone : count ≡ 1 → (child : Child) × (slice_get children 0 ≡ Some child) × IsOperand plan child content
  pub least : count ≢ 1 → IsLeast content

-- the connective of many children is short of nodes: that of the first ones with the next one
pub record ManyLacks (plan : Plan) (many : Many) (children : List Child) : Type 0 where
  pub count : ℕ
  pub child : Child
  pub one : Content Sign
  pub other : Content Sign
  pub some : 1 ≤ count
  pub here : slice_get children count ≡ Some child
  pub is_first : IsOfFirst plan many children count one
  pub is_next : IsOperand plan child other
  pub short : AreAtLeast plan.limit (op_of many) (operands_of one other)

-- an automaton of fewest states over the variables of another content, which gives each word the same sign
pub record IsFewestOf (content few : Content Sign) : Type 0 where
  pub automaton : IsAutomaton few
  pub mode_is : few.mode ≡ content.mode
  pub variables : few.variables ≡ content.variables
  pub signs : HaveEqualSigns content few
  pub least : IsLeast few

-- an import is short of nodes: its automaton as it is lent, or with fewest states once its variables are renamed
pub record ImportLacks (plan : Plan) (import : ℕ) (variables : List ℕ) : Type 0 where
  pub content : Content Sign
  pub here : slice_get plan.imports.now import ≡ Some content
  pub automaton : IsAutomaton content
  pub short :
      (plan.limit < length content.nodes + length content.states)
      ⊎ ((few : Content Sign) × IsFewestOf content few × NeedsAtLeast plan.limit few (renamed_places variables few.variables))

-- the product of an automaton with one that holds everywhere over some variables is short of nodes
abbrev pub IsWideShort : ℕ → Content Sign → List Variable → Type 0
IsWideShort limit wide next = (limit < 32) ⊎ ((other : Content Sign) × IsSmallWhole next other × AreAtLeast limit Op.And (operands_of wide other))

-- an automaton over more variables is short of nodes: over some of them it has fewest states, or is as it was, and over some more it is
-- the product with an automaton that holds everywhere
pub record WideningLacks (limit : ℕ) (part : Content Sign) (wanted : List Variable) : Type 0 where
  pub wide : Content Sign
  pub automaton : IsAutomaton wide
  pub added : List Variable
  pub is_wide : IsWider part added wide
  pub least : (wide ≡ part) ⊎ IsLeast wide
  pub next : List Variable
  pub among : (v : Variable) → IsAmong added v ⊎ IsAmong next v → IsAmong wanted v
  pub short : IsWideShort limit wide next

-- a child, over more variables, is short of nodes
pub record ChildLacks (plan : Plan) (child : Child) (wanted : List Variable) : Type 0 where
  pub part : Content Sign
  pub is_part : IsOperand plan child part
  pub short : WideningLacks plan.limit part wanted

-- the body of a quantifier over more variables: it has fewest states, or is as it was
abbrev pub IsLeastBody : Plan → Child → Content Sign → Type 0
IsLeastBody plan child whole = (part : Content Sign) × IsOperand plan child part × ((whole ≡ part) ⊎ IsLeast whole)

-- the restriction of a quantifier
abbrev pub IsDomain : Plan → Option Child → Option (Content Sign) → Type 0
IsDomain plan None None = Unit {0}
IsDomain plan None (Some content) = ⊥
IsDomain plan (Some child) None = ⊥
IsDomain plan (Some child) (Some content) = IsOperand plan child content

-- a quantifier is short of nodes, once its body is over all variables of the node and the bound one
pub record ProjectionLacks (plan : Plan) (orders : List Order) (bound : Variable) (domain : Option Child) (body : Child) : Type 0 where
  pub whole : Content Sign
  pub automaton : IsAutomaton whole
  pub range : Option (Content Sign)
  pub is_least : IsLeastBody plan body whole
  pub is_whole : IsBodyOf plan (orders ++ bound.order ∷ []) body whole
  pub is_range : IsDomain plan domain range
  pub short : projections.NeedsAtLeast plan.limit whole (domain_or_always whole.mode range) bound.name

-- a quantifier is short of nodes: its body over more variables is, or the quantifier itself
abbrev pub QuantifierLacks : Plan → List Order → Variable → Option Child → Child → Type 0
QuantifierLacks plan orders bound domain body =
    ChildLacks plan body (variables_by_place (orders ++ bound.order ∷ [])) ⊎ ProjectionLacks plan orders bound domain body

-- a node is short of nodes, by its form: a constant, a negation and a restriction never are
abbrev pub FormLacks : Plan → List Order → DagNode → Type 0
FormLacks plan orders True = ⊥
FormLacks plan orders False = ⊥
FormLacks plan orders (Basic b) = plan.limit < 8 * (states_of b + 1)
FormLacks plan orders (Not c) = ⊥
FormLacks plan orders (And cs) = ManyLacks plan All cs
FormLacks plan orders (Or cs) = ManyLacks plan Any cs
FormLacks plan orders (Implies c d) = PairLacks plan Op.Implies c d
FormLacks plan orders (Iff c d) = PairLacks plan Op.Iff c d
FormLacks plan orders (Restrict c) = ⊥
FormLacks plan orders (Import i xs) = ImportLacks plan i xs
FormLacks plan orders (Bind q o k d c) = QuantifierLacks plan orders (record { name = k; order = o }) d c

-- a node by its number; a limit below that of the smallest automata is too small for each
abbrev pub NodeLacks : Plan → ℕ → Type 0
NodeLacks plan i = (entry : Entry) × (slice_get (entries_of plan) i ≡ Some entry) × ((plan.limit < 16) ⊎ FormLacks plan entry.orders entry.node)

-- a root by its number: its formula, over all variables of the root
abbrev pub RootLacks : Plan → ℕ → Type 0
RootLacks plan r =
    (root : SharedRoot) × (slice_get plan.dag.now.roots r ≡ Some root) × ChildLacks plan root.child (named plan.dag.now.orders root.variables)

-- one of the nodes was refused by its number under the limit, and lacks nodes; or memory was
abbrev pub IsStepRefused : Plan → Refusal → Type 0
IsStepRefused plan (Nodes step named) = (named ≡ plan.limit) × NodeLacks plan step
IsStepRefused plan Memory = Unit {0}
IsStepRefused plan other = ⊥

-- what is built of a graph over automata of imports, under a limit
pub record IsPlanOf (imports : List (Content Sign)) (mode : Mode) (dag : Dag) (limit : ℕ) (plan : Plan) : Type 0 where
  pub imports_are : plan.imports.now ≡ imports
  pub mode_is : plan.mode ≡ mode
  pub dag_is : plan.dag.now ≡ dag
  pub limit_is : plan.limit ≡ limit

-- why a graph is not built
abbrev pub IsUnbuilt : List (Content Sign) → Mode → Dag → ℕ → Refusal → Type 0
IsUnbuilt imports mode dag limit refusal = (plan : Plan) × IsPlanOf imports mode dag limit plan × IsStepRefused plan refusal
