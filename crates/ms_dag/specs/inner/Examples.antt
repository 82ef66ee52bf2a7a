-- Graphs for worked examples.
use Rattle.std.specs.Prelude.{ℕ, List, [], ◌∷◌, None}
use Rattle.ms_logic_core.specs.declared.core_formula.Basic.TheVariants.{Less}
use Rattle.ms_logic.specs.declared.mode.Order.{Order}
use Rattle.ms_logic.specs.declared.mode.Order.TheVariants.{One}
use Rattle.ms_logic.specs.declared.mode.Quant.TheVariants.{Ex}
use Rattle.ms_logic.specs.declared.assignment.Value.TheVariants as value
use Rattle.ms_logic.specs.Assignment.{Env, assign}
use Rattle.ms_logic_core.specs.CoreForm.{truth, basic}
use Rattle.ms_logic.specs.inner.Examples.{naturals}
use Rattle.ms_logic_core.specs.Calls.{Calls}
use Rattle.ms_dag.specs.declared.node.Child.{Child}
use Rattle.ms_dag.specs.declared.node.DagNode.TheVariants.{Basic, And, Restrict, Import, Bind}
use Rattle.ms_dag.specs.declared.node.Entry.{Entry}

abbrev pub child : ℕ → List ℕ → Child
child node places = record { node = node; map = places }

-- x < y, over x and y
abbrev pub before : Entry
before = record { node = Basic (Less 0 1); orders = One ∷ One ∷ [] }

-- import 5, over a variable of this order
abbrev pub import_at : Order → Entry
import_at order = record { node = Import 5 (0 ∷ []); orders = order ∷ [] }

-- x < y & y < z, over x, y and z: both sides are the same node
abbrev pub between : Entry
between = record { node = And (child 0 (0 ∷ 1 ∷ []) ∷ child 0 (1 ∷ 2 ∷ []) ∷ []); orders = One ∷ One ∷ One ∷ [] }

abbrev pub chain : List Entry
chain = before ∷ between ∷ []

-- restrict(x < y)
abbrev pub restricted_before : Entry
restricted_before = record { node = Restrict (child 0 (0 ∷ 1 ∷ [])); orders = One ∷ One ∷ [] }

abbrev pub restricted_chain : List Entry
restricted_chain = before ∷ restricted_before ∷ []

-- ex1 z: x < z, over x
abbrev pub greater_exists : Entry
greater_exists = record { node = Bind Ex One 1 None (child 0 (0 ∷ 1 ∷ [])); orders = One ∷ [] }

abbrev pub bound_chain : List Entry
bound_chain = before ∷ greater_exists ∷ []

-- the numbers 0, 1 and 2 at these values
abbrev pub at_values : ℕ → ℕ → ℕ → Env
at_values x y z = assign 0 (value.Number x) (assign 1 (value.Number y) (assign 2 (value.Number z) naturals))

-- each import stands for x < y at x and y
abbrev pub calls_before : Calls
calls_before i [] = truth
calls_before i (x ∷ []) = truth
calls_before i (x ∷ y ∷ ys) = basic (Less x y)
