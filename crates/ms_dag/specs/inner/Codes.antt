-- A node with its orders as a list of codes, by which it is looked up. No two have the same codes.
use Rattle.std.specs.Prelude.{ℕ, List, [], ◌∷◌, ◌++◌, length, map, Option, Some, None}
use Rattle.ms_logic_core.specs.declared.core_formula.Basic.{Basic as Relation}
use Rattle.ms_logic_core.specs.declared.core_formula.Basic.TheVariants.{Truth, Number, Plus, Less, Member, Sub, Union, Inter, Diff, Up, Down, Min, Max, Bits}
use Rattle.ms_logic.specs.declared.mode.Order.{Order}
use Rattle.ms_logic.specs.declared.mode.Order.TheVariants.{Zero, One, Two}
use Rattle.ms_logic.specs.declared.mode.Quant.{Quant}
use Rattle.ms_logic.specs.declared.mode.Quant.TheVariants.{Ex, All}
use Rattle.ms_dag.specs.declared.node.Child.{Child}
use Rattle.ms_dag.specs.declared.node.DagNode.{DagNode}
use Rattle.ms_dag.specs.declared.node.DagNode.TheVariants.{True, False, Basic, Not, And, Or, Implies, Iff, Restrict, Import, Bind}
use Rattle.ms_dag.specs.declared.node.Entry.{Entry}

abbrev pub code_of_order : Order → ℕ
code_of_order Zero = 0
code_of_order One = 1
code_of_order Two = 2

abbrev pub code_of_quant : Quant → ℕ
code_of_quant Ex = 0
code_of_quant All = 1

abbrev pub codes_of_numbers : List ℕ → List ℕ
codes_of_numbers numbers = length numbers ∷ numbers

-- the form, three variables and a number, 0 where there is none
abbrev pub codes_of_basic : Relation → List ℕ
codes_of_basic (Truth a) = 0 ∷ a ∷ 0 ∷ 0 ∷ 0 ∷ []
codes_of_basic (Number x n) = 1 ∷ x ∷ 0 ∷ 0 ∷ n ∷ []
codes_of_basic (Plus x y n) = 2 ∷ x ∷ y ∷ 0 ∷ n ∷ []
codes_of_basic (Less x y) = 3 ∷ x ∷ y ∷ 0 ∷ 0 ∷ []
codes_of_basic (Member x s) = 4 ∷ x ∷ s ∷ 0 ∷ 0 ∷ []
codes_of_basic (Sub s t) = 5 ∷ s ∷ t ∷ 0 ∷ 0 ∷ []
codes_of_basic (Union s t u) = 6 ∷ s ∷ t ∷ u ∷ 0 ∷ []
codes_of_basic (Inter s t u) = 7 ∷ s ∷ t ∷ u ∷ 0 ∷ []
codes_of_basic (Diff s t u) = 8 ∷ s ∷ t ∷ u ∷ 0 ∷ []
codes_of_basic (Up s t n) = 9 ∷ s ∷ t ∷ 0 ∷ n ∷ []
codes_of_basic (Down s t n) = 10 ∷ s ∷ t ∷ 0 ∷ n ∷ []
codes_of_basic (Min x s) = 11 ∷ x ∷ s ∷ 0 ∷ 0 ∷ []
codes_of_basic (Max x s) = 12 ∷ x ∷ s ∷ 0 ∷ 0 ∷ []
codes_of_basic (Bits s n) = 13 ∷ s ∷ 0 ∷ 0 ∷ n ∷ []

abbrev pub codes_of_child : Child → List ℕ
codes_of_child child = child.node ∷ codes_of_numbers child.map

abbrev pub codes_of_each : List Child → List ℕ
codes_of_each [] = []
codes_of_each (c ∷ cs) = codes_of_child c ++ codes_of_each cs

abbrev pub codes_of_domain : Option Child → List ℕ
codes_of_domain None = 0 ∷ []
codes_of_domain (Some d) = 1 ∷ codes_of_child d

abbrev pub codes_of_node : DagNode → List ℕ
codes_of_node True = 0 ∷ []
codes_of_node False = 1 ∷ []
codes_of_node (Basic b) = 2 ∷ codes_of_basic b
codes_of_node (Not c) = 3 ∷ codes_of_child c
codes_of_node (And cs) = 4 ∷ length cs ∷ codes_of_each cs
codes_of_node (Or cs) = 5 ∷ length cs ∷ codes_of_each cs
codes_of_node (Implies c d) = 6 ∷ codes_of_child c ++ codes_of_child d
codes_of_node (Iff c d) = 7 ∷ codes_of_child c ++ codes_of_child d
codes_of_node (Restrict c) = 8 ∷ codes_of_child c
codes_of_node (Import i xs) = 9 ∷ i ∷ codes_of_numbers xs
codes_of_node (Bind q o k d c) = 10 ∷ code_of_quant q ∷ code_of_order o ∷ k ∷ codes_of_domain d ++ codes_of_child c

abbrev pub codes_of_entry : Entry → List ℕ
codes_of_entry entry = codes_of_numbers (map code_of_order entry.orders) ++ codes_of_node entry.node
