-- Basic relations and imports as nodes.
use Rattle.std.specs.Prelude.{◌≡◌, ℕ, List, slice_index}
use Rattle.std.specs.List.Sorted.{IsStrictlyIncreasing}
use Rattle.ms_logic_core.specs.declared.core_formula.Basic.{Basic as Relation}
use Rattle.ms_logic.specs.declared.mode.Order.{Order}
use Rattle.ms_diagram.specs.Collect.{HaveSameItems}
use Rattle.ms_dag.specs.declared.node.Child.{Child}
use Rattle.ms_dag.specs.declared.node.DagNode.TheVariants.{Basic, Import}
use Rattle.ms_dag.specs.declared.node.Entry.{Entry}
use Rattle.ms_dag.specs.Places.{AreAt}
use Rattle.ms_dag.specs.inner.Shared.{IsMade}
use Rattle.ms_dag.specs.Unfolds.{names_of_basic, renamed}

-- the relation, with the places of its variables among these
pub record IsPlacedBasic (among : List ℕ) (b own : Relation) : Type 0 where
  pub places : AreAt among (names_of_basic own) (names_of_basic b)
  pub renamed_is : b ≡ renamed (slice_index among) own

-- the child is the node of the relation
pub record IsBasicNode (orders : List Order) (old new : List Entry) (b : Relation) (child : Child) : Type 0 where
  pub own : Relation
  pub made : IsMade orders old new (Basic own) child.map child
  pub rising : IsStrictlyIncreasing child.map
  pub variables : HaveSameItems (names_of_basic b) child.map
  pub placed : IsPlacedBasic child.map b own

-- the child is the node of the import at these variables
pub record IsImportNode (orders : List Order) (old new : List Entry) (i : ℕ) (xs : List ℕ) (child : Child) : Type 0 where
  pub own : List ℕ
  pub made : IsMade orders old new (Import i own) child.map child
  pub rising : IsStrictlyIncreasing child.map
  pub variables : HaveSameItems xs child.map
  pub places : AreAt child.map own xs
