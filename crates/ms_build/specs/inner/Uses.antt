-- Which node of a graph is the last that uses another.
use Rattle.std.specs.Prelude.{◌≡◌, ◌<◌, ◌≤◌, ℕ, List, length, slice_get, slice_index, Contains, Some}
use Rattle.ms_dag.specs.declared.node.Child.{Child}
use Rattle.ms_dag.specs.declared.node.Entry.{Entry}
use Rattle.ms_dag.specs.Dag.{IsNodeOf, children_of}

-- the last use of what is used to the end
abbrev pub to_the_end : ℕ
to_the_end = 4294967295

-- the last uses of these nodes are no earlier than a step, and no other has become earlier
pub record AreNotedUses (early late : List ℕ) (nodes : List ℕ) (step : ℕ) : Type 0 where
  pub count : length late ≡ length early
  pub kept : (i : ℕ) → slice_index early i ≤ slice_index late i
  pub noted : (i : ℕ) → Contains nodes i → i < length early → step ≤ slice_index late i

-- no node with a child comes behind the last use of the child, of the first so many
abbrev pub AreUsesSoFar : List Entry → ℕ → List ℕ → Type 0
AreUsesSoFar entries count last =
    (k : ℕ) (entry : Entry) (i : ℕ) → k < count → slice_get entries k ≡ Some entry → IsNodeOf (children_of entry.node) i → i < length last → k ≤ slice_index last i

-- for each node its last use: no node that has it as a child comes behind that, and a root is used to the end
pub record AreLastUses (entries : List Entry) (roots : List Child) (last : List ℕ) : Type 0 where
  pub all : length last ≡ length entries
  pub children : AreUsesSoFar entries (length entries) last
  pub ends : (i : ℕ) → IsNodeOf roots i → i < length last → to_the_end ≤ slice_index last i
