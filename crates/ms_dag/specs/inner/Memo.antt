-- The nodes of the calls that have been met.
use Rattle.std.specs.Prelude.{◌≡◌, ◌⊎◌, ℕ, nat_eq, List, ◌∷◌, Option, Some}
use Rattle.std.specs.Cmp.Lexicographic.{pointwise}
use Rattle.std.specs.Map.{lookup}
use Rattle.ms_logic.specs.declared.mode.Order.{Order}
use Rattle.ms_logic_core.specs.Calls.{Calls}
use Rattle.ms_dag.specs.declared.memo.Called.{Called}
use Rattle.ms_dag.specs.declared.node.Child.{Child}
use Rattle.ms_dag.specs.declared.node.Entry.{Entry}
use Rattle.ms_dag.specs.inner.Shared.{IsShared}

-- the node of a call, by its import and then its variables
abbrev pub child_for : Called → List ℕ → Option Child
child_for called call = lookup (λ key. pointwise nat_eq call key.items) called.children.entries

-- one call has this node now
pub record IsTold (old new : Called) (call : List ℕ) (child : Child) : Type 0 where
  pub told : child_for new call ≡ Some child
  pub others : (other : List ℕ) → (other ≡ call) ⊎ (child_for new other ≡ child_for old other)

-- each of them is in the graph what its import stands for at its variables
abbrev pub AreCalled : Calls → List Order → List Entry → Called → Type 0
AreCalled calls orders entries called =
    (import : ℕ) (variables : List ℕ) (child : Child) → child_for called (import ∷ variables) ≡ Some child → IsShared orders entries (calls import variables) child
