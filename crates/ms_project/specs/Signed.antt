-- The signs of the sets, once all have been found: the next set at zeros, and each state with its sign.
use Rattle.std.specs.Prelude.{◌≡◌, ℕ, ◌<◌, Bool, false, List, length, replicate, slice_get, Some}
use Rattle.ms_arena.specs.declared.node.Node.{Node}
use Rattle.ms_arena.specs.Diagram.{leaf_of, IsValid}
use Rattle.ms_arena.specs.Reach.{IsTested}
use Rattle.ms_diagram.specs.Store.{bits_of}
use Rattle.ms_dfa.specs.declared.state.State.{State}
use Rattle.ms_logic.specs.declared.mode.Quant.{Quant}
use Rattle.ms_quotient.specs.declared.marks.Marks.{Marks}
use Rattle.ms_quotient.specs.Closure.{marks_at}
use Rattle.ms_project.specs.Marks.{sign_by}

-- where zeros for so many variables lead from a state
abbrev pub zero_step : List Node → ℕ → State → ℕ
zero_step nodes count state = leaf_of nodes state.next (bits_of (replicate count false))

-- the diagram of each state is there, and tests only variables below this one
abbrev pub TestBelow : List Node → ℕ → List State → Type 0
TestBelow nodes count states =
    (place : ℕ) (state : State) → slice_get states place ≡ Some state
    → IsValid nodes state.next × ((var : ℕ) → IsTested nodes state.next var → var < count)

-- the same states, with the signs that their marks make
pub record AreSigned (q : Quant) (empty : Bool) (closed : List Marks) (states signed : List State) : Type 0 where
  pub long : length signed ≡ length states
  pub each : (place : ℕ) (state : State) → slice_get states place ≡ Some state
      → slice_get signed place ≡ Some (record { sign = sign_by q empty (marks_at closed place); next = state.next })
