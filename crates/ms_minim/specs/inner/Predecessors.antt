-- For each state those that lead to it.
use Rattle.std.specs.Prelude.{◌≡◌, ℕ, ◌<◌, List, [], length, slice_get, slice_index_or, Some}
use Rattle.ms_arena.specs.Diagram.{Bits}
use Rattle.ms_logic_words.specs.declared.sign.Sign.{Sign}
use Rattle.ms_logic_words.specs.Content.{Content}
use Rattle.ms_minim.specs.inner.Partition.{next_by}

-- the item is in the list at a place
abbrev pub IsListed : List (List ℕ) → ℕ → ℕ → Type 0
IsListed lists place item = (at : ℕ) × (slice_get (slice_index_or lists place []) at ≡ Some item)

-- each item in each list is below a bound
abbrev pub AreBelow : ℕ → List (List ℕ) → Type 0
AreBelow bound lists = (place item : ℕ) → IsListed lists place item → item < bound

-- the first so many states are in the list of each state to which they lead
pub record PredecessorsSoFar (content : Content Sign) (lists : List (List ℕ)) (done : ℕ) : Type 0 where
  pub count : length lists ≡ length content.states
  pub listed : (state : ℕ) → state < done → (bits : Bits) → IsListed lists (next_by content state bits) state
  pub below : AreBelow (length content.states) lists

-- all states are
abbrev pub ArePredecessors : Content Sign → List (List ℕ) → Type 0
ArePredecessors content lists = PredecessorsSoFar content lists (length content.states)
