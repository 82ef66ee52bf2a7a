-- Variables in another order, by the places at which they are read.
use Rattle.std.proofs.Common.{◌≡◌, ℕ, ◌<◌, ◌≤◌, List, length, slice_get, slice_index, Some}
use Rattle.ms_logic.specs.Assignment.{Variable}
use Rattle.ms_logic_starts.specs.ContentStarts.{HaveDistinctNumbers}

-- the order has each of the variables, no two of one number, and the places at which they are read do not fall in it
pub record IsArranged (variables order : List Variable) (places : List ℕ) : Type 0 where
  pub own : HaveDistinctNumbers order
  pub read_at : ℕ → ℕ
  pub stands : (i : ℕ) (v : Variable) → slice_get variables i ≡ Some v → (at : ℕ) × (slice_get order at ≡ Some v) × (slice_index places i ≡ read_at at)
  pub rises : (one two : ℕ) → one < two → two < length order → read_at one ≤ read_at two

-- up to a bound, numbers below a level are less than this one, and those from there on are not
pub record IsCut (read_at : ℕ → ℕ) (var bound level : ℕ) : Type 0 where
  pub within : level ≤ bound
  pub below : (at : ℕ) → at < bound → at < level → read_at at < var
  pub above : (at : ℕ) → at < bound → level ≤ at → var ≤ read_at at
