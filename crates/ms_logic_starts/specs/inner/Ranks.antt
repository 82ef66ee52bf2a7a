-- Variables with a bit, by how many of them stand before a place.
use Rattle.std.specs.Prelude.{◌≡◌, ℕ, zero, suc, ◌<◌, ◌≤◌, Bool, IsTrue, if◌then◌else◌, List, [], ◌∷◌, slice_get, Some}
use Rattle.ms_arena.specs.Diagram.{Bits}
use Rattle.ms_logic.specs.declared.mode.Order.{Order}
use Rattle.ms_logic.specs.Assignment.{Variable}

module _ (has_bit : Order → Bool) where
  -- how many variables before a place have a bit
  abbrev pub rank : ℕ → List Variable → ℕ
  rank zero variables = 0
  rank (suc place) [] = 0
  rank (suc place) (v ∷ vs) = if has_bit v.order then suc (rank place vs) else rank place vs

  -- the bits, one after the other, of the variables before a place
  abbrev pub bits_before : ℕ → List Variable → Bits → List Bool
  bits_before zero variables bits = []
  bits_before (suc place) [] bits = []
  bits_before (suc place) (v ∷ vs) bits =
      if has_bit v.order then bits 0 ∷ bits_before place vs (λ other. bits (suc other)) else bits_before place vs (λ other. bits (suc other))

  -- so many of the variables with a bit stand before the level
  abbrev pub IsLevel : ℕ → List Variable → ℕ → Type 0
  IsLevel count variables level =
      (place : ℕ) (v : Variable) → slice_get variables place ≡ Some v → IsTrue (has_bit v.order)
      → (place < level → rank place variables < count) × (level ≤ place → count ≤ rank place variables)
