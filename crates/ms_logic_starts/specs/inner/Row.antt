-- Items in a row by their places, and references in one row.
use Rattle.std.specs.Prelude.{◌≡◌, ℕ, ◌+◌, ◌<◌, List, slice_index_or}
use Rattle.ms_arena.specs.declared.node.Ref.{Ref}
use Rattle.ms_arena.specs.declared.node.Ref.TheVariants.{Leaf, Inner}

-- at each place below a bound stands an item that is right there, whatever stands past the end
abbrev pub EachIsRight : {A : Type 0} → ℕ → (ℕ → A → Type 0) → List A → Type 0
EachIsRight {A} n P items = (i : ℕ) (other : A) → i < n → P i (slice_index_or items i other)

-- so many places behind the old ones, and then numbers as leaves
abbrev pub StandsAt : ℕ → ℕ → ℕ → Ref → Type 0
StandsAt old more i (Inner place) = (place ≡ old + i) × (i < more)
StandsAt old more i (Leaf number) = i ≡ more + number
