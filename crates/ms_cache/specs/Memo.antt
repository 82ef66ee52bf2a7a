-- What contracts see of a memo.
use Rattle.std.specs.Prelude.{ℕ, List, [], ◌∷◌}
use Rattle.ms_arena.specs.declared.node.Ref.{Ref}
use Rattle.ms_cache.specs.declared.key.Key.{Key}

-- the keys with what they have become, the most recently used first, how many there may be, and the number of answers
pub record Contents : Type 0 where
  pub entries : List (Key × Ref)
  pub capacity : ℕ
  pub hits : ℕ

-- the fact holds of the key and the value of each entry
abbrev pub EachEntry : {K V : Type 0} → (K → V → Type 0) → List (K × V) → Type 0
EachEntry fact [] = Unit {0}
EachEntry fact (entry ∷ entries) = fact entry.0 entry.1 × EachEntry fact entries
