-- Notes of what keys have become, as the list of their entries.
use Rattle.std.specs.Prelude.{◌≡◌, ◌⊎◌, Bool, true, List, Contains, map}
use Rattle.ms_arena.specs.declared.node.Ref.{Ref}
use Rattle.ms_cache.specs.declared.key.Key.{Key}

-- each entry is one of the old ones
abbrev pub KeepsOnly : {X : Type 0} → List X → List X → Type 0
KeepsOnly {X} old new = (entry : X) → Contains new entry → Contains old entry

-- each entry is one of the old ones, or has the value under the key or under one that is equal to it
abbrev pub NotesOnly : {K V : Type 0} → (K → K → Bool) → List (K × V) → List (K × V) → K → V → Type 0
NotesOnly {K} {V} eq old new key value =
    (entry : K × V) → Contains new entry → Contains old entry ⊎ ((entry.1 ≡ value) × ((entry.0 ≡ key) ⊎ (eq key entry.0 ≡ true)))

-- the entries of a memo, with pairs for its keys
abbrev pub pair_entries : List (Key × Ref) → List ((Ref × Ref) × Ref)
pair_entries entries = map (λ entry. ((entry.0.left, entry.0.right), entry.1)) entries
