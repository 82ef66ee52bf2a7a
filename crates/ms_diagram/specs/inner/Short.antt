-- References by codes of four bytes.
use Rattle.std.specs.Prelude.{ℕ, ◌<◌, ◌≤◌, ◌⊎◌, List, map}
use Rattle.ms_arena.specs.declared.node.Ref.{Ref}
use Rattle.ms_cache.specs.Memo.{EachEntry}
use Rattle.ms_arena.specs.inner.Code.{code_of, ref_of}

-- an entry, with references in place of its codes
abbrev pub with_refs : (ℕ × ℕ) × ℕ → (Ref × Ref) × Ref
with_refs entry = ((ref_of entry.0.0, ref_of entry.0.1), ref_of entry.1)

abbrev pub short_entries : List ((ℕ × ℕ) × ℕ) → List ((Ref × Ref) × Ref)
short_entries entries = map with_refs entries

-- a code has four bytes, and is none of the two greatest numbers of four bytes
abbrev pub IsShort : ℕ → Type 0
IsShort code = code < 4294967294

-- all codes of entries' pairs have
abbrev pub AreShort : List ((ℕ × ℕ) × ℕ) → Type 0
AreShort entries = EachEntry (λ codes made. IsShort codes.0 × IsShort codes.1) entries

-- that of one of two references does not
abbrev pub IsLong : Ref × Ref → Type 0
IsLong key = (4294967294 ≤ code_of key.0) ⊎ (4294967294 ≤ code_of key.1)
