-- Tables and memos as notes.
use Rattle.std.proofs.Common.{◌≡◌, ◌⊎◌, Bool, true, if◌then◌else◌, List, [], ◌∷◌, Contains, Some, refl, sym, ap, subst, inl, inr, ⊎_elim, Result, Ok, Err, OnOk, ◌∙◌}
use Rattle.std.proofs.lemmas.Bool.{cases_Bool}
use Rattle.std.specs.Map.{lookup}
use Rattle.indexmap.specs.IndexMap.{insert_entry}
use Rattle.ms_arena.specs.declared.node.Ref.{Ref}
use Rattle.ms_arena.specs.contracts.node.RefPartialEq.TheImpl as of_ref
use Rattle.ms_cache.specs.declared.key.Key.{Key}
use Rattle.ms_cache.specs.Key.{is_key}
use Rattle.ms_cache.proofs.Among.{Contains-head, Contains-tail, Contains-cons, Contains-nil}
use Rattle.ms_diagram.specs.inner.Equal.{pair_eq}
use Rattle.ms_diagram.specs.inner.Notes.{KeepsOnly, NotesOnly, pair_entries}

-- an insertion into a table notes one entry
pub NotesOnly-insert : {K V : Type 0} → (eq : K → K → Bool) (old : List (K × V)) (key : K) (value : V) → NotesOnly eq old (insert_entry eq old key value) key value
NotesOnly-insert eq [] key value entry among =
    ⊎_elim (λ here. inr (sym (ap (λ e. e.1) here), inl (sym (ap (λ e. e.0) here)))) (λ none. absurd (Contains-nil entry none)) (Contains-cons (key, value) [] entry among)
NotesOnly-insert {K} {V} eq (first ∷ old) key value entry among =
    let Held : Bool → Type 0 = λ t. Contains (if t then (first.0, value) ∷ old else first ∷ insert_entry eq old key value) entry in
    ⊎_elim
    (λ passes. ⊎_elim
    (λ here. inr (sym (ap (λ e. e.1) here), inr (subst (λ (k : K). eq key k ≡ true) (ap (λ e. e.0) here) passes)))
    (λ later. inl (Contains-tail first old entry later))
    (Contains-cons (first.0, value) old entry (subst Held passes among)))
    (λ fails. ⊎_elim
    (λ here. inl (subst (λ (e : K × V). Contains (first ∷ old) e) here (Contains-head first old)))
    (λ later. ⊎_elim (λ before. inl (Contains-tail first old entry before)) (λ added. inr added) (NotesOnly-insert eq old key value entry later))
    (Contains-cons first (insert_entry eq old key value) entry (subst Held fails among)))
    (cases_Bool (eq key first.0))

-- the key of a pair
abbrev pub key_of : Ref × Ref → Key
key_of pair = record { left = pair.0; right = pair.1 }

-- a look-up among the pairs of a memo
pub lookup-pair_entries : (pair : Ref × Ref) (entries : List (Key × Ref))
    → lookup (pair_eq of_ref.eq-value.it of_ref.eq-value.it pair) (pair_entries entries) ≡ lookup (is_key (key_of pair)) entries
lookup-pair_entries pair [] = refl
lookup-pair_entries pair (entry ∷ entries) =
    ap (λ rest. if is_key (key_of pair) entry.0 then Some entry.1 else rest) (lookup-pair_entries pair entries)

-- an entry with its pair
abbrev paired : Key × Ref → (Ref × Ref) × Ref
paired entry = ((entry.0.left, entry.0.right), entry.1)

Contains-paired : (entries : List (Key × Ref)) (entry : Key × Ref) → Contains entries entry → Contains (pair_entries entries) (paired entry)
Contains-paired [] entry among = absurd (Contains-nil entry among)
Contains-paired (first ∷ entries) entry among =
    ⊎_elim (λ here. subst (λ (e : Key × Ref). Contains (pair_entries (first ∷ entries)) (paired e)) here (Contains-head (paired first) (pair_entries entries)))
    (λ later. Contains-tail (paired first) (pair_entries entries) (paired entry) (Contains-paired entries entry later))
    (Contains-cons first entries entry among)

Contains-unpaired : (entries : List (Key × Ref)) (entry : (Ref × Ref) × Ref) → Contains (pair_entries entries) entry → Contains entries (key_of entry.0, entry.1)
Contains-unpaired [] entry among = absurd (Contains-nil entry among)
Contains-unpaired (first ∷ entries) entry among =
    ⊎_elim (λ here. subst (λ (e : (Ref × Ref) × Ref). Contains (first ∷ entries) (key_of e.0, e.1)) here (Contains-head first entries))
    (λ later. Contains-tail first entries (key_of entry.0, entry.1) (Contains-unpaired entries entry later))
    (Contains-cons (paired first) (pair_entries entries) entry among)

-- what a memo keeps it keeps with pairs for its keys
pub KeepsOnly-pair_entries : (old new : List (Key × Ref)) → KeepsOnly old new → KeepsOnly (pair_entries old) (pair_entries new)
KeepsOnly-pair_entries old new kept entry among =
    Contains-paired old (key_of entry.0, entry.1) (kept (key_of entry.0, entry.1) (Contains-unpaired new entry among))

-- and what it notes it notes so
pub NotesOnly-pair_entries : (eq : Ref × Ref → Ref × Ref → Bool) (old new : List (Key × Ref)) (pair : Ref × Ref) (value : Ref)
    → ((entry : Key × Ref) → Contains new entry → Contains old entry ⊎ ((entry.1 ≡ value) × (entry.0 ≡ key_of pair)))
    → NotesOnly eq (pair_entries old) (pair_entries new) pair value
NotesOnly-pair_entries eq old new pair value noted entry among =
    ⊎_elim (λ before. inl (Contains-paired old (key_of entry.0, entry.1) before))
    (λ added. inr (added.0, inl (ap (λ (key : Key). (key.left, key.right)) added.1)))
    (noted (key_of entry.0, entry.1) (Contains-unpaired new entry among))

-- and finds it so
pub lookup-noted_pair : {R E : Type 0} → (result : Result R E) (new : List (Key × Ref)) (pair : Ref × Ref) (value : Ref)
    → OnOk result (lookup (is_key (key_of pair)) new ≡ Some value)
    → OnOk result (lookup (pair_eq of_ref.eq-value.it of_ref.eq-value.it pair) (pair_entries new) ≡ Some value)
lookup-noted_pair (Ok done) new pair value found = lookup-pair_entries pair new ∙ found
lookup-noted_pair (Err refusal) new pair value found = tt
