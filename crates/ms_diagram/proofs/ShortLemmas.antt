-- Entries by codes, as entries by references.
use Rattle.std.proofs.Common.{◌≡◌, ℕ, Bool, true, false, nat_eq, ◌&&◌, if◌then◌else◌, List, [], ◌∷◌, Contains, Option, None, Some, refl, sym, ap, subst, ◌∙◌, inl, inr, ⊎_elim, arith}
use Rattle.std.proofs.lemmas.Bool.{eqb-true, eq-eqb}
use Rattle.std.specs.Map.{lookup}
use Rattle.ms_arena.specs.declared.node.Ref.{Ref}
use Rattle.ms_arena.specs.contracts.node.RefPartialEq.TheImpl as of_ref
use Rattle.ms_arena.proofs.Equality.{same_ref, ref_itself}
use Rattle.ms_cache.proofs.Among.{Contains-head, Contains-tail, Contains-cons, Contains-nil}
use Rattle.ms_arena.specs.inner.Code.{code_of, ref_of}
use Rattle.ms_arena.proofs.CodeLemmas.{code_of-ref_of, ref_of-code_of}
pub use Rattle.ms_diagram.specs.inner.Equal.{refs_eq}
use Rattle.ms_diagram.specs.inner.Notes.{NotesOnly}
use Rattle.ms_diagram.specs.inner.Short.{with_refs, short_entries, IsShort, AreShort, IsLong}
use Rattle.ms_diagram.proofs.PairLemmas.{numbers_eq, same_numbers}
use Rattle.ms_diagram.proofs.TableLemmas.{EachEntry-found, EachEntry-noted}

-- truth values that imply each other
both_true : (one other : Bool) → (one ≡ true → other ≡ true) → (other ≡ true → one ≡ true) → one ≡ other
both_true true true there back = refl
both_true true false there back = sym (there refl)
both_true false true there back = back refl
both_true false false there back = refl

-- references are equal where their codes are
same_test : (reference : Ref) (code : ℕ) → of_ref.eq-value.it reference (ref_of code) ≡ nat_eq (code_of reference) code
same_test reference code = both_true (of_ref.eq-value.it reference (ref_of code)) (nat_eq (code_of reference) code)
    (λ equal. eq-eqb (code_of reference) code (ap code_of (same_ref reference (ref_of code) equal) ∙ code_of-ref_of code))
    (λ equal.
    let same : code_of reference ≡ code = eqb-true (code_of reference) code equal in
    subst (λ (r : Ref). of_ref.eq-value.it reference r ≡ true) (sym (ref_of-code_of reference) ∙ ap ref_of same) (ref_itself reference))

-- the codes of a pair
abbrev pub codes_of : Ref × Ref → ℕ × ℕ
codes_of key = (code_of key.0, code_of key.1)

same_pair_test : (key : Ref × Ref) (codes : ℕ × ℕ) → refs_eq key (ref_of codes.0, ref_of codes.1) ≡ numbers_eq (codes_of key) codes
same_pair_test key codes =
    let left = same_test key.0 codes.0 in
    let right = same_test key.1 codes.1 in
    λ i. left i && right i

-- the reference of a code, if there is one
abbrev pub ref_of_found : Option ℕ → Option Ref
ref_of_found None = None
ref_of_found (Some code) = Some (ref_of code)

-- a look-up by references gives the reference of what one by codes gives
pub lookup-short : (key : Ref × Ref) (entries : List ((ℕ × ℕ) × ℕ)) → lookup (refs_eq key) (short_entries entries) ≡ ref_of_found (lookup (numbers_eq (codes_of key)) entries)
lookup-short key [] = refl
lookup-short key (entry ∷ entries) =
    ap (λ (t : Bool). if t then Some (ref_of entry.1) else lookup (refs_eq key) (short_entries entries)) (same_pair_test key entry.0)
    ∙ ap (λ rest. if numbers_eq (codes_of key) entry.0 then Some (ref_of entry.1) else rest) (lookup-short key entries)
    ∙ of_either (numbers_eq (codes_of key) entry.0)
  where
    of_either : (t : Bool) → (if t then Some (ref_of entry.1) else ref_of_found (lookup (numbers_eq (codes_of key)) entries))
        ≡ ref_of_found (if t then Some entry.1 else lookup (numbers_eq (codes_of key)) entries)
    of_either true = refl
    of_either false = refl

-- a pair with a longer code has no entry
pub lookup-long : (key : Ref × Ref) (entries : List ((ℕ × ℕ) × ℕ)) → AreShort entries → IsLong key → lookup (refs_eq key) (short_entries entries) ≡ None
lookup-long key entries short long = lookup-short key entries ∙ ap ref_of_found (by (lookup (numbers_eq (codes_of key)) entries) refl)
  where
    by : (found : Option ℕ) → lookup (numbers_eq (codes_of key)) entries ≡ found → lookup (numbers_eq (codes_of key)) entries ≡ None
    by None is = is
    by (Some made) is =
        let below = EachEntry-found (λ codes value. IsShort codes.0 × IsShort codes.1) numbers_eq (codes_of key) same_numbers entries made is short in
        let left = below.0 in
        let right = below.1 in
        absurd (⊎_elim (λ longer. omega (arith, left, longer)) (λ longer. omega (arith, right, longer)) long)

-- an entry by codes is one by references, and comes from one
Contains-with_refs : (entries : List ((ℕ × ℕ) × ℕ)) (entry : (ℕ × ℕ) × ℕ) → Contains entries entry → Contains (short_entries entries) (with_refs entry)
Contains-with_refs [] entry among = absurd (Contains-nil entry among)
Contains-with_refs (first ∷ entries) entry among =
    ⊎_elim (λ here. subst (λ e. Contains (short_entries (first ∷ entries)) (with_refs e)) here (Contains-head (with_refs first) (short_entries entries)))
    (λ later. Contains-tail (with_refs first) (short_entries entries) (with_refs entry) (Contains-with_refs entries entry later))
    (Contains-cons first entries entry among)

Contains-from_codes : (entries : List ((ℕ × ℕ) × ℕ)) (entry : (Ref × Ref) × Ref) → Contains (short_entries entries) entry → (one : (ℕ × ℕ) × ℕ) × Contains entries one × (with_refs one ≡ entry)
Contains-from_codes [] entry among = absurd (Contains-nil entry among)
Contains-from_codes (first ∷ entries) entry among =
    ⊎_elim (λ here. (first, Contains-head first entries, here))
    (λ later. let one = Contains-from_codes entries entry later in (one.0, Contains-tail first entries one.0 one.1, one.2))
    (Contains-cons (with_refs first) (short_entries entries) entry among)

-- what is noted by codes is noted by references
pub NotesOnly-short : (old new : List ((ℕ × ℕ) × ℕ)) (key : Ref × Ref) (made : Ref) → NotesOnly numbers_eq old new (codes_of key) (code_of made) → NotesOnly refs_eq (short_entries old) (short_entries new) key made
NotesOnly-short old new key made noted entry among =
    let one = Contains-from_codes new entry among in
    ⊎_elim (λ before. inl (subst (λ e. Contains (short_entries old) e) one.2 (Contains-with_refs old one.0 before)))
    (λ added. inr (
      ap (λ (e : (Ref × Ref) × Ref). e.1) (sym one.2) ∙ ap ref_of added.0 ∙ ref_of-code_of made,
      ⊎_elim (λ here. inl (key_is one.0 entry one.2 here)) (λ passes. inl (key_is one.0 entry one.2 (sym (same_numbers (codes_of key) one.0.0 passes)))) added.1,
    ))
    (noted one.0 one.1)
  where
    key_is : (one : (ℕ × ℕ) × ℕ) (entry : (Ref × Ref) × Ref) → with_refs one ≡ entry → one.0 ≡ codes_of key → entry.0 ≡ key
    key_is one entry is here =
        ap (λ (e : (Ref × Ref) × Ref). e.0) (sym is) ∙ ap (λ (codes : ℕ × ℕ). (ref_of codes.0, ref_of codes.1)) here
        ∙ (let left = ref_of-code_of key.0 in let right = ref_of-code_of key.1 in λ i. (left i, right i))

-- and codes of four bytes stay such
pub AreShort-noted : (old new : List ((ℕ × ℕ) × ℕ)) (codes : ℕ × ℕ) (made : ℕ) → IsShort codes.0 → IsShort codes.1 → NotesOnly numbers_eq old new codes made → AreShort old → AreShort new
AreShort-noted old new codes made left right noted =
    EachEntry-noted (λ (c : ℕ × ℕ) (value : ℕ). IsShort c.0 × IsShort c.1) numbers_eq codes made
    (λ other passes. subst (λ (c : ℕ × ℕ). IsShort c.0 × IsShort c.1) (same_numbers codes other passes) (left, right)) (left, right) old new noted
