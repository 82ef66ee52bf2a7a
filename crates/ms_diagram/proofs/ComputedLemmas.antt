-- Entries of buckets, each of which has its own pairs alone.
use Rattle.std.proofs.Common.{◌≡◌, ◌≢◌, ℕ, zero, suc, ◌+◌, ◌<◌, ◌≤◌, Bool, true, false, nat_eq, if◌then◌else◌, List, [], ◌∷◌, ◌++◌, length, get_or, set, replicate, Contains, Option, None, Some, refl, sym, ap, subst, ◌∙◌, ◌⊎◌, inl, inr, ⊎_elim, arith}
use Rattle.std.proofs.lemmas.Bool.{cases_Bool, eq-eqb, ne_eqb, false≢true}
use Rattle.std.proofs.lemmas.List.{get_or-set_same, length-set}
use Rattle.std.specs.Map.{lookup}
use Rattle.ms_cache.proofs.Among.{Contains-head, Contains-tail, Contains-cons, Contains-nil}
use Rattle.ms_diagram.specs.declared.computed_table.Bucket.{Bucket}
use Rattle.ms_diagram.specs.declared.computed_table.Slot.{Slot}
use Rattle.ms_diagram.specs.declared.computed_table.TheConstants.{EMPTY}
use Rattle.ms_diagram.specs.inner.Computed.{held, entries_in, entries_of, IsBetween, IsPlaced, ArePlaced, no_slots, place_of}
use Rattle.ms_diagram.specs.inner.Notes.{KeepsOnly, NotesOnly}
use Rattle.ms_diagram.specs.inner.Short.{IsShort}
use Rattle.ms_diagram.proofs.PairLemmas.{numbers_eq, same_numbers, numbers_itself}

-- the pair of a slot, and what it has become
abbrev pub own : Slot → (ℕ × ℕ) × ℕ
own slot = ((slot.left, slot.right), slot.made)

-- a look-up behind a condition
module _ (test : ℕ × ℕ → Bool) where
  lookup-if : (empty : Bool) (entry : (ℕ × ℕ) × ℕ) (rest : List ((ℕ × ℕ) × ℕ))
      → lookup test (if empty then rest else entry ∷ rest) ≡ (if empty then lookup test rest else (if test entry.0 then Some entry.1 else lookup test rest))
  lookup-if true entry rest = refl
  lookup-if false entry rest = refl

  -- what is found there does not hang on more of the rest than what is found in it
  lookup-held : (slot : Slot) (one other : List ((ℕ × ℕ) × ℕ)) → lookup test one ≡ lookup test other → lookup test (held slot one) ≡ lookup test (held slot other)
  lookup-held slot one other same =
      let empty = nat_eq slot.left EMPTY in
      lookup-if empty (own slot) one
      ∙ ap (λ (found : Option ℕ). if empty then found else (if test (own slot).0 then Some slot.made else found)) same
      ∙ sym (lookup-if empty (own slot) other)

  -- a slot that does not pass is passed over
  pub lookup-lacks : (slot : Slot) (rest : List ((ℕ × ℕ) × ℕ)) → test (slot.left, slot.right) ≡ false → lookup test (held slot rest) ≡ lookup test rest
  lookup-lacks slot rest fails =
      let empty = nat_eq slot.left EMPTY in
      lookup-if empty (own slot) rest
      ∙ ap (λ (t : Bool). if empty then lookup test rest else (if t then Some slot.made else lookup test rest)) fails
      ∙ either empty
    where
      either : (t : Bool) → (if t then lookup test rest else lookup test rest) ≡ lookup test rest
      either true = refl
      either false = refl

  -- and one that is not empty and passes is found
  pub lookup-has : (slot : Slot) (rest : List ((ℕ × ℕ) × ℕ)) → slot.left ≢ EMPTY → test (slot.left, slot.right) ≡ true → lookup test (held slot rest) ≡ Some slot.made
  lookup-has slot rest full passes =
      lookup-if (nat_eq slot.left EMPTY) (own slot) rest
      ∙ ap (λ (t : Bool). if t then lookup test rest else (if test (own slot).0 then Some slot.made else lookup test rest)) (ne_eqb slot.left EMPTY full)
      ∙ ap (λ (t : Bool). if t then Some slot.made else lookup test rest) passes

-- a slot with the pair of short codes is not empty
pub short-full : (codes : ℕ × ℕ) (slot : Slot) → IsShort codes.0 → numbers_eq codes (slot.left, slot.right) ≡ true → slot.left ≢ EMPTY
short-full codes slot short passes is =
    let same : codes.0 ≡ slot.left = ap (λ (pair : ℕ × ℕ). pair.0) (same_numbers codes (slot.left, slot.right) passes) in
    omega (arith, same, is, short)

-- no place is between equal ones
not-between : (bound place : ℕ) → IsBetween (bound, bound) place → ⊥
not-between bound place between = omega (arith, between.0, between.1)

module _ (bound count : ℕ) where
  -- a slot in another bucket is passed over, where no bucket waits
  lookup-elsewhere : (codes : ℕ × ℕ) (place : ℕ) (slot : Slot) (rest : List ((ℕ × ℕ) × ℕ)) → IsPlaced (bound, bound) count place slot → place_of count codes ≢ place
      → lookup (numbers_eq codes) (held slot rest) ≡ lookup (numbers_eq codes) rest
  lookup-elsewhere codes place slot rest placed elsewhere = ⊎_elim
      (λ empty. ap (λ (t : Bool). lookup (numbers_eq codes) (if t then rest else own slot ∷ rest)) empty)
      (λ full. ⊎_elim
      (λ same. absurd (elsewhere (ap (place_of count) (same_numbers codes (slot.left, slot.right) same) ∙ its full)))
      (λ differs. lookup-lacks (numbers_eq codes) slot rest differs)
      (cases_Bool (numbers_eq codes (slot.left, slot.right))))
      (cases_Bool (nat_eq slot.left EMPTY))
    where
      its : nat_eq slot.left EMPTY ≡ false → place_of count (slot.left, slot.right) ≡ place
      its full = ⊎_elim (λ is. is) (λ between. absurd (not-between bound place between)) (placed (λ is. false≢true (sym full ∙ eq-eqb slot.left EMPTY is)))

  -- a pair whose bucket lies before the first has no entry
  lookup-before : (codes : ℕ × ℕ) (first : ℕ) (buckets : List Bucket) → ArePlaced (bound, bound) count first buckets → place_of count codes < first
      → lookup (numbers_eq codes) (entries_of buckets) ≡ None
  lookup-before codes first [] placed before = refl
  lookup-before codes first (bucket ∷ buckets) placed before =
      lookup-elsewhere codes first bucket.first (held bucket.second (entries_of buckets)) placed.0 (λ is. omega (arith, before, is))
      ∙ lookup-elsewhere codes first bucket.second (entries_of buckets) placed.1 (λ is. omega (arith, before, is))
      ∙ lookup-before codes (suc first) buckets placed.2 (omega (arith, before))

  -- a look-up is one in the bucket of the pair
  pub lookup-bucket : (codes : ℕ × ℕ) (first at : ℕ) (buckets : List Bucket) (default : Bucket) → ArePlaced (bound, bound) count first buckets
      → place_of count codes ≡ first + at → at < length buckets → lookup (numbers_eq codes) (entries_of buckets) ≡ lookup (numbers_eq codes) (entries_in (get_or buckets at default) [])
  lookup-bucket codes first at [] default placed is within = absurd (omega (arith, within))
  lookup-bucket codes first zero (bucket ∷ buckets) default placed is within =
      let rest = entries_of buckets in
      let none = lookup-before codes (suc first) buckets placed.2 (omega (arith, is)) in
      lookup-held (numbers_eq codes) bucket.first (held bucket.second rest) (held bucket.second []) (lookup-held (numbers_eq codes) bucket.second rest [] none)
  lookup-bucket codes first (suc at) (bucket ∷ buckets) default placed is within =
      lookup-elsewhere codes first bucket.first (held bucket.second (entries_of buckets)) placed.0 (λ same. omega (arith, is, same))
      ∙ lookup-elsewhere codes first bucket.second (entries_of buckets) placed.1 (λ same. omega (arith, is, same))
      ∙ lookup-bucket codes (suc first) at buckets default placed.2 (omega (arith, is)) (omega (arith, within))

module _ (waiting : ℕ × ℕ) (count : ℕ) where
  -- a place by another name
  placed-by : (one other : ℕ) (slot : Slot) → one ≡ other → IsPlaced waiting count one slot → IsPlaced waiting count other slot
  placed-by one other slot same = subst (λ place. IsPlaced waiting count place slot) same

  -- the slots of each bucket are its own
  pub placed-at : (first at : ℕ) (buckets : List Bucket) (default : Bucket) → ArePlaced waiting count first buckets → at < length buckets
      → IsPlaced waiting count (first + at) (get_or buckets at default).first
  placed-at first at [] default placed within = absurd (omega (arith, within))
  placed-at first zero (bucket ∷ buckets) default placed within = placed-by first (first + 0) bucket.first (omega arith) placed.0
  placed-at first (suc at) (bucket ∷ buckets) default placed within =
      placed-by (suc first + at) (first + suc at) (get_or buckets at default).first (omega arith) (placed-at (suc first) at buckets default placed.2 (omega (arith, within)))

  -- and stay so where one is written
  pub placed-set : (first at : ℕ) (buckets : List Bucket) (bucket : Bucket) → ArePlaced waiting count first buckets
      → IsPlaced waiting count (first + at) bucket.first → IsPlaced waiting count (first + at) bucket.second → ArePlaced waiting count first (set buckets at bucket)
  placed-set first at [] bucket placed one two = tt
  placed-set first zero (old ∷ buckets) bucket placed one two =
      (placed-by (first + 0) first bucket.first (omega arith) one, placed-by (first + 0) first bucket.second (omega arith) two, placed.2)
  placed-set first (suc at) (old ∷ buckets) bucket placed one two = (
    placed.0,
    placed.1,
    placed-set (suc first) at buckets bucket placed.2
        (placed-by (first + suc at) (suc first + at) bucket.first (omega arith) one) (placed-by (first + suc at) (suc first + at) bucket.second (omega arith) two),
  )

  -- empty buckets have no slots that could be misplaced
  pub placed-empty : (first number : ℕ) → ArePlaced waiting count first (replicate number no_slots)
  placed-empty first zero = tt
  placed-empty first (suc number) = ((λ full. absurd (full refl)), (λ full. absurd (full refl)), placed-empty (suc first) number)

-- buckets wait up to empty ones behind them
pub placed-longer : (count low high first : ℕ) (buckets : List Bucket) (number : ℕ) → low ≤ first → first + length buckets ≡ high
    → ArePlaced (low, high) count first (buckets ++ replicate number no_slots)
placed-longer count low high first [] number from to = placed-empty (low, high) count first number
placed-longer count low high first (bucket ∷ buckets) number from to =
    let between : IsBetween (low, high) first = (from, omega (arith, to)) in
    ((λ full. inr between), (λ full. inr between), placed-longer count low high (suc first) buckets number (omega (arith, from)) (omega (arith, to)))

-- where the first of those that wait is empty, it waits no more
pub placed-cleared : (count low high first at : ℕ) (buckets : List Bucket) → ArePlaced (low, high) count first buckets → low ≡ first + at
    → ArePlaced (low + 1, high) count first (set buckets at no_slots)
placed-cleared count low high first at [] placed is = tt
placed-cleared count low high first zero (bucket ∷ buckets) placed is =
    ((λ full. absurd (full refl)), (λ full. absurd (full refl)), behind (suc first) buckets (omega (arith, is)) placed.2)
  where
    one : (place : ℕ) (slot : Slot) → low < place → IsPlaced (low, high) count place slot → IsPlaced (low + 1, high) count place slot
    one place slot beyond own full = ⊎_elim (λ is. inl is) (λ between. inr (omega (arith, beyond), between.1)) (own full)

    behind : (place : ℕ) (rest : List Bucket) → low < place → ArePlaced (low, high) count place rest → ArePlaced (low + 1, high) count place rest
    behind place [] beyond all = tt
    behind place (next ∷ rest) beyond all =
        (one place next.first beyond all.0, one place next.second beyond all.1, behind (suc place) rest (omega (arith, beyond)) all.2)
placed-cleared count low high first (suc at) (bucket ∷ buckets) placed is =
    (before bucket.first placed.0, before bucket.second placed.1, placed-cleared count low high (suc first) at buckets placed.2 (omega (arith, is)))
  where
    before : (slot : Slot) → IsPlaced (low, high) count first slot → IsPlaced (low + 1, high) count first slot
    before slot own full = ⊎_elim (λ is. inl is) (λ between. absurd (omega (arith, is, between.0))) (own full)

-- once none waits, all are placed
pub placed-done : (bound count first : ℕ) (buckets : List Bucket) → ArePlaced (bound, bound) count first buckets → ArePlaced (0, 0) count first buckets
placed-done bound count first [] placed = tt
placed-done bound count first (bucket ∷ buckets) placed = (one bucket.first placed.0, one bucket.second placed.1, placed-done bound count (suc first) buckets placed.2)
  where
    one : (slot : Slot) → IsPlaced (bound, bound) count first slot → IsPlaced (0, 0) count first slot
    one slot own full = ⊎_elim (λ is. inl is) (λ between. absurd (not-between bound first between)) (own full)

-- nor entries
pub entries_of-longer : (buckets : List Bucket) (number : ℕ) → entries_of (buckets ++ replicate number no_slots) ≡ entries_of buckets
entries_of-longer [] zero = refl
entries_of-longer [] (suc number) = entries_of-longer [] number
entries_of-longer (bucket ∷ buckets) number = ap (λ entries. entries_in bucket entries) (entries_of-longer buckets number)

module _ (entry : (ℕ × ℕ) × ℕ) where
  -- an entry is a slot's own or one of the rest
  among-if : (empty : Bool) (one : (ℕ × ℕ) × ℕ) (rest : List ((ℕ × ℕ) × ℕ)) → Contains (if empty then rest else one ∷ rest) entry
      → Contains (if empty then [] else one ∷ []) entry ⊎ Contains rest entry
  among-if true one rest among = inr among
  among-if false one rest among =
      ⊎_elim (λ here. inl (subst (λ (e : (ℕ × ℕ) × ℕ). Contains (one ∷ []) e) here (Contains-head one []))) (λ later. inr later) (Contains-cons one rest entry among)

  own-if : (empty : Bool) (one : (ℕ × ℕ) × ℕ) (rest : List ((ℕ × ℕ) × ℕ)) → Contains (if empty then [] else one ∷ []) entry → Contains (if empty then rest else one ∷ rest) entry
  own-if true one rest among = absurd (Contains-nil entry among)
  own-if false one rest among =
      ⊎_elim (λ here. subst (λ (e : (ℕ × ℕ) × ℕ). Contains (one ∷ rest) e) here (Contains-head one rest)) (λ none. absurd (Contains-nil entry none)) (Contains-cons one [] entry among)

  rest-if : (empty : Bool) (one : (ℕ × ℕ) × ℕ) (rest : List ((ℕ × ℕ) × ℕ)) → Contains rest entry → Contains (if empty then rest else one ∷ rest) entry
  rest-if true one rest among = among
  rest-if false one rest among = Contains-tail one rest entry among

  is-own-if : (empty : Bool) (one : (ℕ × ℕ) × ℕ) → Contains (if empty then [] else one ∷ []) entry → entry ≡ one
  is-own-if true one among = absurd (Contains-nil entry among)
  is-own-if false one among = ⊎_elim (λ here. sym here) (λ none. absurd (Contains-nil entry none)) (Contains-cons one [] entry among)

  pub among-held : (slot : Slot) (rest : List ((ℕ × ℕ) × ℕ)) → Contains (held slot rest) entry → Contains (held slot []) entry ⊎ Contains rest entry
  among-held slot rest = among-if (nat_eq slot.left EMPTY) (own slot) rest

  pub own-held : (slot : Slot) (rest : List ((ℕ × ℕ) × ℕ)) → Contains (held slot []) entry → Contains (held slot rest) entry
  own-held slot rest = own-if (nat_eq slot.left EMPTY) (own slot) rest

  pub rest-held : (slot : Slot) (rest : List ((ℕ × ℕ) × ℕ)) → Contains rest entry → Contains (held slot rest) entry
  rest-held slot rest = rest-if (nat_eq slot.left EMPTY) (own slot) rest

  pub is-own : (slot : Slot) → Contains (held slot []) entry → entry ≡ own slot
  is-own slot = is-own-if (nat_eq slot.left EMPTY) (own slot)

-- a slot that is put first into a bucket, whose second one goes, is the only one that is new
pub only-put : (at : ℕ) (buckets : List Bucket) (default : Bucket) (slot : Slot) → at < length buckets
    → KeepsOnly (held slot (entries_of buckets)) (entries_of (set buckets at (record { first = slot; second = (get_or buckets at default).first })))
only-put at [] default slot within entry among = absurd (omega (arith, within))
only-put zero (bucket ∷ buckets) default slot within entry among =
    let rest = entries_of buckets in
    let all = entries_in bucket rest in
    ⊎_elim (λ own. own-held entry slot all own)
    (λ later. rest-held entry slot all (⊎_elim
    (λ first. own-held entry bucket.first (held bucket.second rest) first)
    (λ behind. rest-held entry bucket.first (held bucket.second rest) (rest-held entry bucket.second rest behind))
    (among-held entry bucket.first rest later)))
    (among-held entry slot (held bucket.first rest) among)
only-put (suc at) (bucket ∷ buckets) default slot within entry among =
    let rest = entries_of buckets in
    let all = entries_in bucket rest in
    let new = entries_of (set buckets at (record { first = slot; second = (get_or buckets at default).first })) in
    ⊎_elim (λ first. rest-held entry slot all (own-held entry bucket.first (held bucket.second rest) first))
    (λ later. ⊎_elim (λ second. rest-held entry slot all (rest-held entry bucket.first (held bucket.second rest) (own-held entry bucket.second rest second)))
    (λ behind. ⊎_elim (λ own. own-held entry slot all own)
    (λ old. rest-held entry slot all (rest-held entry bucket.first (held bucket.second rest) (rest-held entry bucket.second rest old)))
    (among-held entry slot rest (only-put at buckets default slot (omega (arith, within)) entry behind)))
    (among-held entry bucket.second new later))
    (among-held entry bucket.first (held bucket.second new) among)

-- and it is found
pub noted-put : (count at : ℕ) (buckets : List Bucket) (slot second : Slot) → ArePlaced (0, 0) count 0 (set buckets at (record { first = slot; second = second })) → at < length buckets
    → place_of count (slot.left, slot.right) ≡ at → slot.left ≢ EMPTY
    → lookup (numbers_eq (slot.left, slot.right)) (entries_of (set buckets at (record { first = slot; second = second }))) ≡ Some slot.made
noted-put count at buckets slot second placed within is full =
    let codes : ℕ × ℕ = (slot.left, slot.right) in
    let bucket : Bucket = record { first = slot; second = second } in
    lookup-bucket 0 count codes 0 at (set buckets at bucket) bucket placed (omega (arith, is)) (omega (arith, within, length-set buckets at bucket))
    ∙ ap (λ (b : Bucket). lookup (numbers_eq codes) (entries_in b [])) (get_or-set_same buckets at bucket bucket within)
    ∙ lookup-has (numbers_eq codes) slot (held second []) full (numbers_itself codes)

-- the slots of a bucket are among the entries
pub of-bucket : (buckets : List Bucket) (at : ℕ) (default : Bucket) → at < length buckets → KeepsOnly (entries_of buckets) (entries_in (get_or buckets at default) [])
of-bucket [] at default within entry among = absurd (omega (arith, within))
of-bucket (bucket ∷ buckets) zero default within entry among =
    let rest = entries_of buckets in
    ⊎_elim (λ first. own-held entry bucket.first (held bucket.second rest) first)
    (λ second. rest-held entry bucket.first (held bucket.second rest) (own-held entry bucket.second rest second))
    (among-held entry bucket.first (held bucket.second []) among)
of-bucket (bucket ∷ buckets) (suc at) default within entry among =
    let rest = entries_of buckets in
    rest-held entry bucket.first (held bucket.second rest) (rest-held entry bucket.second rest (of-bucket buckets at default (omega (arith, within)) entry among))

-- where a bucket is emptied, no entry comes
pub only-cleared : (at : ℕ) (buckets : List Bucket) → KeepsOnly (entries_of buckets) (entries_of (set buckets at no_slots))
only-cleared at [] entry among = among
only-cleared zero (bucket ∷ buckets) entry among =
    let rest = entries_of buckets in
    rest-held entry bucket.first (held bucket.second rest) (rest-held entry bucket.second rest among)
only-cleared (suc at) (bucket ∷ buckets) entry among =
    let rest = entries_of buckets in
    let new = entries_of (set buckets at no_slots) in
    ⊎_elim (λ first. own-held entry bucket.first (held bucket.second rest) first)
    (λ later. rest-held entry bucket.first (held bucket.second rest) (⊎_elim
    (λ second. own-held entry bucket.second rest second)
    (λ behind. rest-held entry bucket.second rest (only-cleared at buckets entry behind))
    (among-held entry bucket.second new later)))
    (among-held entry bucket.first (held bucket.second new) among)

-- what a slot of theirs adds is theirs
pub kept-put : (all old new : List ((ℕ × ℕ) × ℕ)) (slot : Slot) → KeepsOnly all old → KeepsOnly all (held slot []) → KeepsOnly (held slot old) new → KeepsOnly all new
kept-put all old new slot kept own put entry among = ⊎_elim (own entry) (kept entry) (among-held entry slot old (put entry among))

-- told to a table that kept some of its entries, a slot is the only new entry
pub noted-only : (old grown new : List ((ℕ × ℕ) × ℕ)) (slot : Slot) → KeepsOnly old grown → KeepsOnly (held slot grown) new → NotesOnly numbers_eq old new (slot.left, slot.right) slot.made
noted-only old grown new slot kept put entry among =
    ⊎_elim (λ own. let same = is-own entry slot own in inr (ap (λ (e : (ℕ × ℕ) × ℕ). e.1) same, inl (ap (λ (e : (ℕ × ℕ) × ℕ). e.0) same)))
    (λ rest. inl (kept entry rest))
    (among-held entry slot grown (put entry among))
