-- Entries of lists by place, and of two lists of entries one behind the other.
use Rattle.std.proofs.Common.{◌≡◌, ◌≢◌, ℕ, zero, suc, ◌+◌, ◌<◌, ◌≤◌, Bool, nat_eq, if◌then◌else◌, List, [], ◌∷◌, ◌++◌, length, get_or, set, replicate, Contains, Option, None, Some, refl, sym, ap, subst, ◌∙◌, inl, inr, ⊎_elim, arith}
use Rattle.std.proofs.lemmas.Bool.{cases_Bool, eq-eqb, ne_eqb}
use Rattle.std.proofs.lemmas.List.Elements.{Contains-append_left, Contains-append_right, Contains-append_cases}
use Rattle.std.proofs.lemmas.Option.{none-some}
use Rattle.std.specs.Map.{lookup}
use Rattle.ms_cache.proofs.Among.{Contains-head, Contains-tail, Contains-cons}
use Rattle.ms_diagram.specs.inner.Notes.{NotesOnly}
use Rattle.ms_diagram.specs.inner.Places.{place_entries}

module _ {V : Type 0} where
  -- an entry at another place is passed over
  lookup-other : (place first : ℕ) (made : V) (entries : List (ℕ × V)) → place ≢ first → lookup (nat_eq place) ((first, made) ∷ entries) ≡ lookup (nat_eq place) entries
  lookup-other place first made entries differs =
      ap (λ same. if same then Some made else lookup (nat_eq place) entries) (ne_eqb place first differs)

  -- a place below the first has no entry
  pub lookup-below : (first : ℕ) (slots : List (Option V)) (place : ℕ) → place < first → lookup (nat_eq place) (place_entries first slots) ≡ None
  lookup-below first [] place below = refl
  lookup-below first (None ∷ slots) place below = lookup-below (suc first) slots place (omega arith)
  lookup-below first (Some made ∷ slots) place below =
      lookup-other place first made (place_entries (suc first) slots) (omega arith) ∙ lookup-below (suc first) slots place (omega arith)

  -- the others have what the list has
  pub lookup-slot : (first : ℕ) (slots : List (Option V)) (place at : ℕ) → place ≡ first + at → lookup (nat_eq place) (place_entries first slots) ≡ get_or slots at None
  lookup-slot first [] place at is = refl
  lookup-slot first (None ∷ slots) place zero is = lookup-below (suc first) slots place (omega arith)
  lookup-slot first (Some made ∷ slots) place zero is =
      ap (λ same. if same then Some made else lookup (nat_eq place) (place_entries (suc first) slots)) (eq-eqb place first (omega arith))
  lookup-slot first (None ∷ slots) place (suc at) is = lookup-slot (suc first) slots place at (omega arith)
  lookup-slot first (Some made ∷ slots) place (suc at) is =
      lookup-other place first made (place_entries (suc first) slots) (omega arith) ∙ lookup-slot (suc first) slots place at (omega arith)

  -- behind the last there is nothing
  get_or-beyond : (slots : List (Option V)) (at : ℕ) → length slots ≤ at → get_or slots at None ≡ None
  get_or-beyond [] at beyond = refl
  get_or-beyond (slot ∷ slots) zero beyond = absurd (omega (arith, beyond))
  get_or-beyond (slot ∷ slots) (suc at) beyond = get_or-beyond slots at (omega (arith, beyond))

  pub lookup-beyond : (first : ℕ) (slots : List (Option V)) (place at : ℕ) → place ≡ first + at → length slots ≤ at → lookup (nat_eq place) (place_entries first slots) ≡ None
  lookup-beyond first slots place at is beyond = lookup-slot first slots place at is ∙ get_or-beyond slots at beyond

  -- empty places at the end have no entries
  pub place_entries-longer : (first : ℕ) (slots : List (Option V)) (count : ℕ) → place_entries first (slots ++ replicate count None) ≡ place_entries first slots
  place_entries-longer first [] zero = refl
  place_entries-longer first [] (suc count) = place_entries-longer (suc first) [] count
  place_entries-longer first (None ∷ slots) count = place_entries-longer (suc first) slots count
  place_entries-longer first (Some made ∷ slots) count = ap (λ entries. (first, made) ∷ entries) (place_entries-longer (suc first) slots count)

  -- a write at a place notes one entry
  pub NotesOnly-set : (first : ℕ) (slots : List (Option V)) (place at : ℕ) (made : V) → place ≡ first + at
      → NotesOnly nat_eq (place_entries first slots) (place_entries first (set slots at (Some made))) place made
  NotesOnly-set first [] place at made is entry among = inl among
  NotesOnly-set first (None ∷ slots) place zero made is entry among =
      ⊎_elim (λ here. inr (sym (ap (λ e. e.1) here), inl (sym (ap (λ e. e.0) here) ∙ omega arith))) (λ later. inl later)
      (Contains-cons (first, made) (place_entries (suc first) slots) entry among)
  NotesOnly-set first (Some old ∷ slots) place zero made is entry among =
      ⊎_elim (λ here. inr (sym (ap (λ e. e.1) here), inl (sym (ap (λ e. e.0) here) ∙ omega arith)))
      (λ later. inl (Contains-tail (first, old) (place_entries (suc first) slots) entry later))
      (Contains-cons (first, made) (place_entries (suc first) slots) entry among)
  NotesOnly-set first (None ∷ slots) place (suc at) made is entry among = NotesOnly-set (suc first) slots place at made (omega arith) entry among
  NotesOnly-set first (Some old ∷ slots) place (suc at) made is entry among =
      let rest = place_entries (suc first) slots in
      ⊎_elim (λ here. inl (subst (λ (e : ℕ × V). Contains ((first, old) ∷ rest) e) here (Contains-head (first, old) rest)))
      (λ later. ⊎_elim (λ before. inl (Contains-tail (first, old) rest entry before)) (λ added. inr added)
      (NotesOnly-set (suc first) slots place at made (omega arith) entry later))
      (Contains-cons (first, old) (place_entries (suc first) (set slots at (Some made))) entry among)

module _ {K V : Type 0} (test : K → Bool) (behind : List (K × V)) where
  -- what is found among the first entries is found
  pub lookup-in_front : (front : List (K × V)) (made : V) → lookup test front ≡ Some made → lookup test (front ++ behind) ≡ Some made
  lookup-in_front [] made found = absurd (none-some made found)
  lookup-in_front (entry ∷ front) made found = ⊎_elim
      (λ passes. ap (λ (t : Bool). if t then Some entry.1 else lookup test (front ++ behind)) passes
      ∙ sym (ap (λ (t : Bool). if t then Some entry.1 else lookup test front) passes) ∙ found)
      (λ fails. ap (λ (t : Bool). if t then Some entry.1 else lookup test (front ++ behind)) fails
      ∙ lookup-in_front front made (sym (ap (λ (t : Bool). if t then Some entry.1 else lookup test front) fails) ∙ found))
      (cases_Bool (test entry.0))

  -- and what is not is looked for behind them
  pub lookup-behind : (front : List (K × V)) → lookup test front ≡ None → lookup test (front ++ behind) ≡ lookup test behind
  lookup-behind [] none = refl
  lookup-behind (entry ∷ front) none = ⊎_elim
      (λ passes. absurd (none-some entry.1 (sym none ∙ ap (λ (t : Bool). if t then Some entry.1 else lookup test front) passes)))
      (λ fails. ap (λ (t : Bool). if t then Some entry.1 else lookup test (front ++ behind)) fails
      ∙ lookup-behind front (sym (ap (λ (t : Bool). if t then Some entry.1 else lookup test front) fails) ∙ none))
      (cases_Bool (test entry.0))

module _ {K V : Type 0} (eq : K → K → Bool) (key : K) (value : V) where
  -- one entry noted among the first entries is one noted in all
  pub NotesOnly-in_front : (old new behind : List (K × V)) → NotesOnly eq old new key value → NotesOnly eq (old ++ behind) (new ++ behind) key value
  NotesOnly-in_front old new behind noted entry among = ⊎_elim
      (λ before. ⊎_elim (λ was. inl (Contains-append_left old behind entry was)) (λ added. inr added) (noted entry before))
      (λ later. inl (Contains-append_right old behind entry later))
      (Contains-append_cases new behind entry among)

  -- and so is one noted behind them
  pub NotesOnly-behind : (front old new : List (K × V)) → NotesOnly eq old new key value → NotesOnly eq (front ++ old) (front ++ new) key value
  NotesOnly-behind front old new noted entry among = ⊎_elim
      (λ before. inl (Contains-append_left front old entry before))
      (λ later. ⊎_elim (λ was. inl (Contains-append_right front old entry was)) (λ added. inr added) (noted entry later))
      (Contains-append_cases front new entry among)
