-- How marks are closed along ways: the places that have been seen, and the marks behind a place on a way.
use Rattle.std.specs.Prelude.{◌≡◌, ℕ, ◌<◌, ◌⊎◌, ◌||◌, Bool, false, IsTrue, List, [], ◌∷◌, length, slice_index, slice_index_or, slice_set}
use Rattle.ms_quotient.specs.declared.marks.Marks.{Marks}
use Rattle.ms_quotient.specs.Closure.{marks_at, AreMarksFrom, LeadsWithin}

-- places with their marks, each of which leads on to one of them
pub record ArePlaces (next : List ℕ) (marks : List Marks) : Type 0 where
  pub long : length next ≡ length marks
  pub within : LeadsWithin next

-- the marks of both
abbrev pub union : Marks → Marks → Marks
union one two = record {
  yes = one.yes || two.yes;
  no = one.no || two.no;
  undefined = one.undefined || two.undefined;
  encoding = one.encoding || two.encoding;
}

-- the place is one of those on the way
abbrev pub IsOn : ℕ → List ℕ → Type 0
IsOn place [] = ⊥
IsOn place (first ∷ way) = (place ≡ first) ⊎ IsOn place way

-- the way leads from its first place on, each time to the next one, and at last to the end
abbrev pub LeadsTo : List ℕ → ℕ → List ℕ → ℕ → Type 0
LeadsTo next start [] end = start ≡ end
LeadsTo next start (first ∷ way) end = (start ≡ first) × LeadsTo next (slice_index next first) way end

abbrev pub IsSeen : List Bool → ℕ → Type 0
IsSeen seen place = IsTrue (slice_index_or seen place false)

-- where the places of the way have been seen too, no others have been and all from before are
pub record IsSeenAlong (early late : List Bool) (way : List ℕ) : Type 0 where
  pub kept : (place : ℕ) → IsSeen early place → IsSeen late place
  pub more : (place : ℕ) → IsSeen late place → IsSeen early place ⊎ IsOn place way

-- the union of the marks on the way and of those at its end
abbrev pub union_along : List Marks → List ℕ → Marks → Marks
union_along marks [] last = last
union_along marks (first ∷ way) last = union (marks_at marks first) (union_along marks way last)

-- at each place of the way the union from there on is written
abbrev pub written_along : List Marks → List Marks → List ℕ → Marks → List Marks
written_along marks closed [] last = closed
written_along marks closed (first ∷ way) last = slice_set (written_along marks closed way last) first (union_along marks (first ∷ way) last)

-- each place that has been seen has the marks from there on
abbrev pub IsClosedWhereSeen : List ℕ → List Marks → List Bool → List Marks → Type 0
IsClosedWhereSeen next marks seen closed = (place : ℕ) → place < length next → IsSeen seen place → AreMarksFrom next marks place (marks_at closed place)
