-- The union of marks along places that lead on from one another: the right quotient by zeros at the end of a word.
use Rattle.std.specs.Prelude.{◌≡◌, ◌↔◌, ℕ, zero, suc, ◌<◌, Bool, false, IsTrue, List, length, slice_index, slice_index_or}
use Rattle.ms_quotient.specs.declared.marks.Marks.{Marks}

-- no marks
abbrev pub no_marks : Marks
no_marks = record { yes = false; no = false; undefined = false; encoding = false }

-- the marks at a place, and none past the end
abbrev pub marks_at : List Marks → ℕ → Marks
marks_at marks place = slice_index_or marks place no_marks

-- each place leads on to a place
abbrev pub LeadsWithin : List ℕ → Type 0
LeadsWithin next = (place : ℕ) → place < length next → slice_index next place < length next

-- the place after so many steps
abbrev pub place_after : List ℕ → ℕ → ℕ → ℕ
place_after next zero place = place
place_after next (suc steps) place = place_after next steps (slice_index next place)

-- a mark stands at a place or at one of those to which it leads on
abbrev pub StandsOnWay : (Marks → Bool) → List ℕ → List Marks → ℕ → Type 0
StandsOnWay mark next marks place = (steps : ℕ) × IsTrue (mark (marks_at marks (place_after next steps place)))

-- just the marks that stand at a place or at one of those to which it leads on
pub record AreMarksFrom (next : List ℕ) (marks : List Marks) (place : ℕ) (met : Marks) : Type 0 where
  pub yes : IsTrue met.yes ↔ StandsOnWay (λ m. m.yes) next marks place
  pub no : IsTrue met.no ↔ StandsOnWay (λ m. m.no) next marks place
  pub undefined : IsTrue met.undefined ↔ StandsOnWay (λ m. m.undefined) next marks place
  pub encoding : IsTrue met.encoding ↔ StandsOnWay (λ m. m.encoding) next marks place

-- for each place the marks from there on
pub record IsClosure (next : List ℕ) (marks closed : List Marks) : Type 0 where
  pub long : length closed ≡ length next
  pub all : (place : ℕ) → place < length next → AreMarksFrom next marks place (marks_at closed place)
