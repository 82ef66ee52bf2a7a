-- Worked examples of closures: a way into a ring of two places.
use Rattle.std.specs.Prelude.{ℕ, true, List, [], ◌∷◌}
use Rattle.ms_quotient.specs.declared.marks.Marks.{Marks}
use Rattle.ms_quotient.specs.Closure.{no_marks}

-- the place 0 leads to 1, and 1 and 2 lead to one another
abbrev pub way_into_ring : List ℕ
way_into_ring = 1 ∷ 2 ∷ 1 ∷ []

-- Yes at 0, No at 2
abbrev pub marks_of_ring : List Marks
marks_of_ring = record no_marks { yes = true } ∷ no_marks ∷ record no_marks { no = true } ∷ []
