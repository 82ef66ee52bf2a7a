-- Variables with a bound one at their end.
use Rattle.std.specs.Prelude.{◌≡◌, ℕ, List, [], ◌∷◌, ◌++◌}
use Rattle.std.specs.List.Sorted.{IsStrictlyIncreasing}
use Rattle.ms_dag.specs.Places.{AreAmong}

-- all of the names and x, which is the last
pub record EndsIn (names : List ℕ) (x : ℕ) (all : List ℕ) : Type 0 where
  pub own : List ℕ
  pub ends : all ≡ own ++ x ∷ []
  pub rising : IsStrictlyIncreasing all
  pub there : AreAmong all names
  pub back : AreAmong names own
