-- What some readings lead to, as a check holds it while it follows predicates from the last to the first.
use Rattle.std.specs.Prelude.{◌≡◌, ℕ, ◌+◌, ◌<◌, ◌≤◌, true, false, List, nat_eq, nat_lt, ◌&&◌}
use Rattle.std.specs.BTreeSet as ordered
use Rattle.std.specs.Ordering.{nat_cmp}
use Rattle.indexmap.specs.IndexSet.{contains}
use Rattle.ms_names_rules.specs.declared.meaning.Reading.{Reading}
use Rattle.ms_names_rules.specs.Reads.{reads_predicate, reads_variable}
use Rattle.ms_names_scopes.specs.declared.free.Read.{Read}

-- what is held tells which variables are among the readings, and which of the predicates that are left
pub record Tells (read : Read) (rs : List Reading) : Type 0 where
  pub variables : (x : ℕ) → contains nat_eq read.variables x ≡ reads_variable x rs
  pub waiting : (p : ℕ) → ordered.contains nat_cmp read.waiting p ≡ (nat_lt p read.left && reads_predicate p rs)

-- the readings have no predicate from one number on that is below another
abbrev pub NoneIsRead : ℕ → ℕ → List Reading → Type 0
NoneIsRead from end rs = (p : ℕ) → from ≤ p → p < end → reads_predicate p rs ≡ false

-- a predicate is the last below a number that is among the readings
pub record IsLastRead (p end : ℕ) (rs : List Reading) : Type 0 where
  pub below : p < end
  pub read : reads_predicate p rs ≡ true
  pub behind : NoneIsRead (p + 1) end rs
