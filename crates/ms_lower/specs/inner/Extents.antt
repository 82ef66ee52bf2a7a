-- What is known of predicates when the formulas that call them are counted.
use Rattle.std.specs.Prelude.{◌≡◌, ℕ, ◌<◌, ◌≤◌, List, [], ◌∷◌, ◌++◌, length, map, slice_get, Some}
use Rattle.ms_logic_core.specs.Size.{Extents, extents_of, extents_of_restrictions, extent_under, alone}
use Rattle.ms_logic.specs.Tree.{Predicate}
use Rattle.ms_logic.specs.View.{predicate_of}
use Rattle.ms_lower.specs.declared.called.Called.{Called}
use Rattle.ms_lower.specs.declared.called.Extents as code
use Rattle.ms_lower.specs.Counted.{counted, deepest}

-- what counts at a call of the predicate with this number
abbrev pub called_at : Extents → ℕ → Called
called_at x p = record { called = counted deepest (x.called p); default = counted deepest (x.default p ∷ []) }

-- each predicate has its entry, and there are no others
pub record HasEntries (x : Extents) (entries : List Called) : Type 0 where
  pub within : (p : ℕ) → p < length entries → slice_get entries p ≡ Some (called_at x p)
  pub called_beyond : (p : ℕ) → length entries ≤ p → x.called p ≡ []
  pub default_beyond : (p : ℕ) → length entries ≤ p → x.default p ≡ alone
  pub positive : (p : ℕ) → 1 ≤ (x.default p).depth

-- the extents of the predicates
abbrev pub known_extents : code.Extents → Extents
known_extents known = extents_of (map predicate_of known.predicates.now)

abbrev pub AreExtents : code.Extents → Type 0
AreExtents known = HasEntries (known_extents known) known.called.now

-- what counts at a call of one more predicate, besides those whose extents are known
abbrev pub called_by : Extents → Predicate → Called
called_by x predicate = record {
  called = counted deepest (extents_of_restrictions x predicate.parameters ++ extent_under x predicate.body ∷ []);
  default = counted deepest (extent_under x predicate.body ∷ []);
}
