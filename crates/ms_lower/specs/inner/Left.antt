-- What is left to lower: a number that falls with each call of the recursion.
use Rattle.std.specs.Prelude.{ℕ, ◌+◌, ◌*◌, List, map}
use Rattle.ms_logic.specs.declared.term.Term1.{Term1}
use Rattle.ms_logic.specs.View.{predicate_of, term_of, terms}
use Rattle.ms_logic_core.specs.Size.{Extent, Extents, extents_of, extents_of_elements, total_size}
use Rattle.ms_lower.specs.declared.tables.Tables.{Tables}
use Rattle.ms_lower.specs.Callees.{callable}

-- the extents of the predicates that may be called
abbrev pub extents_in : Tables → Extents
extents_in tables = extents_of (map predicate_of (callable tables))

-- The sizes of some parts of a formula. A default restriction has the size of the body of its predicate, in which fewer predicates may be
-- called; and each level has room for the calls that stay at it.
abbrev pub left_at : Tables → List Extent → ℕ
left_at tables parts = 8 * (total_size parts + tables.callable)

-- the sizes of some elements of a literal
abbrev pub left_of_elements : List Term1 → ℕ
left_of_elements ts = total_size (extents_of_elements (terms (map term_of ts)))
