-- A declaration as a check goes through it.
use Rattle.std.specs.Prelude.{ℕ, List, [], ◌∷◌, ◌++◌, flat_map}
use Rattle.ms_logic.specs.declared.mode.Order.{Order}
use Rattle.ms_names_rules.specs.declared.meaning.Meaning.TheVariants.{Predicate}
use Rattle.ms_names_rules.specs.declared.meaning.Reading.{Reading}
use Rattle.ms_names_rules.specs.Constant.{Sum, sums_to, leaves_range, has_no_value}
use Rattle.ms_names_rules.specs.Declarations.{Known, before_after, exports_in, faults_of_declaration, next_predicate, occurrences_in, scope_after}
use Rattle.ms_names_rules.specs.Fault.{first_with}
use Rattle.ms_names_rules.specs.Rules.{faults_at}
use Rattle.ms_names_rules.specs.Scope.{bind, Bytes}
use Rattle.ms_parse_grammar.specs.Tree.{Declaration}
use Rattle.ms_names_rules.specs.Uses.{import_at}
use Rattle.ms_names_scopes.specs.declared.taken.Taken.{Taken}
use Rattle.ms_names_scopes.specs.declared.sum.Total.{Total}
use Rattle.ms_names_scopes.specs.declared.sum.Total.TheVariants.{Value, LeavesRange, HasNoValue}
use Rattle.ms_names_scopes.specs.inner.Found.{Found}

abbrev pub sum_of : Total → Sum
sum_of (Value n) = sums_to n
sum_of LeavesRange = leaves_range
sum_of HasNoValue = has_no_value

-- what is known before a declaration, where a check stands there
abbrev pub known_at : Found → ℕ → Taken → Known
known_at s globals taken = record { scope = s.scope; before = s.before; globals = globals; files = taken.files; titles = taken.titles }

-- after a declaration but for its title and its exports, with what it reads
abbrev pub told : Found → Known → Declaration → List Reading → Found
told s k d reads = record {
  scope = scope_after k d;
  before = before_after k.before d;
  first = first_with s.first (faults_of_declaration k d ++ flat_map faults_at (occurrences_in k d));
  reads = reads;
  imports = s.imports ++ flat_map import_at (occurrences_in k d);
  exports = s.exports ++ exports_in k d;
}

-- with one more predicate, macro or default restriction, which reads what is read so far
abbrev pub read_through : Found → Found
read_through s = record s { scope = record s.scope { readings = s.reads ∷ s.scope.readings }; reads = [] }

-- the same with the name of the predicate, whose parameters have these orders
abbrev pub named : Found → Bytes → List Order → Found
named s n orders = record (read_through s) { scope = bind n (Predicate (next_predicate s.scope) orders) (read_through s).scope }
