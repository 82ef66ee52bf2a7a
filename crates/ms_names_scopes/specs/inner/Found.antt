-- What a check has found so far, and what it has found after some expressions.
use Rattle.std.specs.Prelude.{ℕ, true, List, [], ◌++◌, drop, flat_map, Option, None}
use Rattle.ms_logic.specs.declared.checked.ExportUse.{ExportUse}
use Rattle.ms_logic.specs.declared.checked.ImportUse.{ImportUse}
use Rattle.ms_logic.specs.declared.mode.Mode.{Mode}
use Rattle.ms_logic.specs.declared.mode.Order.{Order}
use Rattle.ms_names_rules.specs.declared.fault.Fault.{Fault}
use Rattle.ms_names_rules.specs.declared.meaning.Meaning.TheVariants.{Variable}
use Rattle.ms_names_rules.specs.declared.meaning.Reading.{Reading}
use Rattle.ms_names_rules.specs.Scope.{Scope, bind, without_exports, under_bounds, Bytes, count}
use Rattle.ms_parse_grammar.specs.Tree.{Expression, Variables, Domain}
use Rattle.ms_names_rules.specs.Before.{Before, after, after_bounds, after_domain}
use Rattle.ms_names_rules.specs.Fault.{first_with}
use Rattle.ms_names_rules.specs.Occurrence.{Occurrence, inside, inside_bounds, inside_domain}
use Rattle.ms_names_rules.specs.Reads.{readings_of_form, readings_at}
use Rattle.ms_names_rules.specs.Rules.{faults_of_form, faults_at}
use Rattle.ms_names_rules.specs.Uses.{import_of_form, export_of_form, import_at, export_at}

-- the scope, what stands before in the text, the first fault of the declaration, what the declaration reads, and the
-- imports and exports
pub record Found : Type 0 where
  pub scope : Scope
  pub before : Before
  pub first : Option Fault
  pub reads : List Reading
  pub imports : List ImportUse
  pub exports : List ExportUse

-- after some faults
abbrev pub with_faults : Found → List Fault → Found
with_faults s fs = record s { first = first_with s.first fs }

-- after some expressions, before the text that follows them
abbrev pub passed : Found → List Occurrence → Before → Found
passed s os b = record {
  scope = s.scope;
  before = b;
  first = first_with s.first (flat_map faults_at os);
  reads = s.reads ++ flat_map readings_at os;
  imports = s.imports ++ flat_map import_at os;
  exports = s.exports ++ flat_map export_at os;
}

-- after some faults, and what is read beside
abbrev pub noted : Found → List Fault → List Reading → Found
noted s fs rs = record s { first = first_with s.first fs; reads = s.reads ++ rs }

-- after an expression by its form: its own faults but that of its order, what it reads and uses, and all inside it
abbrev pub formed : Found → Expression → Found
formed s e = record {
  scope = s.scope;
  before = after s.before e;
  first = first_with s.first (faults_of_form s.scope e ++ flat_map faults_at (inside s.scope s.before e));
  reads = s.reads ++ (readings_of_form s.scope e ++ flat_map readings_at (inside s.scope s.before e));
  imports = s.imports ++ (import_of_form s.scope e ++ flat_map import_at (inside s.scope s.before e));
  exports = s.exports ++ (export_of_form s.scope s.before e ++ flat_map export_at (inside s.scope s.before e));
}

-- after an expression that has no faults, readings and uses of its own but these faults of order, and after those inside it
abbrev pub after_inside : Found → List Fault → List Occurrence → Before → Found
after_inside s fs os b = record (passed s os b) { first = first_with s.first ((fs ++ []) ++ flat_map faults_at os) }

-- before the first declaration, where bound names are numbered from x on
abbrev pub beginning : Mode → ℕ → Found
beginning mode x = record {
  scope = record { mode = mode; names = []; readings = []; default_of_numbers = None; default_of_sets = None; exports_allowed = true };
  before = record { next = x; imports = 0; exports = 0 };
  first = None;
  reads = [];
  imports = [];
  exports = [];
}

-- after a variable is bound and its restriction read; no export may stand there
abbrev pub after_restriction : Found → ℕ → Order → Bytes → Domain → Found
after_restriction s x o n d =
    let here = bind n (Variable x o) s.scope in
    record (passed s (inside_domain (without_exports here) s.before d) (after_domain s.before d)) { scope = here }

-- after all variables of a list are bound and their restrictions read
abbrev pub after_restrictions : Found → ℕ → Variables → Found
after_restrictions s x vs =
    record (passed s (inside_bounds s.scope x s.before vs) (after_bounds s.before vs)) { scope = under_bounds s.scope x vs }

-- without the innermost names, so many
abbrev pub unbound : ℕ → Found → Found
unbound count s = record s { scope = record s.scope { names = drop count s.scope.names } }
