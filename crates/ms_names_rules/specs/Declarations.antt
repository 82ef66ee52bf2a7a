-- The declarations of a source, one after the other: what is known before each, and what is wrong with it.
use Rattle.std.specs.Prelude.{ℕ, ◌+◌, true, List, [], ◌∷◌, ◌++◌, length, map, flat_map, Option, Some, None}
use Rattle.ms_list.specs.declared.at.At.{At}
use Rattle.ms_logic.specs.declared.checked.ExportUse.{ExportUse}
use Rattle.ms_logic.specs.declared.mode.Mode.{Mode}
use Rattle.ms_logic.specs.declared.mode.Order.{Order}
use Rattle.ms_names_rules.specs.Scope.{Bytes, Scope, bind, without_exports, with_default, under_bounds, count_of_bounds}
use Rattle.ms_parse_grammar.specs.Tree.{Expression, Variables, no_variables, and_variable, Declaration, variables, constant, predicate, included, default_restriction, formula, goal, Declared}
use Rattle.ms_names_rules.specs.declared.fault.Fault.{Fault}
use Rattle.ms_names_rules.specs.declared.fault.Fault.TheVariants.{OutOfRange}
use Rattle.ms_names_rules.specs.declared.meaning.Meaning.TheVariants.{Variable, Constant, Predicate}
use Rattle.ms_names_rules.specs.Before.{Before, with_names, after, after_bounds}
use Rattle.ms_names_rules.specs.Constant.{Sum, sums_to, leaves_range, has_no_value, sum_from, value_of_sum}
use Rattle.ms_names_rules.specs.Fault.{first_fault}
use Rattle.ms_names_rules.specs.Order.{formula_wanted}
use Rattle.ms_names_rules.specs.Occurrence.{Occurrence, occurrences, inside_bounds}
use Rattle.ms_names_rules.specs.Reads.{readings_at}
use Rattle.ms_names_rules.specs.Uses.{export_at, with_files}
use Rattle.ms_names_rules.specs.Rules.{faults_at, faults_of_repeat, faults_of_bounds, faults_of_placed, faults_of_exports}

-- what is known before a declaration: the scope, what stands before in the text, how many globals there are, and the file
-- names of the exports and the titles of the goals, the last first
pub record Known : Type 0 where
  pub scope : Scope
  pub before : Before
  pub globals : ℕ
  pub files : List Bytes
  pub titles : List Bytes

abbrev pub globals_in : Declaration → ℕ
globals_in (variables vs) = count_of_bounds vs
globals_in (constant at n is) = 0
globals_in (predicate is_pred at n vs e) = 0
globals_in (included at file) = 0
globals_in (default_restriction o n e) = 0
globals_in (formula e) = 0
globals_in (goal at title e) = 0

abbrev pub count_of_globals : List Declared → ℕ
count_of_globals [] = 0
count_of_globals (d ∷ ds) = globals_in d.declaration + count_of_globals ds

-- before the first declaration; bound names are numbered after all globals of the source
abbrev pub at_the_beginning : Mode → List Declared → Known
at_the_beginning mode ds = record {
  scope = record { mode = mode; names = []; readings = []; default_of_numbers = None; default_of_sets = None; exports_allowed = true };
  before = record { next = count_of_globals ds; imports = 0; exports = 0 };
  globals = 0;
  files = [];
  titles = [];
}

-- the expressions of a predicate: the restrictions of its parameters and its body; no export may stand in them
abbrev pub occurrences_in_predicate : Scope → Before → Variables → Expression → List Occurrence
occurrences_in_predicate s b vs e =
    let here = with_names b (count_of_bounds vs) in
    inside_bounds (without_exports s) b.next here vs
    ++ occurrences (under_bounds (without_exports s) b.next vs) (after_bounds here vs) formula_wanted e

-- a default restriction is read before it holds itself; no export may stand in it
abbrev pub occurrences_in_default : Scope → Before → Order → Bytes → Expression → List Occurrence
occurrences_in_default s b o n e =
    occurrences (bind n (Variable b.next o) (without_exports s)) (with_names b 1) formula_wanted e

-- all expressions of a declaration
abbrev pub occurrences_in : Known → Declaration → List Occurrence
occurrences_in k (variables vs) = inside_bounds k.scope k.globals k.before vs
occurrences_in k (constant at n is) = []
occurrences_in k (predicate is_pred at n vs e) = occurrences_in_predicate k.scope k.before vs e
occurrences_in k (included at file) = []
occurrences_in k (default_restriction o n e) = occurrences_in_default k.scope k.before o n e
occurrences_in k (formula e) = occurrences k.scope k.before formula_wanted e
occurrences_in k (goal at title e) = occurrences k.scope k.before formula_wanted e

abbrev pub orders_of_bounds : Variables → List Order
orders_of_bounds no_variables = []
orders_of_bounds (and_variable vs at o n d) = orders_of_bounds vs ++ o ∷ []

-- with one more predicate, macro or default restriction, by its expressions
abbrev pub with_readings : List Occurrence → Scope → Scope
with_readings os s = record s { readings = flat_map readings_at os ∷ s.readings }

-- predicates, macros and default restrictions are numbered in the order of the text
abbrev pub next_predicate : Scope → ℕ
next_predicate s = length s.readings

-- the names that are seen after a declaration, and the default restrictions that hold. A predicate's name is declared
-- after its body.
abbrev pub scope_after : Known → Declaration → Scope
scope_after k (variables vs) = under_bounds k.scope k.globals vs
scope_after k (constant at n is) = bind n (Constant (value_of_sum (sum_from k.scope 0 is))) k.scope
scope_after k (predicate is_pred at n vs e) =
    bind n (Predicate (next_predicate k.scope) (orders_of_bounds vs)) (with_readings (occurrences_in k (predicate is_pred at n vs e)) k.scope)
scope_after k (included at file) = k.scope
scope_after k (default_restriction o n e) =
    with_default o (next_predicate k.scope) (with_readings (occurrences_in k (default_restriction o n e)) k.scope)
scope_after k (formula e) = k.scope
scope_after k (goal at title e) = k.scope

abbrev pub before_after : Before → Declaration → Before
before_after b (variables vs) = after_bounds b vs
before_after b (constant at n is) = b
before_after b (predicate is_pred at n vs e) = after (after_bounds (with_names b (count_of_bounds vs)) vs) e
before_after b (included at file) = b
before_after b (default_restriction o n e) = after (with_names b 1) e
before_after b (formula e) = after b e
before_after b (goal at title e) = after b e

-- the exports of a declaration
abbrev pub exports_in : Known → Declaration → List ExportUse
exports_in k d = flat_map export_at (occurrences_in k d)

-- the title of a goal, with the place of its text
pub record Title : Type 0 where
  pub at : At
  pub text : Bytes

-- the title of a declaration that is a goal
abbrev pub title_in : Declaration → Option Title
title_in (goal at title e) = Some (record { at = at; text = title })
title_in _ = None

-- with one more title, the last first
abbrev pub with_title : List Bytes → Option Title → List Bytes
with_title earlier None = earlier
with_title earlier (Some title) = title.text ∷ earlier

-- what is known after a declaration
abbrev pub after_declaration : Known → Declaration → Known
after_declaration k d = record {
  scope = scope_after k d;
  before = before_after k.before d;
  globals = k.globals + globals_in d;
  files = with_files k.files (exports_in k d);
  titles = with_title k.titles (title_in d);
}

-- the globals, constants, predicates and macros that are declared
abbrev pub declared_names : Scope → List Bytes
declared_names s = map (λ entry. entry.0) s.names

-- 24: a partial sum leaves the range of constants, at the declared name
abbrev pub faults_of_sum : At → Sum → List Fault
faults_of_sum at (sums_to n) = []
faults_of_sum at leaves_range = OutOfRange at ∷ []
faults_of_sum at has_no_value = []

-- 21 at the text of a goal: an earlier goal has this title
abbrev pub faults_of_title : List Bytes → Option Title → List Fault
faults_of_title earlier None = []
faults_of_title earlier (Some title) = faults_of_repeat title.at title.text earlier

-- what is wrong with a declaration, beside what is wrong with its title and its expressions. Globals, constants, predicates and macros
-- have all different names.
abbrev pub faults_of_declaration : Known → Declaration → List Fault
faults_of_declaration k (variables vs) = faults_of_bounds (declared_names k.scope) vs
faults_of_declaration k (constant at n is) =
    faults_of_repeat at n (declared_names k.scope)
    ++ (faults_of_sum at (sum_from k.scope 0 is) ++ flat_map (faults_of_placed k.scope) is)
faults_of_declaration k (predicate is_pred at n vs e) =
    faults_of_repeat at n (declared_names k.scope) ++ faults_of_bounds [] vs
faults_of_declaration k (included at file) = []
faults_of_declaration k (default_restriction o n e) = []
faults_of_declaration k (formula e) = []
faults_of_declaration k (goal at title e) = []

-- all that is wrong with a declaration
abbrev pub faults_in : Known → Declaration → List Fault
faults_in k d =
    faults_of_title k.titles (title_in d)
    ++ (faults_of_declaration k d ++ (flat_map faults_at (occurrences_in k d) ++ faults_of_exports k.files (exports_in k d)))

abbrev pub or_later : Option Fault → Option Fault → Option Fault
or_later None later = later
or_later (Some f) later = Some f

-- the first fault of the declarations: that of the first declaration that has one
abbrev pub first_fault_from : Known → List Declared → Option Fault
first_fault_from k [] = None
first_fault_from k (d ∷ ds) =
    or_later (first_fault (faults_in k d.declaration)) (first_fault_from (after_declaration k d.declaration) ds)

-- the first fault of a source
abbrev pub first_fault_of : Mode → List Declared → Option Fault
first_fault_of mode ds = first_fault_from (at_the_beginning mode ds) ds
