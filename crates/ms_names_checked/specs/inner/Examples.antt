-- Small checked sources.
use Rattle.std.specs.Prelude.{ℕ, List, [], ◌∷◌, codes, None}
use Rattle.ms_list.specs.declared.at.At.{At}
use Rattle.ms_logic.specs.declared.checked.MapPair.{MapPair}
use Rattle.ms_logic.specs.declared.checked.Checked.{Checked}
use Rattle.ms_logic.specs.declared.checked.ExportUse.{ExportUse}
use Rattle.ms_logic.specs.declared.checked.Global.{Global}
use Rattle.ms_logic.specs.declared.checked.Placed.{Placed}
use Rattle.ms_logic.specs.declared.formula.Arg.TheVariants as arg
use Rattle.ms_logic.specs.declared.formula.Formula.{Formula}
use Rattle.ms_logic.specs.declared.formula.Formula.TheVariants as form
use Rattle.ms_logic.specs.declared.mode.Mode.{Mode}
use Rattle.ms_logic.specs.declared.mode.Mode.TheVariants.{Ws1s}
use Rattle.ms_logic.specs.declared.mode.Order.{Order}
use Rattle.ms_logic.specs.declared.mode.Order.TheVariants.{One, Two}
use Rattle.ms_logic.specs.declared.mode.Quant.TheVariants.{Ex}
use Rattle.ms_logic.specs.declared.mode.Rel.TheVariants.{Equal, Less}
use Rattle.ms_logic.specs.declared.term.Term1.TheVariants as term
use Rattle.ms_logic.specs.declared.term.Term2.TheVariants as set
use Rattle.ms_names_rules.specs.Scope.{Bytes}

abbrev pub nowhere : At
nowhere = record { file = 0; place = 0 }

-- a global of an order, without a restriction
abbrev pub declared : Order → Bytes → Global
declared o n = record { at = nowhere; item = 0; order = o; name = n; domain = None }

-- an export to a file, with these variables and their names
abbrev pub export_to : Bytes → List ℕ → List Bytes → ExportUse
export_to file xs ns = record { at = nowhere; name = file; variables = xs; names = ns }

abbrev pub holds : Formula → Placed
holds f = record { at = nowhere; item = 0; title = None; formula = f }

-- a source of natural numbers without predicates and imports
abbrev pub source : List Global → List ExportUse → List Placed → Checked
source globals exports formulas = record { mode = Ws1s; globals = globals; predicates = []; imports = []; exports = exports; formulas = formulas; files = [] }

-- var2 X; export("a", empty(X));
abbrev pub exports_emptiness : Checked
exports_emptiness = source (declared Two (codes "X") ∷ []) (export_to (codes "a") (0 ∷ []) (codes "X" ∷ []) ∷ []) (holds (form.Export 0 (form.IsEmpty (set.Var 0))) ∷ [])

-- var2 X; export("a", true); with X among the variables of the export
abbrev pub lists_too_much : Checked
lists_too_much = source (declared Two (codes "X") ∷ []) (export_to (codes "a") (0 ∷ []) (codes "X" ∷ []) ∷ []) (holds (form.Export 0 form.True) ∷ [])

-- var2 X; export("a", empty(X)); without X among the variables of the export
abbrev pub lists_too_little : Checked
lists_too_little = source (declared Two (codes "X") ∷ []) (export_to (codes "a") [] [] ∷ []) (holds (form.Export 0 (form.IsEmpty (set.Var 0))) ∷ [])

-- let0 b = true in export("a", true); which is refused
abbrev pub exports_in_a_let : Checked
exports_in_a_let = source [] (export_to (codes "a") [] [] ∷ []) (holds (form.Let (record { variable = 0; value = arg.Zero form.True } ∷ []) (form.Export 0 form.True)) ∷ [])

-- export("a", true) & export("a", true); which is refused
abbrev pub exports_twice : Checked
exports_twice =
    source [] (export_to (codes "a") [] [] ∷ export_to (codes "a") [] [] ∷ []) (holds (form.And (form.Export 0 form.True ∷ form.Export 1 form.True ∷ [])) ∷ [])

-- var2 X; var1 X; which is refused
abbrev pub declares_twice : Checked
declares_twice = source (declared Two (codes "X") ∷ declared One (codes "X") ∷ []) [] []

-- var2 with this name;
abbrev pub declares : Bytes → Checked
declares n = source (declared Two n ∷ []) [] []

-- export("a", empty(X) & empty(Y)); where the file would have both variables as X
abbrev pub lists_a_name_twice : Checked
lists_a_name_twice = source [] (export_to (codes "a") (0 ∷ 1 ∷ []) (codes "X" ∷ codes "X" ∷ []) ∷ []) []

-- import("a", ..);
abbrev pub reads : List MapPair → Checked
reads pairs = record (source [] [] []) { imports = record { at = nowhere; name = codes "a"; pairs = pairs } ∷ [] }

abbrev pub read_as : Bytes → ℕ → MapPair
read_as name x = record { name = name; variable = x; order = Two }

-- import("a", P -> X, P -> Y); which is refused
abbrev pub reads_a_name_twice : Checked
reads_a_name_twice = reads (read_as (codes "P") 0 ∷ read_as (codes "P") 1 ∷ [])

-- import("a", P -> X, Q -> X); which is refused too
abbrev pub reads_into_one : Checked
reads_into_one = reads (read_as (codes "P") 0 ∷ read_as (codes "Q") 0 ∷ [])

-- (ex1 x: true) & (ex2 y: true); where x and y have these numbers
abbrev pub binds_two : ℕ → ℕ → Checked
binds_two x y = source [] [] (holds (form.And (form.Bind Ex One x None form.True ∷ form.Bind Ex Two y None form.True ∷ [])) ∷ [])

-- n = 0;
abbrev pub compares : ℕ → Checked
compares n = source [] [] (holds (form.Compare Equal (term.Number n) (term.Number 0)) ∷ [])

-- pconst(n) = empty;
abbrev pub compares_bits : ℕ → Checked
compares_bits n = source [] [] (holds (form.CompareSets Equal (set.Pconst n) set.EmptySet) ∷ [])

-- empty($); in a mode
abbrev pub empty_string : Mode → Checked
empty_string mode = record (source [] [] (holds (form.IsEmpty set.Whole) ∷ [])) { mode = mode }

-- empty < empty; which is refused
abbrev pub orders_sets : Checked
orders_sets = source [] [] (holds (form.CompareSets Less set.EmptySet set.EmptySet) ∷ [])
