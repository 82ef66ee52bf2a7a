-- Exports, files and globals for worked examples.
use Rattle.std.specs.Prelude.{ℕ, if◌then◌else◌, List, [], ◌∷◌, codes, Option, Some, None}
use Rattle.std.specs.Str.{bytes_eq}
use Rattle.ms_list.specs.declared.at.At.{At}
use Rattle.ms_edge.specs.Files.{Holding}
use Rattle.ms_logic.specs.declared.checked.Checked.{Checked}
use Rattle.ms_logic.specs.declared.checked.ExportUse.{ExportUse}
use Rattle.ms_logic.specs.declared.checked.Global.{Global}
use Rattle.ms_logic.specs.declared.mode.Mode.{Mode}
use Rattle.ms_logic.specs.declared.mode.Mode.TheVariants.{Ws1s, M2lStr}
use Rattle.ms_logic.specs.declared.mode.Order.{Order}
use Rattle.ms_logic.specs.declared.mode.Order.TheVariants.{One, Two}
use Rattle.ms_report.specs.declared.found.Answer.{Answer}
use Rattle.ms_report.specs.declared.found.Verdict.TheVariants.{Valid}
use Rattle.ms_app.specs.Written.{File}

abbrev pub at : ℕ → At
at place = record { file = 0; place = place }

-- an export to a file of this name, of a formula without free variables
abbrev pub export_to : List ℕ → ExportUse
export_to name = record { at = at 7; name = name; variables = []; names = [] }

-- valid, by an assignment of nothing
abbrev pub found_valid : Answer
found_valid = record { verdict = Valid; example = Some (record { length = 0; values = [] }); counterexample = None }

-- files that hold nothing
abbrev pub nothing_held : Option Holding
nothing_held = Some (λ name. None)

-- files that hold these bytes under this name alone
abbrev pub one_held : List ℕ → List ℕ → Option Holding
one_held name bytes = Some (λ other. if bytes_eq other name then Some bytes else None)

-- two files to be written
abbrev pub two_files : List File
two_files = (codes "a", 1 ∷ []) ∷ (codes "b", 2 ∷ []) ∷ []

-- a global of an order, without a restriction
abbrev pub declared : Order → List ℕ → Global
declared order name = record { at = at 0; item = 0; order = order; name = name; domain = None }

-- a source of globals alone
abbrev pub source_of : Mode → List Global → Checked
source_of mode globals = record { mode = mode; globals = globals; predicates = []; imports = []; exports = []; formulas = []; files = [] }

-- var2 P, Q;
abbrev pub two_sets : Checked
two_sets = source_of Ws1s (declared Two (codes "P") ∷ declared Two (codes "Q") ∷ [])

-- var2 Q, P;
abbrev pub turned_round : Checked
turned_round = source_of Ws1s (declared Two (codes "Q") ∷ declared Two (codes "P") ∷ [])

-- var1 P; var2 Q;
abbrev pub other_order : Checked
other_order = source_of Ws1s (declared One (codes "P") ∷ declared Two (codes "Q") ∷ [])

-- m2l-str; var2 P, Q;
abbrev pub other_mode : Checked
other_mode = source_of M2lStr (declared Two (codes "P") ∷ declared Two (codes "Q") ∷ [])

-- var2 P;
abbrev pub one_set : Checked
one_set = source_of Ws1s (declared Two (codes "P") ∷ [])
