-- What lowering asks of a source, and what sharing and building ask of its core formulas.
use Rattle.std.specs.Prelude.{◌≡◌, List, length, map}
use Rattle.ms_logic.specs.declared.checked.Checked.{Checked}
use Rattle.ms_logic_core.specs.declared.core_formula.Lowered.{Lowered}
use Rattle.ms_logic_core.specs.declared.core_formula.Root.{Root}
use Rattle.ms_logic.specs.View.{problem_of, Answers}
use Rattle.ms_names_checked.specs.Exports.{ListsFreeVariables}
use Rattle.ms_lower.specs.Calling.{calls_of}
use Rattle.ms_lower.specs.Lowered.{HasCallingRoots, HasRoots, ListsVariables}
use Rattle.ms_names_rules.specs.Numbers.{IsWellNumbered}
use Rattle.ms_dag.specs.Imports.{RootsImportBelow}
use Rattle.ms_dag.specs.Lowered.{IsLowered}

-- a source whose numbers are in order, without exports, lists its variables
abbrev pub SourcesWithoutExportsListVariables : Type 0
SourcesWithoutExportsListVariables =
    (checked : Checked) (answers : Answers) → IsWellNumbered checked → length checked.exports ≡ 0 → ListsVariables checked (problem_of checked answers)

-- a source whose numbers are in order, and whose exports list their free variables, lists its variables
abbrev pub SourcesListVariables : Type 0
SourcesListVariables =
    (checked : Checked) (answers : Answers) → length answers ≡ length checked.imports → IsWellNumbered checked → ListsFreeVariables checked
    → ListsVariables checked (problem_of checked answers)

-- what lowering gives for a source whose numbers are in order has the roots of its questions, where its calls stand for what they become
abbrev pub SourcesHaveRoots : Type 0
SourcesHaveRoots =
    (checked : Checked) (answers : Answers) (roots : List Root) → length answers ≡ length checked.imports → IsWellNumbered checked
    → HasCallingRoots checked answers roots → HasRoots checked answers roots

-- and it is what sharing asks
abbrev pub SourcesAreShared : Type 0
SourcesAreShared =
    (checked : Checked) (answers : Answers) (lowered : Lowered) → IsWellNumbered checked
    → HasRoots checked answers lowered.roots → lowered.orders ≡ map (λ g. g.order) checked.globals
    → IsLowered (problem_of checked answers).given.imports (calls_of (length checked.globals) (problem_of checked answers).given) lowered

-- the core formulas of a source have imports of its table alone
abbrev pub SourcesImportFromTheTable : Type 0
SourcesImportFromTheTable =
    (checked : Checked) (answers : Answers) (lowered : Lowered) → IsWellNumbered checked → HasRoots checked answers lowered.roots
    → RootsImportBelow (calls_of (length checked.globals) (problem_of checked answers).given) (length checked.imports) lowered.roots
