-- The imports and exports of expressions, as the checked source lists them.
use Rattle.std.specs.Prelude.{List, [], ◌∷◌, ◌++◌, map, Option, Some, None}
use Rattle.ms_logic.specs.declared.checked.ExportUse.{ExportUse}
use Rattle.ms_logic.specs.declared.checked.ImportUse.{ImportUse}
use Rattle.ms_logic.specs.declared.checked.MapPair.{MapPair}
use Rattle.ms_logic.specs.declared.source.Rename.{Rename}
use Rattle.ms_names_rules.specs.declared.meaning.Meaning.{Meaning}
use Rattle.ms_names_rules.specs.declared.meaning.Meaning.TheVariants.{Variable, Constant, Predicate}
use Rattle.ms_parse_grammar.specs.Tree.{imported, Expression, atom, enclosed}
use Rattle.ms_parse_grammar.specs.declared.operator.Bracket.TheVariants.{Export}
use Rattle.ms_names_rules.specs.Scope.{Bytes, Scope, meaning_of}
use Rattle.ms_names_rules.specs.Before.{Before, with_export}
use Rattle.ms_names_rules.specs.Occurrence.{Occurrence}
use Rattle.ms_names_rules.specs.Reads.{free_variables}

-- a pair of an import: the name in the file, and the variable for which it stands, if the right name is one
abbrev pub pair_of : Bytes → Option Meaning → List MapPair
pair_of n None = []
pair_of n (Some (Variable x o)) = record { name = n; variable = x; order = o } ∷ []
pair_of n (Some (Constant value)) = []
pair_of n (Some (Predicate p parameters)) = []

abbrev pub pairs_of : Scope → List Rename → List MapPair
pairs_of s [] = []
pairs_of s (r ∷ rs) = pair_of r.left (meaning_of s r.right) ++ pairs_of s rs

-- the import that an expression is, if it is one
abbrev pub import_of_form : Scope → Expression → List ImportUse
import_of_form s (atom at (imported file rs)) = record { at = at; name = file; pairs = pairs_of s rs } ∷ []
import_of_form s _ = []

-- the export that an expression is, if it is one, with the free variables of its formula
abbrev pub export_of_form : Scope → Before → Expression → List ExportUse
export_of_form s b (enclosed at (Export text_at file) e) =
    let free = free_variables s (with_export b) e in
    record { at = text_at; name = file; variables = map (λ v. v.number) free; names = map (λ v. v.name) free } ∷ []
export_of_form s b _ = []

abbrev pub import_at : Occurrence → List ImportUse
import_at o = import_of_form o.scope o.expression

abbrev pub export_at : Occurrence → List ExportUse
export_at o = export_of_form o.scope o.before o.expression

-- the file names of exports, the last first
abbrev pub with_files : List Bytes → List ExportUse → List Bytes
with_files earlier [] = earlier
with_files earlier (x ∷ xs) = with_files (x.name ∷ earlier) xs
