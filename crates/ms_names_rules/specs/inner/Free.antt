-- The variables that are free: those of the names that are read, and an export with them.
use Rattle.std.specs.Prelude.{List, filter, map}
use Rattle.ms_list.specs.declared.at.At.{At}
use Rattle.ms_logic.specs.declared.checked.ExportUse.{ExportUse}
use Rattle.ms_names_rules.specs.declared.meaning.Reading.{Reading}
use Rattle.ms_names_rules.specs.Reads.{reads_variable}
use Rattle.ms_names_rules.specs.Scope.{Named, Bytes}

abbrev pub Readings : Type 0
Readings = List Reading

-- those variables that are read
abbrev pub read_among : Readings → List Named → List Named
read_among rs vs = filter (λ v. reads_variable v.number rs) vs

-- an export at a place with a file name and these free variables
abbrev pub export_use : At → Bytes → List Named → ExportUse
export_use at file free = record { at = at; name = file; variables = map (λ v. v.number) free; names = map (λ v. v.name) free }
