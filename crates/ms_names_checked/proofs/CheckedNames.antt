-- The names in a checked source differ where they should.
use Rattle.std.proofs.Common.{◌≡◌, List, [], map, sym, subst, None, arith}
use Rattle.std.specs.Prelude.{flat_map}
use Rattle.ms_logic.specs.declared.checked.ExportUse.{ExportUse}
use Rattle.ms_logic.specs.declared.checked.ImportUse.{ImportUse}
use Rattle.ms_logic.specs.declared.checked.Checked.{Checked}
use Rattle.ms_logic.specs.declared.source.Loaded.{Loaded}
use Rattle.ms_names_rules.specs.TypedSource.{IsTyped}
use Rattle.ms_names_rules.specs.Declarations.{at_the_beginning, occurrences_in, first_fault_of}
use Rattle.ms_logic.specs.Lists.{Each}
use Rattle.ms_names_rules.specs.Scope.{Bytes}
use Rattle.ms_names_rules.specs.Uses.{import_at}
use Rattle.ms_parse_grammar.specs.View.{declared_of}
use Rattle.ms_names_rules.proofs.Makes.{right-there}
use Rattle.ms_names_checked.specs.Names.{AreDifferent, HasDifferentRights, NamesDiffer}
use Rattle.ms_names_checked.proofs.Apart.{imports-apart}
use Rattle.ms_names_checked.proofs.Collected.{each-collected}
use Rattle.ms_names_checked.proofs.Globals.{globals-picked, names_of_globals}
use Rattle.ms_names_checked.proofs.Differing.{HasDifferentLefts, HaveDifferent, exports-different, files_of, fresh-different, fresh-globals, imports-different}

pub different-names : (loaded : Loaded) (checked : Checked) → IsTyped loaded checked → first_fault_of loaded.mode (map declared_of loaded.items) ≡ None → NamesDiffer checked
different-names loaded checked typed right =
    let ds = map declared_of loaded.items in
    let k = at_the_beginning loaded.mode ds in
    let names = globals-picked (λ o n. n) k 0 ds checked.globals typed.globals_are in
    let used = exports-different k 0 ds right in
    let imports = each-collected (λ k item d. flat_map import_at (occurrences_in k d.declaration)) HasDifferentLefts (λ k. Unit {0}) (λ k d is. tt)
    (λ k item d is none. imports-different (occurrences_in k d.declaration) (right-there k d.declaration none)) k 0 ds tt right in
    let apart = imports-apart k 0 ds (omega arith) (tt, tt) right in
    record {
      globals = subst (λ (ns : List Bytes). AreDifferent ns) (sym names) (fresh-different [] (names_of_globals ds) (fresh-globals k ds right));
      exports = subst (λ (xs : List ExportUse). HaveDifferent xs) (sym typed.exports_are) used.1;
      imports = subst (λ (us : List ImportUse). Each HasDifferentLefts us) (sym typed.imports_are) imports;
      imported = subst (λ (us : List ImportUse). Each HasDifferentRights us) (sym typed.imports_are) apart;
      files = subst (λ (xs : List ExportUse). AreDifferent (files_of xs)) (sym typed.exports_are) (fresh-different [] _ used.0);
    }
