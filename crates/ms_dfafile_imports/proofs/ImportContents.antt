-- The contents of the files of imports are those of the imports.
use Rattle.std.proofs.Common.{◌≡◌, ℕ, ◌↔◌, List, [], ◌∷◌, Contains, map, slice_get, Option, Some, refl, sym, ap, subst, ◌∙◌}
use Rattle.std.specs.List.{zip}
use Rattle.std.proofs.lemmas.List.{length-map}
use Rattle.std.proofs.lemmas.Option.{slice_get-get_or}
use Rattle.ms_dfa.specs.declared.plain.Plain.{Plain}
use Rattle.ms_dfafile_adopt.specs.Import.{answer_of_file}
use Rattle.ms_dfafile_adopt_parts.specs.Files.{content_for, paired, variables_of_pairs}
use Rattle.ms_dfafile_adopt_parts.proofs.Naming.{is_there, stands}
use Rattle.ms_dfafile_imports.specs.Imports.{EachImported, IsImported, answers_by}
use Rattle.ms_edge.specs.Files.{Holding}
use Rattle.ms_logic.specs.Assignment.{AreValuesOf, Variable}
use Rattle.ms_logic.specs.Lists.{Each}
use Rattle.ms_logic.specs.Truth.{Import}
use Rattle.ms_logic.specs.View.{import_of}
use Rattle.ms_logic.specs.declared.checked.ImportUse.{ImportUse}
use Rattle.ms_logic.specs.declared.checked.MapPair.{MapPair}
use Rattle.ms_logic.specs.declared.mode.Mode.{Mode}
use Rattle.ms_logic.specs.declared.mode.Order.{Order}
use Rattle.ms_logic.proofs.Items.{contains_at}
use Rattle.ms_logic_measures.specs.Budgets.{AreContentsOfImports, IsContentOfImport}
use Rattle.ms_logic_words.specs.Content.{variables_by_place}
use Rattle.ms_names_checked.specs.Names.{AreDifferent}
use Rattle.ms_dfafile_imports.specs.Enough.{FilesAreContentsOfImports, contents_of}
use Rattle.ms_dfafile_imports.proofs.FileAnswers.{answers_alike}
use Rattle.ms_dfafile_imports.proofs.Namings.{as_many_pairs, naming}

-- the variables of an import have the orders of its pairs
orders_found : (pairs : List MapPair) → map (λ (w : Variable). w.order) (map (λ (p : MapPair). record { name = p.variable; order = p.order }) pairs) ≡ map (λ (p : MapPair). p.order) pairs
orders_found [] = refl
orders_found (pair ∷ pairs) = ap (λ (orders : List Order). pair.order ∷ orders) (orders_found pairs)

held_at : (vs : List Variable) (v : Variable) → Contains vs v → (k : ℕ) × (slice_get vs k ≡ Some v)
held_at vs v there = (there.0, slice_get-get_or vs there.0 v there.1 ∙ ap Some there.2)

module _ (held : Option Holding) (mode : Mode) (used : ImportUse) (plain : Plain) (different : AreDifferent (map (λ (pair : MapPair). pair.name) used.pairs)) (is : IsImported held mode used plain) where
  abbrev found : Import
  found = import_of used (answer_of_file plain (map (λ (pair : MapPair). pair.name) used.pairs))

  abbrev us : List Variable
  us = map (paired used.pairs) plain.variables

  abbrev order : List Variable
  order = variables_of_pairs used.pairs

  same_variables : (v : Variable) → Contains us v ↔ Contains order v
  same_variables v =
      let file = is.is_held.spelled.rules in
      let named = naming plain used.pairs file different is.importable.variables in (
        λ there. let at = held_at us v there in contains_at order v.name v (stands plain used.pairs file different named.0 named.1 at.0 v at.1),
        λ there. let at = held_at order v there in let own = is_there plain used.pairs file different named.0 named.1 at.0 v at.1 in contains_at us own.0 v own.1,
      )

  one_content : IsContentOfImport mode found (content_for used.pairs plain)
  one_content =
      let file = is.is_held.spelled.rules in
      let has = is.importable.variables in
      let named = naming plain used.pairs file different has in
      record {
        same_mode = is.importable.mode_is;
        variables = λ v. subst (λ (orders : List Order). Contains us v ↔ Contains (variables_by_place orders) v) (sym (orders_found used.pairs)) (same_variables v);
        count =
            length-map plain.variables (paired used.pairs) ∙ as_many_pairs plain used.pairs file different has
            ∙ sym (length-map used.pairs (λ (p : MapPair). record { name = p.variable; order = p.order }));
        answers = λ universe values of_mode are.
            answers_alike plain used.pairs universe values (subst (λ (orders : List Order). AreValuesOf universe orders values) (orders_found used.pairs) are) file different named.0 named.1;
      }

module _ (held : Option Holding) (mode : Mode) where
  each_content : (uses : List ImportUse) (plains : List Plain) → Each (λ (used : ImportUse). AreDifferent (map (λ (pair : MapPair). pair.name) used.pairs)) uses → EachImported held mode uses plains
      → AreContentsOfImports mode (map (λ p. import_of p.0 p.1) (zip uses (answers_by uses plains))) (contents_of uses plains)
  each_content [] [] different each = tt
  each_content [] (plain ∷ plains) different each = absurd each
  each_content (used ∷ uses) [] different each = absurd each
  each_content (used ∷ uses) (plain ∷ plains) different each = (one_content held mode used plain different.0 each.0, each_content uses plains different.1 each.1)

pub files_are_contents_of_imports : FilesAreContentsOfImports
files_are_contents_of_imports = each_content
