-- The line of a refusal can be written over the files that the refusal may number.
use Rattle.std.proofs.Common.{◌≡◌, inl, inr, ⊎_elim, ℕ, zero, suc, true, false, List, [], ◌∷◌, ◌++◌, Contains, Some, length, map, slice_get, sym, subst}
use Rattle.std.proofs.lemmas.List.Elements.{All-contains}
use Rattle.std.proofs.lemmas.Option.{none-some, same_Some}
use Rattle.ms_dfa.specs.declared.plain.Plain.{Plain}
use Rattle.ms_edge.specs.Files.{Seen}
use Rattle.ms_list.specs.declared.at.At.{At}
use Rattle.ms_edge.specs.declared.refusal.Refusal.{Refusal}
use Rattle.ms_edge.specs.declared.refusal.Refusal.TheVariants.{Memory}
use Rattle.ms_edge.specs.declared.refusal.Refusal.TheVariants as refusals
use Rattle.ms_build_source.proofs.SharedRoots.{each_all}
use Rattle.ms_dfafile_imports.specs.Imports.{IsNoAutomaton, IsNotTaken, IsUnimported, IsUnread, answers_by}
use Rattle.ms_logic_core.specs.Size.{Extents, extents_of}
use Rattle.ms_logic.specs.View.{predicate_of, Answers}
use Rattle.ms_logic.specs.declared.checked.Checked.{Checked}
use Rattle.ms_logic_words.specs.Content.{Content}
use Rattle.ms_logic_words.specs.declared.sign.Sign.{Sign}
use Rattle.ms_logic.specs.declared.checked.ExportUse.{ExportUse}
use Rattle.ms_logic.specs.declared.checked.Global.{Global}
use Rattle.ms_logic.specs.declared.checked.ImportUse.{ImportUse}
use Rattle.ms_logic.specs.declared.checked.Placed.{Placed}
use Rattle.ms_logic.specs.declared.source.Loaded.{Loaded}
use Rattle.ms_logic.specs.declared.mode.Mode.{Mode}
use Rattle.ms_lower.specs.Measure.{IsDepthRefusal}
use Rattle.ms_lower.specs.TooDeep.{HasTooDeep, Part, part_of_formula, part_of_global, parts_of}
use Rattle.ms_include_laws.specs.inner.places.Places.{HasPlacesInFiles, IsAmongFiles, IsToldOver, KeepsPlacesInFiles}
use Rattle.ms_include_laws.proofs.of_places.FirstFaults.{first-faults}
use Rattle.ms_include_laws.proofs.of_places.Loads.{loaded-sources, loaded-texts, refused-loads, refused-texts}
use Rattle.ms_include_laws.proofs.of_places.Refused.{IsToldAt, told-over}
use Rattle.ms_include_laws.proofs.of_places.TypedSources.{typed-sources}
use Rattle.ms_logic.specs.Lists.{Each}
use Rattle.ms_names_rules.proofs.Fitting.{each-append}
use Rattle.ms_app_words.specs.declared.command.Command.{Command}
use Rattle.ms_app_words.specs.declared.command.Command.TheVariants.{Decide, Same, Gen, Ltl, Presburger, Check, Certify}
use Rattle.ms_cert_check.proofs.Lines.{lines as check_lines}
use Rattle.ms_ltlf_decide.proofs.Lines.{lines}
use Rattle.ms_presburger_decide.proofs.Lines.{lines as problem_lines}
use Rattle.ms_app.specs.Answer.{IsRefusedFor}
use Rattle.ms_app.specs.Comparison.{IsRefusedComparison, left_refused, right_refused, not_comparable}
use Rattle.ms_app.specs.Comparison as comparisons
use Rattle.ms_build_source.specs.Limits.{IsUnsolved, not_made, too_deep, too_large}
use Rattle.ms_build_source.specs.Limits as limits
use Rattle.ms_app.specs.Source.{IsAccepted, IsOutTaken, IsRefused, IsUnaccepted, Origin, file_of, names_for, text_of, not_loaded, faulty, out_taken, unaccepted, unimported, unsolved}
use Rattle.ms_app.specs.Certification.{names_to_certify}
use Rattle.ms_app.specs.Source as sources
use Rattle.ms_app.proofs.Outs.{held_contained}

-- want of memory has no place
memory-told : (files : List (List ℕ)) (refusal : Refusal) → refusal ≡ Memory → IsToldOver files refusal
memory-told files refusal is = subst (IsToldOver files) (sym is) (tt, tt)

module _ (P : At → Type 0) where
  -- an export of a list
  export-at : (exports : List ExportUse) → Each (λ (used : ExportUse). P used.at) exports → (used : ExportUse) → Contains exports used → P used.at
  export-at exports h used contains = All-contains (λ (u : ExportUse). P u.at) exports used (each_all (λ (u : ExportUse). P u.at) exports h) contains

  -- an import of a list
  import-at : (uses : List ImportUse) → Each (λ (used : ImportUse). P used.at) uses → (place : ℕ) (used : ImportUse) → slice_get uses place ≡ Some used → P used.at
  import-at [] h place used held = absurd (none-some used held)
  import-at (first ∷ uses) h zero used held = subst (λ (u : ImportUse). P u.at) (same_Some first used held) h.0
  import-at (first ∷ uses) h (suc place) used held = import-at uses h.1 place used held

  -- the first declaration that is too deep
  abbrev PartAt : Part → Type 0
  PartAt part = P part.at

  globals-at : (x : Extents) (gs : List Global) → Each (λ (g : Global). P g.at) gs → Each PartAt (map (part_of_global x) gs)
  globals-at x [] h = tt
  globals-at x (g ∷ gs) h = (h.0, globals-at x gs h.1)

  formulas-at : (x : Extents) (fs : List Placed) → Each (λ (f : Placed). P f.at) fs → Each PartAt (map (part_of_formula x) fs)
  formulas-at x [] h = tt
  formulas-at x (f ∷ fs) h = (h.0, formulas-at x fs h.1)

  deep-at : (item : ℕ) (at : At) (parts : List Part) → Each PartAt parts → HasTooDeep item at parts → P at
  deep-at item at [] h deep = absurd deep
  deep-at item at (part ∷ more) h (inl here) = subst P here.1 h.0
  deep-at item at (part ∷ more) h (inr later) = deep-at item at more h.1 later

  depth-told : (checked : Checked) (answers : Answers) (refusal : Refusal) → Each (λ (g : Global). P g.at) checked.globals → Each (λ (f : Placed). P f.at) checked.formulas → IsDepthRefusal checked answers refusal → IsToldAt P refusal
  depth-told checked answers refusal h k why =
      let x = extents_of (map predicate_of checked.predicates) in
      let parts = each-append PartAt (map (part_of_global x) checked.globals) (map (part_of_formula x) checked.formulas) (globals-at x checked.globals h) (formulas-at x checked.formulas k) in
      subst (IsToldAt P) (sym why.is) (tt, deep-at why.first.item why.at (parts_of checked) parts why.first.deep)

-- an import that is not taken
module _ (P : At → Type 0) (seen : Seen) (mode : Mode) (limit : ℕ) (used : ImportUse) (at : P used.at) where
  unread-told : (refusal : Refusal) → IsUnread seen used refusal → IsToldAt P refusal
  unread-told (refusals.ImportMissing place name) why = (tt, subst P (sym why.0) at)
  unread-told (refusals.FileSize name most) why = (tt, tt)
  unread-told (refusals.ReadFault name) why = (tt, tt)
  unread-told refusal why = absurd why

  none-told : (refusal : Refusal) → IsNoAutomaton seen.before.held used refusal → IsToldAt P refusal
  none-told (refusals.ImportText place name) why = (tt, subst P (sym why.0) at)
  none-told refusal why = absurd why

  misfit-told : (item : ℕ) (plain : Plain) (refusal : Refusal) → IsNotTaken plain used mode limit item refusal → IsToldAt P refusal
  misfit-told item plain (refusals.ImportMode place name) why = (tt, subst P (sym why.0) at)
  misfit-told item plain (refusals.ImportVars place name) why = (tt, subst P (sym why.0) at)
  misfit-told item plain (refusals.ImportOpen place name count word) why = (tt, subst P (sym why.0) at)
  misfit-told item plain (refusals.Nodes step named) why = (tt, tt)
  misfit-told item plain refusals.Memory why = (tt, tt)
  misfit-told item plain refusal why = absurd why

import-told : (P : At → Type 0) (seen : Seen) (mode : Mode) (limit : ℕ) (uses : List ImportUse) (refusal : Refusal) → Each (λ (used : ImportUse). P used.at) uses → IsUnimported seen mode limit uses refusal → IsToldAt P refusal
import-told P seen mode limit uses refusal h is =
    let at = import-at P uses h is.place is.used is.here in
    ⊎_elim (unread-told P seen mode limit is.used at refusal)
    (λ other. ⊎_elim (none-told P seen mode limit is.used at refusal) (λ misfit. misfit-told P seen mode limit is.used at is.place misfit.0 refusal misfit.2) other) is.why

-- of an origin whose files are numbered from those before on
pub record Tells (before : List (List ℕ)) (origin : Origin) : Type 1 where
  pub loaded : (loaded : Loaded) → origin.Loads loaded → HasPlacesInFiles (length before) loaded
  pub refused : (refusal : Refusal) (read : List (List ℕ)) → origin.IsRefused refusal read → IsToldOver (before ++ read) refusal
  pub imports : (P : At → Type 0) (mode : Mode) (limit : ℕ) (uses : List ImportUse) (refusal : Refusal) → Each (λ (used : ImportUse). P used.at) uses → origin.IsUnimported mode limit uses refusal → IsToldAt P refusal

file-tells : (seen : Seen) (before : List (List ℕ)) (name : List ℕ) → Tells before (file_of seen (length before) name)
file-tells seen before name = record {
  loaded = loaded-sources seen (length before) name;
  refused = λ refusal read why. refused-loads seen before name refusal read why;
  imports = λ P mode limit uses refusal h why. import-told P seen mode limit uses refusal h why;
}

text-tells : (name bytes : List ℕ) → Tells [] (text_of name bytes)
text-tells name bytes = record {
  loaded = loaded-texts name bytes;
  refused = λ refusal read why. subst (λ files. IsToldOver files refusal) (sym why.1) (refused-texts name bytes refusal why.0);
  imports = λ P mode limit uses refusal h why. absurd why;
}

module _ (before : List (List ℕ)) (origin : Origin) (tells : Tells before origin) where
  -- the places of what is accepted
  kept : (loaded : Loaded) (checked : Checked) → IsAccepted origin loaded checked → KeepsPlacesInFiles (length before) checked
  kept loaded checked is = typed-sources (length before) loaded checked (tells.loaded loaded is.is_loaded) is.typed

  -- over all files of a source
  over : (loaded : Loaded) (checked : Checked) (read : List (List ℕ)) (refusal : Refusal) → IsAccepted origin loaded checked → read ≡ loaded.files →
      IsToldAt (IsAmongFiles (length before) (length checked.files)) refusal → IsToldOver (before ++ read) refusal
  over loaded checked read refusal is all at =
      subst (λ files. IsToldOver (before ++ files) refusal) (sym all) (subst (λ files. IsToldOver (before ++ files) refusal) is.typed.files (told-over before checked.files refusal at))

  unaccepted-told : (refusal : Refusal) (read : List (List ℕ)) → IsUnaccepted origin refusal read → IsToldOver (before ++ read) refusal
  unaccepted-told refusal read (not_loaded why) = tells.refused refusal read why
  unaccepted-told refusal read (faulty loaded is all why) =
      subst (λ files. IsToldOver (before ++ files) refusal) (sym all) (first-faults before loaded refusal (tells.loaded loaded is) why)

  unsolved-told : (loaded : Loaded) (checked : Checked) (answers : Answers) (contents : List (Content Sign)) (read : List (List ℕ)) (limit : ℕ) (refusal : Refusal) → IsAccepted origin loaded checked → read ≡ loaded.files →
      IsUnsolved checked answers contents limit refusal → IsToldOver (before ++ read) refusal
  unsolved-told loaded checked answers contents read limit refusal is all (not_made (too_deep deep)) =
      let places = kept loaded checked is in
      over loaded checked read refusal is all (depth-told (IsAmongFiles (length before) (length checked.files)) checked answers refusal places.globals places.formulas deep)
  unsolved-told loaded checked answers contents read limit refusal is all (not_made (too_large large)) = subst (IsToldOver (before ++ read)) (sym large.is) (tt, tt)
  unsolved-told loaded checked answers contents read limit refusal is all (limits.lacks_nodes within step there lacks) = subst (IsToldOver (before ++ read)) (sym lacks) (tt, tt)

  out-told : (loaded : Loaded) (checked : Checked) (outs : List (List ℕ)) (read : List (List ℕ)) (refusal : Refusal) → IsAccepted origin loaded checked → read ≡ loaded.files → IsOutTaken outs checked.exports refusal
      → IsToldOver (before ++ read) refusal
  out-told loaded checked outs read refusal is all why =
      let P : At → Type 0 = IsAmongFiles (length before) (length checked.files) in
      let places = kept loaded checked is in
      over loaded checked read refusal is all (subst (IsToldAt P) (sym why.is) (tt, export-at P checked.exports places.exports why.used (held_contained checked.exports why.place why.used why.here)))

  imports-told : (loaded : Loaded) (checked : Checked) (read : List (List ℕ)) (limit : ℕ) (refusal : Refusal) → IsAccepted origin loaded checked → read ≡ loaded.files
      → origin.IsUnimported checked.mode limit checked.imports refusal → IsToldOver (before ++ read) refusal
  imports-told loaded checked read limit refusal is all why =
      let P : At → Type 0 = IsAmongFiles (length before) (length checked.files) in
      let places = kept loaded checked is in
      over loaded checked read refusal is all (tells.imports P checked.mode limit checked.imports refusal places.imports why)

  pub refused-told : (outs : List (List ℕ)) (limit : ℕ) (refusal : Refusal) (read : List (List ℕ)) → IsRefused origin outs limit refusal read → IsToldOver (before ++ read) refusal
  refused-told outs limit refusal read (unaccepted why) = unaccepted-told refusal read why
  refused-told outs limit refusal read (out_taken loaded checked is all why) = out-told loaded checked outs read refusal is all why
  refused-told outs limit refusal read (unimported loaded checked is free all why) = imports-told loaded checked read limit refusal is all why
  refused-told outs limit refusal read (unsolved loaded checked plains is all contents adopted why below) = unsolved-told loaded checked (answers_by checked.imports plains) contents read limit refusal is.is all why
  refused-told outs limit refusal read (sources.no_memory why) = memory-told (before ++ read) refusal why

comparison-told : (left right : List ℕ) (limit : ℕ) (seen : Seen) (refusal : Refusal) (files : List (List ℕ)) → IsRefusedComparison left right limit seen refusal files → IsToldOver files refusal
comparison-told left right limit seen refusal files (left_refused why) = refused-told [] (file_of seen 0 left) (file-tells seen [] left) [] limit refusal files why
comparison-told left right limit seen refusal files (right_refused first rest are_parts loaded one is_left read all why) =
    subst (λ names. IsToldOver names refusal) (sym all) (refused-told loaded.files (file_of rest (length loaded.files) right) (file-tells rest loaded.files right) [] limit refusal read why)
comparison-told left right limit seen refusal files (not_comparable one two are_solved differ is) = subst (IsToldOver files) (sym is) (tt, tt)
comparison-told left right limit seen refusal files (comparisons.no_memory why) = memory-told files refusal why

pub command-told : (command : Command) (seen : Seen) (refusal : Refusal) (files : List (List ℕ)) → IsRefusedFor command seen refusal files → IsToldOver files refusal
command-told (Decide file out max_nodes stats format) seen refusal files why = refused-told [] (file_of seen 0 file) (file-tells seen [] file) (names_for out) max_nodes refusal files why
command-told (Same left right max_nodes) seen refusal files why = comparison-told left right max_nodes seen refusal files why
command-told (Gen number false) seen refusal files (inl memory) = memory-told files refusal memory
command-told (Gen number false) seen refusal files (inr range) = subst (IsToldOver files) (sym range.0) (tt, tt)
command-told (Gen number true) seen refusal files (inl memory) = memory-told files refusal memory
command-told (Gen number true) seen refusal files (inr (inl range)) = subst (IsToldOver files) (sym range.0) (tt, tt)
command-told (Gen number true) seen refusal files (inr (inr (is_number, (step, is), why))) = subst (IsToldOver files) (sym is) (tt, tt)
command-told (Ltl file max_nodes) seen refusal files why = lines seen file max_nodes refusal files why
command-told (Presburger file max_nodes) seen refusal files why = problem_lines seen file max_nodes refusal files why
command-told (Certify file name max_nodes) seen refusal files why = refused-told [] (file_of seen 0 file) (file-tells seen [] file) (names_to_certify name) max_nodes refusal files why
command-told (Check name) seen refusal files why = check_lines seen name refusal files why
