-- The files that a decision writes, and their names.
use Rattle.std.proofs.Common.{◌≡◌, ◌≢◌, ℕ, zero, suc, ◌+◌, List, [], ◌∷◌, ◌++◌, length, map, take, slice_get, All, Option, Some, None, refl, sym, ap, ap₂, subst, ◌∙◌, arith}
use Rattle.std.proofs.lemmas.List.Elements.{All-cons, All-head, All-nil, All-tail}
use Rattle.std.proofs.lemmas.List.Quantifiers.{all_pairs_push}
use Rattle.std.proofs.lemmas.Option.{none-some, same_Some}
use Rattle.ms_names_checked.specs.Names.{AreDifferent}
use Rattle.ms_dfa.specs.declared.plain.FileVersion.{FileVersion}
use Rattle.ms_dfa.specs.declared.plain.Plain.{Plain}
use Rattle.ms_dfafile.specs.File.{IsSpelled}
use Rattle.ms_logic.specs.declared.checked.ExportUse.{ExportUse}
use Rattle.ms_logic.specs.Verdict.{Problem}
use Rattle.ms_logic.specs.Lists.{Each}
use Rattle.ms_build_source.proofs.SharedRoots.{each_all}
use Rattle.ms_names_checked.specs.Spellings.{IsName}
use Rattle.ms_build_source.specs.Solution.{AreExportFiles, IsSpellable}
use Rattle.ms_build_source.specs.Values.{IsMainFile}
use Rattle.ms_app.specs.inner.Files.{AreSpelled, AreWritable, HaveOwnNames, IsWithMain, pairs_of}
use Rattle.ms_app.specs.declared.files.AutomatonFile.{AutomatonFile}
use Rattle.ms_app.specs.Written.{AreFilesFrom, AreFilesOfMain, File}
use Rattle.ms_app.proofs.Outs.{IsOutFree}
use Rattle.ms_app.proofs.Written.{mapped_push}

module _ (version : FileVersion) (problem main_is : Problem) (names : List (List ℕ)) where
  -- files of exports, and behind them that of the main value
  pub files_from : (i : ℕ) (uses : List ExportUse) (plains : List Plain) (files rest : List File) (out : Option (List ℕ)) → AreSpelled uses plains files → AreExportFiles version problem i uses plains
      → AreFilesOfMain version main_is names out rest → AreFilesFrom version problem main_is names i uses out (files ++ rest)
  files_from i [] [] [] rest out spelled exports main = main
  files_from i [] [] (file ∷ files) rest out spelled exports main = absurd spelled
  files_from i [] (plain ∷ plains) files rest out spelled exports main = absurd exports
  files_from i (used ∷ uses) [] files rest out spelled exports main = absurd exports
  files_from i (used ∷ uses) (plain ∷ plains) [] rest out spelled exports main = absurd spelled
  files_from i (used ∷ uses) (plain ∷ plains) (file ∷ files) rest out spelled exports main =
      ((spelled.0.0, (plain, spelled.0.1, exports.0)), files_from (i + 1) uses plains files rest out spelled.1 exports.1 main)

  no_more : (files : List File) → files ++ [] ≡ files
  no_more [] = refl
  no_more (file ∷ files) = ap (λ fs. file ∷ fs) (no_more files)

  -- where none is asked for
  pub files_alone : (uses : List ExportUse) (plains : List Plain) (files : List File) → AreSpelled uses plains files → AreExportFiles version problem 0 uses plains → AreFilesFrom version problem main_is names 0 uses None files
  files_alone uses plains files spelled exports = subst (AreFilesFrom version problem main_is names 0 uses None) (no_more files) (files_from 0 uses plains files [] None spelled exports refl)

  -- and where one may be
  pub files_with : (uses : List ExportUse) (plains : List Plain) (files more : List File) (out : Option (List ℕ)) (main : Plain) → AreSpelled uses plains files → AreExportFiles version problem 0 uses plains
      → IsMainFile version main_is names main → IsWithMain files out main more → AreFilesFrom version problem main_is names 0 uses out more
  files_with uses plains files more None main spelled exports is with = subst (AreFilesFrom version problem main_is names 0 uses None) (sym with) (files_alone uses plains files spelled exports)
  files_with uses plains files more (Some out) main spelled exports is (bytes, are, text) =
      subst (AreFilesFrom version problem main_is names 0 uses (Some out)) (sym are) (files_from 0 uses plains files ((out, bytes) ∷ []) (Some out) spelled exports (bytes, refl, (main, text, is)))

  -- the names of the files
  abbrev name_of_out : Option (List ℕ) → List (List ℕ)
  name_of_out None = []
  name_of_out (Some out) = out ∷ []

  names_are : (i : ℕ) (uses : List ExportUse) (out : Option (List ℕ)) (files : List File) → AreFilesFrom version problem main_is names i uses out files
      → map (λ (file : File). file.0) files ≡ map (λ (used : ExportUse). used.name) uses ++ name_of_out out
  names_are i [] None files are = ap (map (λ (file : File). file.0)) are
  names_are i [] (Some out) files are = ap (map (λ (file : File). file.0)) are.1
  names_are i (used ∷ uses) out [] are = absurd are
  names_are i (used ∷ uses) out (file ∷ files) are = ap₂ (λ n ns. n ∷ ns) are.0.0 (names_are (i + 1) uses out files are.1)

  free_name : (out : List ℕ) (uses : List ExportUse) → All (λ (used : ExportUse). used.name ≢ out) uses → All (λ n. n ≢ out) (map (λ (used : ExportUse). used.name) uses)
  free_name out [] free = All-nil (λ n. n ≢ out)
  free_name out (used ∷ uses) free =
      let P : ExportUse → Type 0 = λ u. u.name ≢ out in
      All-cons (λ n. n ≢ out) used.name (map (λ (u : ExportUse). u.name) uses) (All-head P used uses free) (free_name out uses (All-tail P used uses free))

  -- no two have one name
  pub own_names : (uses : List ExportUse) (out : Option (List ℕ)) (files : List File) → AreDifferent (map (λ (used : ExportUse). used.name) uses) → IsOutFree out uses
      → AreFilesFrom version problem main_is names 0 uses out files → HaveOwnNames files
  own_names uses None files different free are =
      subst AreDifferent (sym (names_are 0 uses None files are ∙ nothing_more (map (λ (u : ExportUse). u.name) uses))) different
    where
      nothing_more : (ns : List (List ℕ)) → ns ++ [] ≡ ns
      nothing_more [] = refl
      nothing_more (n ∷ ns) = ap (λ ms. n ∷ ms) (nothing_more ns)
  own_names uses (Some out) files different free are =
      let ns = map (λ (u : ExportUse). u.name) uses in
      subst AreDifferent (sym (names_are 0 uses (Some out) files are)) (all_pairs_push (λ n m. n ≢ m) ns out different (λ k d less. free_name out uses free k d less))

  all_more : {A : Type 0} (P : A → Type 0) (xs : List A) (x : A) → All P xs → P x → All P (xs ++ x ∷ [])
  all_more P [] x all here = All-cons P x [] here (All-nil P)
  all_more P (y ∷ ys) x all here = All-cons P y (ys ++ x ∷ []) (All-head P y ys all) (all_more P ys x (All-tail P y ys all) here)

  -- nor where one more file has a name that none of them has
  pub own_names_beside : (uses : List ExportUse) (out : List ℕ) (files : List File) (name bytes : List ℕ) → HaveOwnNames files → IsOutFree (Some name) uses → out ≢ name
      → AreFilesFrom version problem main_is names 0 uses (Some out) files → HaveOwnNames (files ++ (name, bytes) ∷ [])
  own_names_beside uses out files name bytes own free differ are =
      let P : List ℕ → Type 0 = λ n. n ≢ name in
      let fresh = subst (All P) (sym (names_are 0 uses (Some out) files are)) (all_more P (map (λ (u : ExportUse). u.name) uses) out (free_name name uses free) differ) in
      subst AreDifferent (sym (mapped_push files (name, bytes))) (all_pairs_push (λ n m. n ≢ m) (map (λ (file : File). file.0) files) name own fresh)

  -- the file of the main value is the last
  pub record HasMainLast (out : List ℕ) (files : List File) : Type 0 where
    pub before : List File
    pub bytes : List ℕ
    pub all : files ≡ before ++ (out, bytes) ∷ []
    pub plain : Plain
    pub spelled : IsSpelled bytes plain
    pub is : IsMainFile version main_is names plain

  pub main_last : (i : ℕ) (uses : List ExportUse) (out : List ℕ) (files : List File) → AreFilesFrom version problem main_is names i uses (Some out) files → HasMainLast out files
  main_last i [] out files are = record { before = []; bytes = are.0; all = are.1; plain = are.2.0; spelled = are.2.1; is = are.2.2 }
  main_last i (used ∷ uses) out [] are = absurd are
  main_last i (used ∷ uses) out (file ∷ files) are =
      let later = main_last (i + 1) uses out files are.1 in
      record { before = file ∷ later.before; bytes = later.bytes; all = ap (λ fs. file ∷ fs) later.all; plain = later.plain; spelled = later.spelled; is = later.is }

-- what is made of exports can be written
pub all_writable : (version : FileVersion) (problem : Problem) (i : ℕ) (uses : List ExportUse) (plains : List Plain) → AreExportFiles version problem i uses plains → Each IsSpellable plains
    → Each (λ (used : ExportUse). Each IsName used.names) uses → Each (λ (used : ExportUse). AreDifferent used.names) uses → AreWritable plains
all_writable version problem i [] [] exports small names different = tt
all_writable version problem i [] (plain ∷ plains) exports small names different = absurd exports
all_writable version problem i (used ∷ uses) [] exports small names different = absurd exports
all_writable version problem i (used ∷ uses) (plain ∷ plains) exports small names different = (
  record {
    names = record {
      spelled = subst (All IsName) (sym exports.0.file.names_are) (each_all IsName used.names names.0);
      different = subst AreDifferent (sym exports.0.file.names_are) different.0;
    };
    canonical = exports.0.file.canonical;
    signs = small.0.signs;
    small = small.0.few;
  },
  all_writable version problem (i + 1) uses plains exports.1 small.1 names.1 different.1,
)

-- as many as exports
pub exports_counted : (version : FileVersion) (problem : Problem) (i : ℕ) (uses : List ExportUse) (plains : List Plain) → AreExportFiles version problem i uses plains → length uses ≡ length plains
exports_counted version problem i [] [] exports = refl
exports_counted version problem i [] (plain ∷ plains) exports = absurd exports
exports_counted version problem i (used ∷ uses) [] exports = absurd exports
exports_counted version problem i (used ∷ uses) (plain ∷ plains) exports = ap suc (exports_counted version problem (i + 1) uses plains exports.1)

-- one file more
pub spelled_more : (uses : List ExportUse) (plains : List Plain) (n : ℕ) (files : List File) (used : ExportUse) (plain : Plain) (file : File) → AreSpelled (take n uses) (take n plains) files
    → slice_get uses n ≡ Some used → slice_get plains n ≡ Some plain → file.0 ≡ used.name → IsSpelled file.1 plain → AreSpelled (take (n + 1) uses) (take (n + 1) plains) (files ++ file ∷ [])
spelled_more [] plains n files used plain file so_far at_used at_plain name text = absurd (none-some used at_used)
spelled_more (u ∷ uses) [] n files used plain file so_far at_used at_plain name text = absurd (none-some plain at_plain)
spelled_more (u ∷ uses) (p ∷ plains) zero [] used plain file so_far at_used at_plain name text =
    let same_used = same_Some u used at_used in
    let same_plain = same_Some p plain at_plain in
    ((name ∙ ap (λ (x : ExportUse). x.name) (sym same_used), subst (IsSpelled file.1) (sym same_plain) text), tt)
spelled_more (u ∷ uses) (p ∷ plains) zero (first ∷ files) used plain file so_far at_used at_plain name text = absurd so_far
spelled_more (u ∷ uses) (p ∷ plains) (suc n) [] used plain file so_far at_used at_plain name text = absurd so_far
spelled_more (u ∷ uses) (p ∷ plains) (suc n) (first ∷ files) used plain file so_far at_used at_plain name text =
    let next : suc n + 1 ≡ suc (n + 1) = omega arith in
    subst (λ count. AreSpelled (take count (u ∷ uses)) (take count (p ∷ plains)) (first ∷ files ++ file ∷ [])) (sym next)
    (so_far.0, spelled_more uses plains n files used plain file so_far.1 at_used at_plain name text)

take_all_of : {X : Type 0} (xs : List X) (n : ℕ) → n ≡ length xs → take n xs ≡ xs
take_all_of [] zero all = refl
take_all_of [] (suc n) all = absurd (omega (arith, all))
take_all_of (x ∷ xs) zero all = absurd (omega (arith, all))
take_all_of (x ∷ xs) (suc n) all = ap (λ ys. x ∷ ys) (take_all_of xs n (omega (arith, all)))

pub all_spelled : (uses : List ExportUse) (plains : List Plain) (n : ℕ) (files : List File) → length uses ≡ length plains → n ≡ length uses → AreSpelled (take n uses) (take n plains) files
    → AreSpelled uses plains files
all_spelled uses plains n files long all so_far =
    subst (λ us. AreSpelled us plains files) (take_all_of uses n all) (subst (λ ps. AreSpelled (take n uses) ps files) (take_all_of plains n (all ∙ long)) so_far)

-- the names and bytes of one file more
pub pairs_more : (files : List AutomatonFile) (file : AutomatonFile) → pairs_of (files ++ file ∷ []) ≡ pairs_of files ++ (file.name, file.bytes) ∷ []
pairs_more [] file = refl
pairs_more (first ∷ files) file = ap (λ pairs. (first.name, first.bytes) ∷ pairs) (pairs_more files file)

pub spelled_here : (us uses : List ExportUse) (ps plains : List Plain) (files : List File) → us ≡ uses → ps ≡ plains → AreSpelled us ps files → AreSpelled uses plains files
spelled_here us uses ps plains files same_uses same_plains are = subst (λ list. AreSpelled uses list files) same_plains (subst (λ list. AreSpelled list ps files) same_uses are)
