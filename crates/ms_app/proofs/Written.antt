-- Files that are written one after the other.
use Rattle.std.proofs.Common.{◌≡◌, ◌≢◌, ℕ, zero, suc, ◌+◌, ◌≤◌, List, [], ◌∷◌, ◌++◌, length, map, take, slice_get, All, Contains, Option, option_map, Some, None, refl, sym, ap, subst, ◌∙◌, arith}
use Rattle.std.proofs.lemmas.List.Elements.{Contains-append_left, Contains-push}
use Rattle.std.proofs.lemmas.Option.{get_or_from_slice_get, none-some, same_Some, slice_get-map, slice_get_within}
use Rattle.ms_edge.specs.Files.{Holding, Holds, KeepsOthers}
use Rattle.ms_logic.specs.Lists.{Each}
use Rattle.ms_app.specs.inner.Files.{HaveOwnNames, pairs_of}
use Rattle.ms_app.specs.declared.files.AutomatonFile.{AutomatonFile}
use Rattle.ms_app.specs.Written.{AreHeld, AreHeldUpTo, File, KeepsAllBut}

-- so many files are written since a moment
abbrev pub AreWritten : ℕ → Option Holding → Option Holding → List File → Type 0
AreWritten n before now files = Each (λ (file : File). Holds now file.0 file.1) (take n files) × KeepsAllBut before now (map (λ (file : File). file.0) (take n files))

pub none_written : (held : Option Holding) (files : List File) → AreWritten 0 held held files
none_written None files = (tt, tt)
none_written (Some holding) files = (tt, λ other not_there. refl)

taken_more : (files : List File) (n : ℕ) (file : File) → slice_get files n ≡ Some file → take (n + 1) files ≡ take n files ++ file ∷ []
taken_more [] n file held = absurd (none-some file held)
taken_more (first ∷ files) zero file held = ap (λ f. f ∷ []) (same_Some first file held)
taken_more (first ∷ files) (suc n) file held =
    let next : suc n + 1 ≡ suc (n + 1) = omega arith in
    ap (λ m. take m (first ∷ files)) next ∙ ap (λ fs. first ∷ fs) (taken_more files n file held)

pub mapped_push : (files : List File) (file : File) → map (λ (f : File). f.0) (files ++ file ∷ []) ≡ map (λ (f : File). f.0) files ++ file.0 ∷ []
mapped_push [] file = refl
mapped_push (first ∷ files) file = ap (λ names. first.0 ∷ names) (mapped_push files file)

-- the files before one have other names
others_named : (files : List File) (n : ℕ) (file : File) → slice_get files n ≡ Some file → HaveOwnNames files → Each (λ (f : File). f.0 ≢ file.0) (take n files)
others_named [] n file held own = absurd (none-some file held)
others_named (first ∷ files) zero file held own = tt
others_named (first ∷ files) (suc n) file held own =
    let names = map (λ (f : File). f.0) files in
    let there : slice_get names n ≡ Some file.0 = slice_get-map (λ (f : File). f.0) files n ∙ ap (λ (found : Option File). option_map (λ (f : File). f.0) found) held in
    let within = slice_get_within names n file.0 there in
    let is = get_or_from_slice_get names n file.0 file.0 there in (
      subst (λ name. first.0 ≢ name) is (own 0 (suc n) file.0 (omega arith) (omega (arith, within))),
      others_named files n file held (λ i j d less inside. own (suc i) (suc j) d (omega (arith, less)) (omega (arith, inside))),
    )

-- what is held under other names stays
still_holds : (mid after : Option Holding) (name : List ℕ) → KeepsOthers mid after name → (other bytes : List ℕ) → other ≢ name → Holds mid other bytes → Holds after other bytes
still_holds None None name keeps other bytes differ holds = tt
still_holds None (Some new) name keeps other bytes differ holds = absurd keeps
still_holds (Some old) None name keeps other bytes differ holds = absurd keeps
still_holds (Some old) (Some new) name keeps other bytes differ holds = keeps other differ ∙ holds

still_held : (mid after : Option Holding) (name : List ℕ) → KeepsOthers mid after name → (files : List File) → Each (λ (f : File). f.0 ≢ name) files → Each (λ (f : File). Holds mid f.0 f.1) files
    → Each (λ (f : File). Holds after f.0 f.1) files
still_held mid after name keeps [] differ holds = tt
still_held mid after name keeps (f ∷ files) differ holds = (still_holds mid after name keeps f.0 f.1 differ.0 holds.0, still_held mid after name keeps files differ.1 holds.1)

keeps_more : (before mid after : Option Holding) (names : List (List ℕ)) (name : List ℕ) → KeepsAllBut before mid names → KeepsOthers mid after name → KeepsAllBut before after (names ++ name ∷ [])
keeps_more None None None names name all one = tt
keeps_more None None (Some new) names name all one = absurd one
keeps_more None (Some mid) after names name all one = absurd all
keeps_more (Some old) None after names name all one = absurd all
keeps_more (Some old) (Some mid) None names name all one = absurd one
keeps_more (Some old) (Some mid) (Some new) names name all one = λ other not_there.
    one other (λ same. not_there (subst (Contains (names ++ name ∷ [])) (sym same) (Contains-push names name)))
    ∙ all other (λ there. not_there (Contains-append_left names (name ∷ []) other there))

each_push : (P : File → Type 0) (files : List File) (file : File) → Each P files → P file → Each P (files ++ file ∷ [])
each_push P [] file each last = (last, tt)
each_push P (first ∷ files) file each last = (each.0, each_push P files file each.1 last)

module _ (before mid after : Option Holding) (files : List File) (n : ℕ) (file : File) (held : slice_get files n ≡ Some file) (own : HaveOwnNames files) (so_far : AreWritten n before mid files)
    (keeps : KeepsOthers mid after file.0) where
  others_hold : Each (λ (f : File). Holds after f.0 f.1) (take n files)
  others_hold = still_held mid after file.0 keeps (take n files) (others_named files n file held own) so_far.0

  others_kept : KeepsAllBut before after (map (λ (f : File). f.0) (take (n + 1) files))
  others_kept =
      subst (KeepsAllBut before after) (sym (ap (λ (fs : List File). map (λ (f : File). f.0) fs) (taken_more files n file held) ∙ mapped_push (take n files) file))
      (keeps_more before mid after (map (λ (f : File). f.0) (take n files)) file.0 so_far.1 keeps)

  -- one more
  pub written_more : Holds after file.0 file.1 → AreWritten (n + 1) before after files
  written_more holds =
      (subst (Each (λ (f : File). Holds after f.0 f.1)) (sym (taken_more files n file held)) (each_push (λ (f : File). Holds after f.0 f.1) (take n files) file others_hold holds), others_kept)

  -- or it is not written
  pub written_up_to : AreHeldUpTo n before after files
  written_up_to = record { some_left = slice_get_within files n file held; each = others_hold; others = others_kept }

take_whole : (files : List File) (n : ℕ) → n ≡ length files → take n files ≡ files
take_whole [] zero all = refl
take_whole [] (suc n) all = absurd (omega (arith, all))
take_whole (f ∷ files) zero all = absurd (omega (arith, all))
take_whole (f ∷ files) (suc n) all = ap (λ fs. f ∷ fs) (take_whole files n (omega (arith, all)))

-- all are written
pub all_written : (n : ℕ) (before after : Option Holding) (files : List File) → n ≡ length files → AreWritten n before after files → AreHeld before after files
all_written n before after files all are =
    let whole = take_whole files n all in record {
      each = subst (Each (λ (f : File). Holds after f.0 f.1)) whole are.0;
      others = subst (λ fs. KeepsAllBut before after (map (λ (f : File). f.0) fs)) whole are.1;
    }

-- what holds of all that were taken, once all are
module _ {X : Type 0} (P : X → Type 0) where
  pub all_taken : (xs : List X) (n : ℕ) → length xs ≤ n → All P (take n xs) → All P xs
  all_taken [] n past all k d less = absurd (omega (arith, less))
  all_taken (x ∷ xs) zero past all k d less = absurd (omega (arith, past))
  all_taken (x ∷ xs) (suc n) past all zero d less = all 0 d (omega arith)
  all_taken (x ∷ xs) (suc n) past all (suc k) d less = all_taken xs n (omega (arith, past)) (λ j e within. all (suc j) e (omega (arith, within))) k d (omega (arith, less))

-- the name of a file at a place
pub name_of_pair : (files : List AutomatonFile) (place : ℕ) (file : AutomatonFile) → slice_get files place ≡ Some file → slice_get (map (λ (pair : File). pair.0) (pairs_of files)) place ≡ Some file.name
name_of_pair [] place file held = absurd (none-some file held)
name_of_pair (first ∷ files) zero file held = ap (λ (f : AutomatonFile). Some f.name) (same_Some first file held)
name_of_pair (first ∷ files) (suc place) file held = name_of_pair files place file held

-- no pairs are of no files
pub no_pairs : (files : List AutomatonFile) → pairs_of files ≡ [] → length files ≡ 0
no_pairs [] none = refl
no_pairs (file ∷ files) none = absurd (some_pairs (file.name, file.bytes) (pairs_of files) none)
  where
    some_pairs : (pair : File) (pairs : List File) → pair ∷ pairs ≡ [] → ⊥
    some_pairs pair pairs none = cc
