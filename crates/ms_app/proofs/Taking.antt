-- What comes of a file, by what comes of its load and of its imports.
use Rattle.std.proofs.Common.{◌≡◌, ◌⊎◌, inl, inr, ℕ, List, ◌++◌, length, refl}
use Rattle.ms_dfa.specs.declared.plain.Plain.{Plain}
use Rattle.ms_edge.specs.Files.{FilesTold, OnlyRead, between}
use Rattle.ms_edge.specs.declared.refusal.Refusal.{Refusal}
use Rattle.ms_edge.specs.declared.refusal.Refusal.TheVariants.{Memory}
use Rattle.ms_dfafile_imports.specs.Imports.{AreImported, IsUnimported}
use Rattle.ms_logic.specs.declared.checked.Checked.{Checked}
use Rattle.ms_logic.specs.declared.source.Loaded.{Loaded}
use Rattle.ms_app.specs.Source.{IsAccepted, AreOutsFree, IsOutTaken, IsRefused, IsTaken, IsUnaccepted, Origin, file_of, out_taken, unaccepted, unimported}
use Rattle.ms_app.proofs.Comparisons.{RefusedWith, more_refused}
use Rattle.ms_app.proofs.Moments.{accepted_before, imported_before, unimported_before}

module _ (origin : Origin) (outs : List (List ℕ)) (limit : ℕ) (old new : List (List ℕ)) (refusal : Refusal) where
  -- it is not accepted
  pub unaccepted_refused : RefusedWith old new (IsUnaccepted origin refusal) refusal → RefusedWith old new (IsRefused origin outs limit refusal) refusal
  unaccepted_refused why = more_refused {Why = IsUnaccepted origin refusal} {More = IsRefused origin outs limit refusal} old new refusal (λ read is. unaccepted is) why

  -- or the name for the file of its main value is not free
  pub out_refused : (loaded : Loaded) (checked : Checked) → IsAccepted origin loaded checked → new ≡ old ++ loaded.files → (refusal ≡ Memory) ⊎ IsOutTaken outs checked.exports refusal
      → RefusedWith old new (IsRefused origin outs limit refusal) refusal
  out_refused loaded checked is grown (inl memory) = inl memory
  out_refused loaded checked is grown (inr why) = inr (loaded.files, grown, out_taken loaded checked is refl why)

module _ (first middle last : FilesTold) (reads : OnlyRead first middle) (old new : List (List ℕ)) (name : List ℕ) (loaded : Loaded) (checked : Checked)
    (is : IsAccepted (file_of (between first middle) (length old) name) loaded checked) (grown : new ≡ old ++ loaded.files) (outs : List (List ℕ)) (free : AreOutsFree outs checked.exports) where
  abbrev origin : Origin
  origin = file_of (between first last) (length old) name

  here : IsAccepted origin loaded checked
  here = accepted_before first middle last (length old) name loaded checked is

  -- it is taken, with what it imports
  pub is_taken : (plains : List Plain) → AreImported middle.held checked.mode checked.imports plains → IsTaken origin outs loaded checked plains
  is_taken plains are = record { is = here; free = free; imported = imported_before first middle last reads checked.mode checked.imports plains are }

  -- or an import is not
  pub import_refused : (limit : ℕ) (refusal : Refusal) → (refusal ≡ Memory) ⊎ IsUnimported (between middle last) checked.mode limit checked.imports refusal
      → RefusedWith old new (IsRefused origin outs limit refusal) refusal
  import_refused limit refusal (inl memory) = inl memory
  import_refused limit refusal (inr why) = inr (loaded.files, grown, unimported loaded checked here free refl (unimported_before first middle last reads checked.mode limit checked.imports refusal why))
