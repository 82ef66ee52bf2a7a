-- A source is accepted or refused, by what comes of its load and its check.
use Rattle.std.proofs.Common.{◌≡◌, ◌⊎◌, inl, inr, ℕ, List, [], ◌∷◌, ◌++◌, length, map, None, refl, subst}
use Rattle.ms_edge.specs.Files.{Seen}
use Rattle.ms_edge.specs.declared.refusal.Refusal.{Refusal}
use Rattle.ms_edge.specs.declared.refusal.Refusal.TheVariants.{Memory}
use Rattle.ms_include.specs.Load.{files_of, IsLoaded, IsLoadedText, IsRefusedLoad, IsRefusedText}
use Rattle.ms_logic.specs.declared.checked.Checked.{Checked}
use Rattle.ms_logic.specs.declared.source.Loaded.{Loaded}
use Rattle.ms_names_rules.specs.Checking.{IsFirstFault}
use Rattle.ms_names_rules.specs.Declarations.{first_fault_of}
use Rattle.ms_names_rules.specs.TypedSource.{IsTyped}
use Rattle.ms_parse_grammar.specs.View.{declared_of}
use Rattle.ms_app.specs.Source.{IsAccepted, IsUnaccepted, Origin, file_of, text_of, not_loaded, faulty}

pub wrong_refused : (origin : Origin) (loaded : Loaded) → origin.Loads loaded → (refusal : Refusal) → (refusal ≡ Memory) ⊎ IsFirstFault loaded refusal
    → (refusal ≡ Memory) ⊎ IsUnaccepted origin refusal loaded.files
wrong_refused origin loaded is refusal (inl memory) = inl memory
wrong_refused origin loaded is refusal (inr why) = inr (faulty loaded is refl why)

pub right_accepted : (origin : Origin) (loaded : Loaded) → origin.Loads loaded → (checked : Checked) → first_fault_of loaded.mode (map declared_of loaded.items) ≡ None → IsTyped loaded checked
    → IsAccepted origin loaded checked
right_accepted origin loaded is checked accepted typed = record { is_loaded = is; accepted = accepted; typed = typed }

-- under the name that was asked for
pub loaded_as : (seen : Seen) (base : ℕ) (text name : List ℕ) (loaded : Loaded) → text ≡ name → IsLoaded (files_of seen base) text loaded → IsLoaded (files_of seen base) name loaded
loaded_as seen base text name loaded same is = subst (λ n. IsLoaded (files_of seen base) n loaded) same is

module _ (seen : Seen) (old new : List (List ℕ)) (text name : List ℕ) (same : text ≡ name) where
  pub load_refused : (refusal : Refusal)
      → (refusal ≡ Memory) ⊎ ((read : List (List ℕ)) × (new ≡ old ++ read) × IsRefusedLoad (files_of seen (length old)) text refusal read)
      → (refusal ≡ Memory) ⊎ ((read : List (List ℕ)) × (new ≡ old ++ read) × IsUnaccepted (file_of seen (length old) name) refusal read)
  load_refused refusal (inl memory) = inl memory
  load_refused refusal (inr (read, grown, why)) = inr (read, grown, not_loaded (subst (λ n. IsRefusedLoad (files_of seen (length old)) n refusal read) same why))

  pub file_refused : (loaded : Loaded) → IsLoaded (files_of seen (length old)) text loaded → new ≡ old ++ loaded.files → (refusal : Refusal) → (refusal ≡ Memory) ⊎ IsFirstFault loaded refusal
      → (refusal ≡ Memory) ⊎ ((read : List (List ℕ)) × (new ≡ old ++ read) × IsUnaccepted (file_of seen (length old) name) refusal read)
  file_refused loaded is grown refusal why = elim (wrong_refused (file_of seen (length old) name) loaded (loaded_as seen (length old) text name loaded same is) refusal why) [
    | inl memory ↦ inl memory
    | inr unaccepted ↦ inr (loaded.files, grown, unaccepted)
  ]

module _ (name bytes : List ℕ) (new old : List (List ℕ)) (grown : new ≡ old ++ name ∷ []) where
  pub text_unloaded : (refusal : Refusal) → (refusal ≡ Memory) ⊎ IsRefusedText bytes refusal
      → (refusal ≡ Memory) ⊎ ((new ≡ old ++ name ∷ []) × IsUnaccepted (text_of name bytes) refusal (name ∷ []))
  text_unloaded refusal (inl memory) = inl memory
  text_unloaded refusal (inr why) = inr (grown, not_loaded (why, refl))

  pub text_refused : (loaded : Loaded) → IsLoadedText name bytes loaded → (refusal : Refusal) → (refusal ≡ Memory) ⊎ IsFirstFault loaded refusal
      → (refusal ≡ Memory) ⊎ ((new ≡ old ++ name ∷ []) × IsUnaccepted (text_of name bytes) refusal (name ∷ []))
  text_refused loaded is refusal why = elim (wrong_refused (text_of name bytes) loaded is refusal why) [
    | inl memory ↦ inl memory
    | inr unaccepted ↦ inr (grown, subst (IsUnaccepted (text_of name bytes) refusal) is.files unaccepted)
  ]
