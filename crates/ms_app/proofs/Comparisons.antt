-- What comes of a comparison, by what comes of both files.
use Rattle.std.proofs.Common.{◌≡◌, ◌⊎◌, inl, inr, ℕ, List, [], ◌++◌, length, refl, sym, ap, subst, ◌∙◌}
use Rattle.ms_dfa.specs.declared.plain.Plain.{Plain}
use Rattle.ms_edge.specs.Files.{FilesTold, OnlyRead, Seen, between}
use Rattle.ms_edge.specs.declared.refusal.Refusal.{Refusal}
use Rattle.ms_edge.specs.declared.refusal.Refusal.TheVariants.{Memory}
use Rattle.ms_dfafile_imports.specs.Adopted.{AreAdopted}
use Rattle.ms_dfafile_imports.specs.Imports.{answers_by}
use Rattle.ms_logic.specs.declared.checked.Checked.{Checked}
use Rattle.ms_logic.specs.declared.source.Loaded.{Loaded}
use Rattle.ms_build_source.specs.Limits.{IsUnsolved}
use Rattle.ms_logic_words.specs.Content.{Content}
use Rattle.ms_logic_words.specs.declared.sign.Sign.{Sign}
use Rattle.ms_names_rules.specs.Numbers.{IsWellNumbered}
use Rattle.ms_app.specs.Comparison.{AreParts, AreSolved, IsRefusedComparison, Taken, left_refused, no_memory, right_refused}
use Rattle.ms_app.specs.Source as sources
use Rattle.ms_app.specs.Source.{IsRefused, IsSolved, IsTaken, Origin, file_of, unsolved}
use Rattle.ms_app.proofs.Budgets.{below_budgets}

-- a refusal for want of memory, or one of this kind with the files of a source that were read by then
abbrev pub RefusedWith : List (List ℕ) → List (List ℕ) → (List (List ℕ) → Type 0) → Refusal → Type 0
RefusedWith old new Why refusal = (refusal ≡ Memory) ⊎ ((read : List (List ℕ)) × (new ≡ old ++ read) × Why read)

pub more_refused : {Why More : List (List ℕ) → Type 0} (old new : List (List ℕ)) (refusal : Refusal) → ((read : List (List ℕ)) → Why read → More read) → RefusedWith old new Why refusal → RefusedWith old new More refusal
more_refused old new refusal more (inl memory) = inl memory
more_refused old new refusal more (inr (read, grown, why)) = inr (read, grown, more read why)

pub unsolved_refused : (origin : Origin) (outs : List (List ℕ)) (limit : ℕ) (refusal : Refusal) (old new : List (List ℕ)) (loaded : Loaded) (checked : Checked) (plains : List Plain)
    → IsTaken origin outs loaded checked plains → new ≡ old ++ loaded.files → (contents : List (Content Sign)) → AreAdopted limit checked.mode checked.imports plains contents
    → IsWellNumbered checked → (refusal ≡ Memory) ⊎ IsUnsolved checked (answers_by checked.imports plains) contents limit refusal
    → RefusedWith old new (IsRefused origin outs limit refusal) refusal
unsolved_refused origin outs limit refusal old new loaded checked plains is grown contents adopted numbered (inl memory) = inl memory
unsolved_refused origin outs limit refusal old new loaded checked plains is grown contents adopted numbered (inr why) =
    inr (loaded.files, grown, unsolved loaded checked plains is refl contents adopted why (below_budgets limit checked plains contents numbered adopted refusal why))

-- the files of the first source are all that were read
pub first_refused : (name : List ℕ) (outs : List (List ℕ)) (limit : ℕ) (seen : Seen) (old new : List (List ℕ)) (refusal : Refusal) → old ≡ [] → RefusedWith old new (IsRefused (file_of seen (length old) name) outs limit refusal) refusal
    → IsRefused (file_of seen 0 name) outs limit refusal new
first_refused name outs limit seen old new refusal none (inl memory) = sources.no_memory memory
first_refused name outs limit seen old new refusal none (inr (read, grown, why)) =
    let all : new ≡ read = grown ∙ ap (λ names. names ++ read) none in
    let P : List (List ℕ) → Type 0 = λ names. IsRefused (file_of seen (length names) name) outs limit refusal read in
    subst (IsRefused (file_of seen 0 name) outs limit refusal) (sym all) (subst P none why)

module _ (left right : List ℕ) (limit : ℕ) where
  pub left_fails : (seen : Seen) (old new : List (List ℕ)) (refusal : Refusal) → old ≡ [] → RefusedWith old new (IsRefused (file_of seen (length old) left) [] limit refusal) refusal
      → IsRefusedComparison left right limit seen refusal new
  left_fails seen old new refusal none why = left_refused (first_refused left [] limit seen old new refusal none why)

  module _ (a b c : FilesTold) (reads : OnlyRead a b) (old middle : List (List ℕ)) (none : old ≡ []) (loaded : Loaded) (one : Taken)
      (is : IsSolved (file_of (between a b) (length old) left) [] loaded one.checked one.plains) (grown : middle ≡ old ++ loaded.files) where
    parts : AreParts (between a c) (between a b) (between b c)
    parts = record { begin = refl; middle = refl; end = refl; reads = reads }

    all_read : middle ≡ loaded.files
    all_read = grown ∙ ap (λ names. names ++ loaded.files) none

    left_solved : IsSolved (file_of (between a b) 0 left) [] loaded one.checked one.plains
    left_solved = let P : List (List ℕ) → Type 0 = λ names. IsSolved (file_of (between a b) (length names) left) [] loaded one.checked one.plains in subst P none is

    pub right_fails : (new : List (List ℕ)) (refusal : Refusal) → RefusedWith middle new (IsRefused (file_of (between b c) (length middle) right) [] limit refusal) refusal
        → IsRefusedComparison left right limit (between a c) refusal new
    right_fails new refusal (inl memory) = no_memory memory
    right_fails new refusal (inr (read, more, why)) =
        let P : List (List ℕ) → Type 0 = λ names. IsRefused (file_of (between b c) (length names) right) [] limit refusal read in
        right_refused (between a b) (between b c) parts loaded one left_solved read (more ∙ ap (λ names. names ++ read) all_read) (subst P all_read why)

    pub both_solved : (two : Taken) → ((other : Loaded) × IsSolved (file_of (between b c) (length middle) right) [] other two.checked two.plains) → AreSolved left right (between a c) one two
    both_solved two (other, also) =
        let P : List (List ℕ) → Type 0 = λ names. IsSolved (file_of (between b c) (length names) right) [] other two.checked two.plains in
        record {
          first = between a b;
          rest = between b c;
          are_parts = parts;
          left_loaded = loaded;
          right_loaded = other;
          is_left = left_solved;
          is_right = subst P all_read also;
        }
