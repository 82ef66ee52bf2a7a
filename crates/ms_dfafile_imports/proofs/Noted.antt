-- One content more is noted.
use Rattle.std.proofs.Common.{◌≡◌, List, ℕ, Option, Some, Result, Ok, Err, OnOk, if◌then◌else◌, ⊎_elim, sym, ap, ◌∙◌, subst}
use Rattle.std.specs.Str.{bytes_eq}
use Rattle.std.proofs.lemmas.Bool.{cases_Bool}
use Rattle.std.proofs.lemmas.Option.{same_Some}
use Rattle.std.proofs.lemmas.Slice.Eq.{bytes_eq-Decides}
use Rattle.ms_dfa.specs.declared.plain.Plain.{Plain}
use Rattle.ms_edge.specs.Files.{Holding}
use Rattle.ms_dfafile_imports.specs.Imports.{IsHeld}
use Rattle.ms_dfafile_imports.specs.inner.Taken.{AreHeld, IsNoted, Table}

module _ (held : Option Holding) (old new : Table) (name : List ℕ) (plain : Plain) where
  held-more : AreHeld held old → IsHeld held name plain → IsNoted old new name plain → AreHeld held new
  held-more were is noted n found at = ⊎_elim
      (λ same.
      let named : name ≡ n = (bytes_eq-Decides name n).0 same in
      let own : plain ≡ found = same_Some plain found (sym (noted n ∙ ap (λ test. if test then Some plain else old n) same) ∙ at) in
      subst (λ k. IsHeld held k found) named (subst (IsHeld held name) own is))
      (λ differs. were n found (sym (noted n ∙ ap (λ test. if test then Some plain else old n) differs) ∙ at))
      (cases_Bool (bytes_eq name n))

  -- where it is noted at all
  pub held-noted : {T E : Type 0} (result : Result T E) → AreHeld held old → IsHeld held name plain → OnOk result (IsNoted old new name plain) → OnOk result (AreHeld held new)
  held-noted (Ok done) were is noted = held-more were is noted
  held-noted (Err refusal) were is noted = tt
