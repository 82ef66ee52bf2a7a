-- A file that is there with a certificate is refused for want of memory alone, where nothing outside fails.
use Rattle.std.proofs.Common.{◌≡◌, ℕ, List, length, Some, sym, ap, subst, ◌∙◌, arith}
use Rattle.std.proofs.lemmas.Option.{none-some, same_Some}
use Rattle.ms_cert.specs.Text.{IsCertText}
use Rattle.ms_dfafile.specs.File.{IsSpelled}
use Rattle.ms_edge.specs.Counts.{Rose}
use Rattle.ms_edge.specs.Files.{Holding, Holds, HoldsMoreThan, Lacks, Seen}
use Rattle.ms_edge.specs.declared.refusal.Refusal.{Refusal}
use Rattle.ms_edge.specs.declared.refusal.Refusal.TheVariants.{Memory}
use Rattle.ms_edge.specs.declared.refusal.Refusal.TheVariants as refusals
use Rattle.ms_cert_check.specs.Check.{no_automaton, no_cert, no_memory, unread, unread_cert}
use Rattle.ms_cert_check.specs.Files.{AreBytes, IsUnread, cert_name, file_limit}
use Rattle.ms_cert_check.specs.Laws.{FilesWithCertificatesAreChecked}

module _ (seen : Seen) (holding : Holding) (told : seen.before.held ≡ Some holding) (works : Rose seen.before.faults seen.after.faults → ⊥)
    (name bytes : List ℕ) (are : AreBytes seen.before.held name bytes) where
  held_there : (others : List ℕ) → AreBytes seen.before.held name others → holding name ≡ Some others
  held_there others is = subst (λ h. Holds h name others) told is.holds

  one_bytes : (others : List ℕ) → AreBytes seen.before.held name others → others ≡ bytes
  one_bytes others is = same_Some others bytes (sym (held_there others is) ∙ held_there bytes are)

  not_lacking : Lacks seen.before.held name → ⊥
  not_lacking lacks = none-some bytes (sym (subst (λ h. Lacks h name) told lacks) ∙ held_there bytes are)

  not_too_long : HoldsMoreThan seen.before.held name file_limit → ⊥
  not_too_long more =
      let found = subst (λ h. HoldsMoreThan h name file_limit) told more in
      let same : bytes ≡ found.0 = same_Some bytes found.0 (sym (held_there bytes are) ∙ found.1) in
      omega (arith, are.within, found.2, ap (λ l. length l) same)

  -- so it is read
  read : (refusal : Refusal) → IsUnread seen name refusal → refusal ≡ Memory
  read (refusals.FileMissing at missing) why = absurd (not_lacking why.2)
  read (refusals.FileSize long limit) why = absurd (not_too_long why.2)
  read (refusals.ReadFault other) why = absurd (works why.1)
  read refusal why = absurd why

pub checked : FilesWithCertificatesAreChecked
checked seen holding name refusal told works can (unread why) =
    read seen holding told works name can.automaton.bytes can.automaton.are refusal why
checked seen holding name refusal told works can (no_automaton why) =
    let same = one_bytes seen holding told works name can.automaton.bytes can.automaton.are why.bytes why.are in
    absurd (why.none can.plain (subst (λ (bytes : List ℕ). IsSpelled bytes can.plain) (sym same) can.automaton.spelled))
checked seen holding name refusal told works can (unread_cert plain automaton why) =
    read seen holding told works (cert_name name) can.certificate.bytes can.certificate.are refusal why
checked seen holding name refusal told works can (no_cert plain automaton why) =
    let same = one_bytes seen holding told works (cert_name name) can.certificate.bytes can.certificate.are why.bytes why.are in
    absurd (why.none can.cert (subst (λ (bytes : List ℕ). IsCertText bytes can.cert) (sym same) can.certificate.text))
checked seen holding name refusal told works can (no_memory why) = why
