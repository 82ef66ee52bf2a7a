-- A file is found certified beside a certificate of it.
use Rattle.std.proofs.Common.{◌≡◌, ℕ, List, Option, Some, None, sym, subst, ◌∙◌}
use Rattle.std.proofs.lemmas.Option.{same_Some}
use Rattle.ms_cert.specs.Certificate.{IsCertified}
use Rattle.ms_cert.specs.Proven.{IsProven}
use Rattle.ms_cert.specs.Text.{IsCertText}
use Rattle.ms_cert.specs.declared.cert.Cert.{Cert}
use Rattle.ms_cert.specs.declared.cert.Proven.{Proven}
use Rattle.ms_cert.proofs.PartsLemmas.{one_cert}
use Rattle.ms_dfa.specs.Files.{content_of_file}
use Rattle.ms_dfa.specs.declared.plain.Plain.{Plain}
use Rattle.ms_dfafile.specs.File.{IsSpelled}
use Rattle.ms_dfafile.proofs.FileLemmas.{one_content}
use Rattle.ms_logic_words.specs.Canonical.{IsCanonical}
use Rattle.ms_cert_check.specs.Certified.{IsCanonicalFile}
use Rattle.ms_cert_check.specs.Check.{AreFewestStates, IsFinding, check_text, proven_text}
use Rattle.ms_cert_check.specs.Laws.{CertifiedFilesPass}

-- what is read of a canonical file is canonical
pub canonical_read : (automaton : List ℕ) (is : IsCanonicalFile automaton) (plain : Plain) → IsSpelled automaton plain → IsCanonical (content_of_file plain)
canonical_read automaton is plain spelled =
    subst (λ (p : Plain). IsCanonical (content_of_file p)) (one_content automaton is.plain plain is.spelled spelled) is.canonical

-- a certificate that certifies finds what it proves
proves : (plain : Plain) (cert : Cert) (found : Option Proven) (text : List ℕ) → IsCertified plain cert → IsFinding plain cert found → text ≡ check_text found
    → (proven : Proven) × IsProven (content_of_file plain) proven × AreFewestStates plain proven.states × (text ≡ proven_text proven)
proves plain cert None text certified finding printed = absurd (finding certified)
proves plain cert (Some proven) text certified finding printed = (proven, finding.1, finding.2, printed)

pub passed : CertifiedFilesPass
passed holding name automaton certificate text held held_beside is checked =
    let own : checked.automaton.bytes ≡ automaton = same_Some checked.automaton.bytes automaton (sym checked.automaton.are.holds ∙ held) in
    let beside : checked.certificate.bytes ≡ certificate = same_Some checked.certificate.bytes certificate (sym checked.certificate.are.holds ∙ held_beside) in
    let spelled = subst (λ bytes. IsSpelled bytes checked.plain) own checked.automaton.spelled in
    let same_plain : is.plain ≡ checked.plain = one_content automaton is.plain checked.plain is.spelled spelled in
    let same_cert : is.cert ≡ checked.cert = one_cert certificate is.cert checked.cert is.text (subst (λ bytes. IsCertText bytes checked.cert) beside checked.certificate.text) in
    let certified = subst (λ cert. IsCertified checked.plain cert) same_cert (subst (λ plain. IsCertified plain is.cert) same_plain is.certified) in
    let found = proves checked.plain checked.cert checked.found text certified checked.finding checked.printed in
    (checked.plain, found.0, spelled, found.1, found.2, found.3)
