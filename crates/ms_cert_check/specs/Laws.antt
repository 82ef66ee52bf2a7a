-- Laws of a check.
use Rattle.std.specs.Prelude.{◌≡◌, ℕ, List, Some}
use Rattle.ms_edge.specs.Counts.{Rose}
use Rattle.ms_edge.specs.Files.{Holding, Seen}
use Rattle.ms_edge.specs.Refusal.{IsPlaced, place_of}
use Rattle.ms_edge.specs.declared.refusal.Refusal.{Refusal}
use Rattle.ms_edge.specs.declared.refusal.Refusal.TheVariants.{Memory}
use Rattle.ms_report.specs.Line.{HasLine}
use Rattle.ms_cert.specs.Proven.{IsProven}
use Rattle.ms_cert.specs.declared.cert.Proven.{Proven}
use Rattle.ms_dfa.specs.Files.{content_of_file}
use Rattle.ms_dfa.specs.declared.plain.Plain.{Plain}
use Rattle.ms_dfafile.specs.File.{IsSpelled}
use Rattle.ms_cert_check.specs.Certified.{IsCertificateOf}
use Rattle.ms_cert_check.specs.Check.{AreFewestStates, CanBeChecked, IsChecked, IsRefusedCheck, proven_text}
use Rattle.ms_cert_check.specs.Files.{cert_name}

-- each refusal has a line, and no place in a file
abbrev pub RefusalsHaveLines : Type 0
RefusalsHaveLines =
    (seen : Seen) (name : List ℕ) (refusal : Refusal) (files : List (List ℕ)) → IsRefusedCheck seen name refusal → HasLine refusal × IsPlaced (place_of refusal) files

-- where what the files hold is told and no read failed, a file that is there with a certificate is refused for want of memory alone
abbrev pub FilesWithCertificatesAreChecked : Type 0
FilesWithCertificatesAreChecked =
    (seen : Seen) (holding : Holding) (name : List ℕ) (refusal : Refusal)
    → seen.before.held ≡ Some holding → ¬ Rose seen.before.faults seen.after.faults → CanBeChecked seen.before.held name
    → IsRefusedCheck seen name refusal → refusal ≡ Memory

-- where a certificate of an automaton file stands beside it, a check prints what the certificate proves of the file
abbrev pub CertifiedFilesPass : Type 0
CertifiedFilesPass =
    (holding : Holding) (name automaton certificate text : List ℕ)
    → holding name ≡ Some automaton → holding (cert_name name) ≡ Some certificate → IsCertificateOf automaton certificate
    → IsChecked (Some holding) name text
    → (plain : Plain) × (proven : Proven) × IsSpelled automaton plain × IsProven (content_of_file plain) proven × AreFewestStates plain proven.states
    × (text ≡ proven_text proven)
