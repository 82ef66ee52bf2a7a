-- The two files of a check: an automaton file, and its certificate beside it.
use Rattle.std.specs.Prelude.{◌≡◌, ℕ, ◌≤◌, List, ◌++◌, codes, length, Option, None}
use Rattle.ms_cert.specs.Text.{IsCertText}
use Rattle.ms_cert.specs.declared.cert.Cert.{Cert}
use Rattle.ms_dfa.specs.declared.plain.Plain.{Plain}
use Rattle.ms_dfafile.specs.File.{IsSpelled}
use Rattle.ms_edge.specs.Counts.{Rose}
use Rattle.ms_edge.specs.Files.{Holding, Holds, HoldsMoreThan, Lacks, Seen}
use Rattle.ms_edge.specs.declared.refusal.Refusal.{Refusal}
use Rattle.ms_edge.specs.declared.refusal.Refusal.TheVariants.{AutomatonText, CertText, FileMissing, FileSize, ReadFault}

-- the most bytes of each file
abbrev pub file_limit : ℕ
file_limit = 67108864

-- the name of the certificate of a file
abbrev pub cert_name : List ℕ → List ℕ
cert_name name = name ++ codes ".cert"

-- the bytes are those of the file, as far as its content is told, and not more than the limit
pub record AreBytes (held : Option Holding) (name bytes : List ℕ) : Type 0 where
  pub holds : Holds held name bytes
  pub within : length bytes ≤ file_limit

-- under the name stands the automaton file of the content
pub record IsAutomatonFile (held : Option Holding) (name : List ℕ) (plain : Plain) : Type 0 where
  pub bytes : List ℕ
  pub are : AreBytes held name bytes
  pub spelled : IsSpelled bytes plain

-- under the name of its certificate stands the text of the certificate
pub record IsCertFile (held : Option Holding) (name : List ℕ) (cert : Cert) : Type 0 where
  pub bytes : List ℕ
  pub are : AreBytes held (cert_name name) bytes
  pub text : IsCertText bytes cert

-- the file of this name was not read
abbrev pub IsUnread : Seen → List ℕ → Refusal → Type 0
IsUnread seen name (FileMissing at missing) = (at ≡ None) × (missing ≡ name) × Lacks seen.before.held name × Rose seen.before.absences seen.after.absences
IsUnread seen name (FileSize long limit) =
    (long ≡ name) × (limit ≡ file_limit) × HoldsMoreThan seen.before.held name file_limit × Rose seen.before.overlongs seen.after.overlongs
IsUnread seen name (ReadFault unread) = (unread ≡ name) × Rose seen.before.faults seen.after.faults
IsUnread seen name refusal = ⊥

-- it was read, and is no automaton file
pub record IsNoAutomaton (held : Option Holding) (name : List ℕ) (refusal : Refusal) : Type 0 where
  pub bytes : List ℕ
  pub are : AreBytes held name bytes
  pub none : (plain : Plain) → ¬ IsSpelled bytes plain
  pub is : refusal ≡ AutomatonText name

-- its certificate was read, and is none
pub record IsNoCert (held : Option Holding) (name : List ℕ) (refusal : Refusal) : Type 0 where
  pub bytes : List ℕ
  pub are : AreBytes held (cert_name name) bytes
  pub none : (cert : Cert) → ¬ IsCertText bytes cert
  pub is : refusal ≡ CertText (cert_name name)
