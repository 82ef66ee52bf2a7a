-- What is written where a source is certified.
use Rattle.std.specs.Prelude.{◌≡◌, ℕ, false, List, [], ◌∷◌, ◌++◌, Contains, Some}
use Rattle.ms_cert_check.specs.Certified.{IsCertificateOf}
use Rattle.ms_cert_check.specs.Files.{cert_name}
use Rattle.ms_dfa.specs.declared.plain.FileVersion.TheVariants.{Two}
use Rattle.ms_report.specs.Report.{report_of}
use Rattle.ms_report.specs.declared.found.Found.{Found}
use Rattle.ms_app.specs.Decision.{IsDecided}
use Rattle.ms_app.specs.Source.{Origin}
use Rattle.ms_app.specs.Written.{File}

-- the names of the file of the main value and of its certificate, which no export may have
abbrev pub names_to_certify : List ℕ → List (List ℕ)
names_to_certify name = name ∷ cert_name name ∷ []

-- The source is decided as where the file of its main value is asked for under this name, and the text is the report on it. Behind its
-- automaton files stands a certificate of the one of this name.
pub record IsCertification (origin : Origin) (name text : List ℕ) (written : List File) : Type 0 where
  pub found : Found
  pub files : List File
  pub is : IsDecided origin (names_to_certify name) (Some name) false Two found files
  pub printed : text ≡ report_of found
  pub automaton : List ℕ
  pub among : Contains files (name, automaton)
  pub certificate : List ℕ
  pub certifies : IsCertificateOf automaton certificate
  pub all : written ≡ files ++ (cert_name name, certificate) ∷ []
