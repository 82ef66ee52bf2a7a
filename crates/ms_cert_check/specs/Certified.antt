-- An automaton file and a certificate of it, by their bytes.
use Rattle.std.specs.Prelude.{ℕ, List}
use Rattle.ms_cert.specs.Certificate.{IsCertified}
use Rattle.ms_cert.specs.Text.{IsCertText}
use Rattle.ms_cert.specs.declared.cert.Cert.{Cert}
use Rattle.ms_dfa.specs.Files.{content_of_file}
use Rattle.ms_dfa.specs.declared.plain.Plain.{Plain}
use Rattle.ms_dfafile.specs.File.{IsSpelled}
use Rattle.ms_logic_words.specs.Canonical.{IsCanonical}

-- the bytes are an automaton file with a canonical content
pub record IsCanonicalFile (automaton : List ℕ) : Type 0 where
  pub plain : Plain
  pub spelled : IsSpelled automaton plain
  pub canonical : IsCanonical (content_of_file plain)

-- the bytes are the text of a certificate that certifies the automaton file with those bytes
pub record IsCertificateOf (automaton certificate : List ℕ) : Type 0 where
  pub plain : Plain
  pub spelled : IsSpelled automaton plain
  pub cert : Cert
  pub text : IsCertText certificate cert
  pub certified : IsCertified plain cert
