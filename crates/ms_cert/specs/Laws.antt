-- What a certificate shows of all automata, and of all words.
use Rattle.std.specs.Prelude.{◌≡◌, ℕ, ◌≤◌, List, length}
use Rattle.ms_list.specs.declared.word.Word.{Word}
use Rattle.ms_dfa.specs.Files.{content_of_file}
use Rattle.ms_dfa.specs.declared.plain.FileSign.{FileSign}
use Rattle.ms_dfa.specs.declared.plain.Plain.{Plain}
use Rattle.ms_dfafile.specs.File.{IsFile}
use Rattle.ms_logic_words.specs.Content.{Content, IsContent, IsWordOver, sign_of}
use Rattle.ms_cert.specs.Certificate.{IsCertified}
use Rattle.ms_cert.specs.ShortestWords.{AreShortest}
use Rattle.ms_cert.specs.Text.{IsCertText}
use Rattle.ms_cert.specs.declared.cert.Cert.{Cert}

-- two contents have one mode and the same variables, and give each word one sign
pub record HaveSameWords (one other : Content FileSign) : Type 0 where
  pub mode : one.mode ≡ other.mode
  pub variables : one.variables ≡ other.variables
  pub signs : (word : Word) → IsWordOver one.variables word → sign_of one word ≡ sign_of other word

-- no content that gives each word the same sign has fewer states than one that is certified
abbrev pub CertifiedHaveFewestStates : Type 0
CertifiedHaveFewestStates =
    (plain : Plain) (cert : Cert) (other : Content FileSign) → IsCertified plain cert → IsContent other → HaveSameWords (content_of_file plain) other
    → length plain.states ≤ length other.states

-- the words of a certificate that certifies a file are shortest words to its states
abbrev pub CertifiedWordsAreShortest : Type 0
CertifiedWordsAreShortest =
    (plain : Plain) (cert : Cert) → IsFile plain → IsCertified plain cert → AreShortest (content_of_file plain) cert.words

-- bytes are the text of one certificate at most
abbrev pub BytesSpellOneCertificate : Type 0
BytesSpellOneCertificate = (bytes : List ℕ) (one other : Cert) → IsCertText bytes one → IsCertText bytes other → one ≡ other
