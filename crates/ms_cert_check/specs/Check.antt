-- What a check prints, and why it is refused.
use Rattle.std.specs.Prelude.{◌≡◌, ℕ, ◌≤◌, List, ◌++◌, codes, length, Option, Some, None}
use Rattle.std.specs.Fmt.{decimal}
use Rattle.ms_cert.specs.Certificate.{IsCertified}
use Rattle.ms_cert.specs.Laws.{HaveSameWords}
use Rattle.ms_cert.specs.Proven.{IsProven}
use Rattle.ms_cert.specs.declared.cert.Cert.{Cert}
use Rattle.ms_cert.specs.declared.cert.Proven.{Proven}
use Rattle.ms_dfa.specs.Files.{content_of_file}
use Rattle.ms_dfa.specs.declared.plain.FileSign.{FileSign}
use Rattle.ms_dfa.specs.declared.plain.Plain.{Plain}
use Rattle.ms_edge.specs.Files.{Holding, Seen}
use Rattle.ms_edge.specs.declared.refusal.Refusal.{Refusal}
use Rattle.ms_edge.specs.declared.refusal.Refusal.TheVariants.{Memory}
use Rattle.ms_logic_words.specs.Content.{Content, IsContent}
use Rattle.ms_cert_check.specs.Files.{IsAutomatonFile, IsCertFile, IsNoAutomaton, IsNoCert, IsUnread, cert_name}

-- the line of the length of a shortest word, or that there is none
abbrev pub length_line : List ℕ → Option ℕ → List ℕ
length_line word None = codes "no " ++ word ++ codes "\n"
length_line word (Some count) = word ++ codes " length " ++ decimal count ++ codes "\n"

-- what is printed of what a certificate proves, and where it certifies nothing
abbrev pub proven_text : Proven → List ℕ
proven_text proven =
    codes "yes\nstates " ++ decimal proven.states ++ codes "\n" ++ length_line (codes "example") proven.plus ++ length_line (codes "counterexample") proven.minus

abbrev pub check_text : Option Proven → List ℕ
check_text None = codes "no\n"
check_text (Some proven) = proven_text proven

-- no content of the same mode and variables that gives each word the same sign has fewer states
abbrev pub AreFewestStates : Plain → ℕ → Type 0
AreFewestStates plain states = (other : Content FileSign) → IsContent other → HaveSameWords (content_of_file plain) other → states ≤ length other.states

-- what a check of a file with a certificate finds: nothing, where the certificate certifies nothing; else how many states there are, which are
-- the fewest, and how long its shortest words are
abbrev pub IsFinding : Plain → Cert → Option Proven → Type 0
IsFinding plain cert None = ¬ IsCertified plain cert
IsFinding plain cert (Some proven) = IsCertified plain cert × IsProven (content_of_file plain) proven × AreFewestStates plain proven.states

-- both files are there, and the text says what is found
pub record IsChecked (held : Option Holding) (name text : List ℕ) : Type 0 where
  pub plain : Plain
  pub automaton : IsAutomatonFile held name plain
  pub cert : Cert
  pub certificate : IsCertFile held name cert
  pub found : Option Proven
  pub finding : IsFinding plain cert found
  pub printed : text ≡ check_text found

-- a check of the file of this name is refused: the first of both files that is not read, or is none of its kind
pub data IsRefusedCheck (seen : Seen) (name : List ℕ) (refusal : Refusal) : Type 0 where
  unread : (why : IsUnread seen name refusal) → IsRefusedCheck seen name refusal
  no_automaton : (why : IsNoAutomaton seen.before.held name refusal) → IsRefusedCheck seen name refusal
  unread_cert : (plain : Plain) (automaton : IsAutomatonFile seen.before.held name plain) (why : IsUnread seen (cert_name name) refusal) → IsRefusedCheck seen name refusal
  no_cert : (plain : Plain) (automaton : IsAutomatonFile seen.before.held name plain) (why : IsNoCert seen.before.held name refusal) → IsRefusedCheck seen name refusal
  -- want of memory needs no cause
  no_memory : (why : refusal ≡ Memory) → IsRefusedCheck seen name refusal

-- both files are there
pub record CanBeChecked (held : Option Holding) (name : List ℕ) : Type 0 where
  pub plain : Plain
  pub automaton : IsAutomatonFile held name plain
  pub cert : Cert
  pub certificate : IsCertFile held name cert
