-- One file of a source: what it reads as, or why it is refused.
use Rattle.std.specs.Prelude.{◌≡◌, ℕ, ◌≤◌, ◌⊎◌, true, List, length, Option}
use Rattle.ms_edge.specs.Counts.{Rose}
use Rattle.ms_edge.specs.Files.{Holding, Holds, Lacks, HoldsMoreThan, Seen}
use Rattle.ms_list.specs.declared.at.At.{At}
use Rattle.ms_edge.specs.declared.refusal.Refusal.{Refusal}
use Rattle.ms_edge.specs.declared.refusal.Refusal.TheVariants.{FileMissing, FileSize, ReadFault}
use Rattle.ms_text.specs.declared.token.Token.{Token}
use Rattle.ms_text.specs.Fault.{IsCause}
use Rattle.ms_text.specs.TokenList.{IsTokenList}
use Rattle.ms_logic.specs.declared.source.Source.{Source}
use Rattle.ms_parse_grammar.specs.Declarations.{ReadsAs}
use Rattle.ms_parse.specs.Refused.{IsGrammarFault}

-- the most bytes of a source file
abbrev pub source_limit : ℕ
source_limit = 1048576

-- the bytes are those of the file, as far as its content is told, and not more than a source file may have
pub record AreBytes (held : Option Holding) (name bytes : List ℕ) : Type 0 where
  pub holds : Holds held name bytes
  pub within : length bytes ≤ source_limit

-- the bytes of the file with this number read as the source
pub record ReadAs (number : ℕ) (bytes : List ℕ) (source : Source) : Type 0 where
  pub tokens : List Token
  pub are_tokens : IsTokenList 0 bytes tokens
  pub reads : ReadsAs true number (record { bytes = bytes; tokens = tokens }) source

-- the bytes of the file with this number have no tokens, or tokens that no source has
abbrev pub ReadAsNone : ℕ → List ℕ → Refusal → Type 0
ReadAsNone number bytes refusal =
    IsCause number bytes refusal
    ⊎ ((tokens : List Token) × IsTokenList 0 bytes tokens × IsGrammarFault number (record { bytes = bytes; tokens = tokens }) refusal)

-- the file of this name, which has this number, reads as the source
abbrev pub IsSource : Option Holding → ℕ → List ℕ → Source → Type 0
IsSource held number name source = (bytes : List ℕ) × AreBytes held name bytes × ReadAs number bytes source

-- the file was read, and reads as no source
abbrev pub IsNoSource : Option Holding → ℕ → List ℕ → Refusal → Type 0
IsNoSource held number name refusal = (bytes : List ℕ) × AreBytes held name bytes × ReadAsNone number bytes refusal

-- the file of this name, which is named at this place, was not read
abbrev pub IsUnread : Seen → Option At → List ℕ → Refusal → Type 0
IsUnread seen named name (FileMissing at missing) =
    (at ≡ named) × (missing ≡ name) × Lacks seen.before.held name × Rose seen.before.absences seen.after.absences
IsUnread seen named name (FileSize long limit) =
    (long ≡ name) × (limit ≡ source_limit) × HoldsMoreThan seen.before.held name source_limit × Rose seen.before.overlongs seen.after.overlongs
IsUnread seen named name (ReadFault unread) = (unread ≡ name) × Rose seen.before.faults seen.after.faults
IsUnread seen named name refusal = ⊥
