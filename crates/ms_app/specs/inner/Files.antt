-- Automaton files that are made, and what can be written as one.
use Rattle.std.specs.Prelude.{◌≡◌, ℕ, ◌+◌, ◌-◌, ◌≤◌, List, [], ◌∷◌, ◌++◌, All, Contains, Option, Some, None, length, map, slice_get}
use Rattle.ms_dfa.specs.Files.{HasSignsOf, content_of_file}
use Rattle.ms_cert_check.specs.Certified.{IsCertificateOf}
use Rattle.ms_names_checked.specs.Names.{AreDifferent}
use Rattle.ms_dfa.specs.declared.plain.Plain.{Plain}
use Rattle.ms_dfafile.specs.File.{IsSpelled, names_of}
use Rattle.ms_logic.specs.declared.checked.ExportUse.{ExportUse}
use Rattle.ms_logic_words.specs.Canonical.{IsCanonical}
use Rattle.ms_logic.specs.Lists.{Each}
use Rattle.ms_text.specs.Spelling.{Spells}
use Rattle.ms_text.specs.declared.token.Kind.TheVariants as kinds
use Rattle.ms_app.specs.Written.{File}
use Rattle.ms_app.specs.declared.files.AutomatonFile.{AutomatonFile}

-- the names and the bytes of files
abbrev pub pairs_of : List AutomatonFile → List File
pairs_of files = map (λ file. (file.name, file.bytes)) files

-- different names of the language
pub record AreNames (names : List (List ℕ)) : Type 0 where
  pub spelled : All (Spells kinds.Name) names
  pub different : AreDifferent names

-- a canonical content under such names, with the signs of its version, and with states and nodes that have numbers of 32 bits
pub record IsWritable (plain : Plain) : Type 0 where
  pub names : AreNames (names_of plain)
  pub canonical : IsCanonical (content_of_file plain)
  pub signs : HasSignsOf plain.version (content_of_file plain)
  pub small : length plain.nodes + length plain.states ≤ 4000000000

abbrev pub AreWritable : List Plain → Type 0
AreWritable plains = Each IsWritable plains

-- the files of contents, under the names of exports
abbrev pub AreSpelled : List ExportUse → List Plain → List File → Type 0
AreSpelled [] [] [] = Unit {0}
AreSpelled (used ∷ uses) (plain ∷ plains) (file ∷ files) = ((file.0 ≡ used.name) × IsSpelled file.1 plain) × AreSpelled uses plains files
AreSpelled uses plains files = ⊥

-- files, with that of the main value behind them where one is asked for
abbrev pub IsWithMain : List File → Option (List ℕ) → Plain → List File → Type 0
IsWithMain files None plain more = more ≡ files
IsWithMain files (Some out) plain more = (bytes : List ℕ) × (more ≡ files ++ (out, bytes) ∷ []) × IsSpelled bytes plain

-- no two files have one name
abbrev pub HaveOwnNames : List File → Type 0
HaveOwnNames files = AreDifferent (map (λ file. file.0) files)

-- a name is among these, if there is one
abbrev pub IsAmongNames : Option (List ℕ) → List (List ℕ) → Type 0
IsAmongNames None names = Unit {0}
IsAmongNames (Some name) names = Contains names name

-- the last of some files
abbrev pub IsLast : List File → File → Type 0
IsLast files last = slice_get files (length files - 1) ≡ Some last

-- files, and behind them a certificate of the last one under this name
pub record IsWithCertificate (files : List File) (name : List ℕ) (more : List File) : Type 0 where
  pub last : File
  pub is_last : IsLast files last
  pub certificate : List ℕ
  pub certifies : IsCertificateOf last.1 certificate
  pub all : more ≡ files ++ (name, certificate) ∷ []
