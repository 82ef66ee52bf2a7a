-- What a reader may rely on.
use Rattle.std.specs.Prelude.{◌≡◌, ◌≢◌, ℕ, ◌<◌, ◌^◌, List, [], ◌++◌, All, AllPairs, length}
use Rattle.ms_dfa.specs.Files.{HasSignsOf, content_of_file}
use Rattle.ms_dfa.specs.declared.plain.Plain.{Plain}
use Rattle.ms_dfafile.specs.File.{IsFile, IsSpelled, names_of}
use Rattle.ms_logic_words.specs.Canonical.{IsCanonical}
use Rattle.ms_text.specs.Spelling.{Spells}
use Rattle.ms_text.specs.declared.token.Kind.TheVariants as kinds

-- bytes are the file of one content at most
abbrev pub BytesSpellOneContent : Type 0
BytesSpellOneContent = (bytes : List ℕ) (one other : Plain) → IsSpelled bytes one → IsSpelled bytes other → one ≡ other

-- no file goes on where another ends
abbrev pub NoFileBeginsAnother : Type 0
NoFileBeginsAnother = (bytes more : List ℕ) (one other : Plain) → IsSpelled bytes one → IsSpelled (bytes ++ more) other → more ≡ []

-- a canonical content with the signs of its version, whose variables have different names, and whose numbers have 32 bits, can be written
abbrev pub CanonicalContentsAreFiles : Type 0
CanonicalContentsAreFiles =
    (plain : Plain) → IsCanonical (content_of_file plain) → HasSignsOf plain.version (content_of_file plain) → All (Spells kinds.Name) (names_of plain) → AllPairs (λ one other. one ≢ other) (names_of plain)
    → length plain.variables < 2 ^ 32 → length plain.states < 2 ^ 32 → length plain.nodes < 2 ^ 32 → IsFile plain
