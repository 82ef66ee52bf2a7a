-- What is known while imports are taken one after the other: the contents of the files that were read, by their names.
use Rattle.std.specs.Prelude.{◌≡◌, ◌⊎◌, ℕ, if◌then◌else◌, bytes_eq, List, [], ◌∷◌, ◌++◌, Option, Some}
use Rattle.ms_dfafile_adopt.specs.Import.{IsImportable}
use Rattle.ms_dfa.specs.declared.plain.Plain.{Plain}
use Rattle.ms_edge.specs.declared.refusal.Refusal.{Refusal}
use Rattle.ms_edge.specs.declared.refusal.Refusal.TheVariants.{Nodes}
use Rattle.ms_edge.specs.Files.{Holding, Seen}
use Rattle.ms_dfafile_imports.specs.Adopted.{IsAdopted}
use Rattle.ms_dfafile_imports.specs.Imports.{IsHeld, IsMisfit, IsNoAutomaton, IsUnread}
use Rattle.ms_logic.specs.declared.checked.ImportUse.{ImportUse}
use Rattle.ms_logic.specs.declared.mode.Mode.{Mode}
use Rattle.ms_logic_words.specs.declared.sign.Sign.{Sign}
use Rattle.ms_logic_words.specs.Content.{Content}

-- what is noted for each name
abbrev pub Table : Type 0
Table = List ℕ → Option Plain

-- each content that is noted is that of the file of its name
abbrev pub AreHeld : Option Holding → Table → Type 0
AreHeld held table = (name : List ℕ) (plain : Plain) → table name ≡ Some plain → IsHeld held name plain

-- what was noted still is
abbrev pub AreKept : Table → Table → Type 0
AreKept old new = (name : List ℕ) (plain : Plain) → old name ≡ Some plain → new name ≡ Some plain

-- what is noted once a content is noted for a name
abbrev pub IsNoted : Table → Table → List ℕ → Plain → Type 0
IsNoted old new name plain = (n : List ℕ) → new n ≡ (if bytes_eq name n then Some plain else old n)

-- the import can be taken, by the content that is noted for its file, and this is its automaton
pub record IsTaken (limit : ℕ) (mode : Mode) (table : Table) (used : ImportUse) (content : Content Sign) : Type 0 where
  pub plain : Plain
  pub noted : table used.name ≡ Some plain
  pub importable : IsImportable plain mode used.pairs
  pub adopted : IsAdopted limit mode used plain content

-- its automaton stands behind those before
abbrev pub OneIsTaken : ℕ → Mode → Table → ImportUse → List (Content Sign) → List (Content Sign) → Type 0
OneIsTaken limit mode table used old new = (content : Content Sign) × (new ≡ old ++ content ∷ []) × IsTaken limit mode table used content

abbrev pub AreTaken : ℕ → Mode → Table → List ImportUse → List (Content Sign) → Type 0
AreTaken limit mode table [] [] = Unit {0}
AreTaken limit mode table [] (content ∷ contents) = ⊥
AreTaken limit mode table (used ∷ uses) [] = ⊥
AreTaken limit mode table (used ∷ uses) (content ∷ contents) = IsTaken limit mode table used content × AreTaken limit mode table uses contents

-- the contents that are noted for the files of imports
abbrev pub AreNoted : Table → List ImportUse → List Plain → Type 0
AreNoted table [] [] = Unit {0}
AreNoted table [] (plain ∷ plains) = ⊥
AreNoted table (used ∷ uses) [] = ⊥
AreNoted table (used ∷ uses) (plain ∷ plains) = (table used.name ≡ Some plain) × AreNoted table uses plains

-- the refusal of the import at a place, whose step has the number of the place
abbrev pub refused_at : ℕ → Refusal → Refusal
refused_at place (Nodes step limit) = Nodes place limit
refused_at place refusal = refusal

-- why the import at a place fails
abbrev pub IsRefusedAt : Seen → Mode → ℕ → ℕ → ImportUse → Refusal → Type 0
IsRefusedAt seen mode limit place used refusal =
    IsUnread seen used refusal ⊎ IsNoAutomaton seen.before.held used refusal ⊎ IsMisfit seen.before.held mode limit place used refusal
