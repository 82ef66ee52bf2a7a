-- The automaton files that a source imports, as they were seen in a request.
use Rattle.std.specs.Prelude.{◌≡◌, ℕ, ◌≤◌, ◌⊎◌, List, [], ◌∷◌, length, map, slice_get, take, Option, Some}
use Rattle.std.specs.List.{zip}
use Rattle.ms_dfafile_adopt.specs.Import.{IsImportable, IsNotImportable, answer_of_file}
use Rattle.ms_dfafile_adopt_parts.specs.Laws.{IsBelowImport}
use Rattle.ms_dfa.specs.declared.plain.Plain.{Plain}
use Rattle.ms_dfafile.specs.File.{IsSpelled}
use Rattle.ms_edge.specs.declared.refusal.Refusal.{Refusal}
use Rattle.ms_edge.specs.declared.refusal.Refusal.TheVariants.{FileSize, ImportMissing, ImportText, Nodes, ReadFault}
use Rattle.ms_edge.specs.Counts.{Rose}
use Rattle.ms_edge.specs.Files.{Holding, Holds, HoldsMoreThan, Lacks, Seen}
use Rattle.ms_logic.specs.declared.checked.ImportUse.{ImportUse}
use Rattle.ms_logic.specs.declared.mode.Mode.{Mode}
use Rattle.ms_logic.specs.View.{Answers}

-- the most bytes of an automaton file that is read
abbrev pub automaton_limit : ℕ
automaton_limit = 67108864

-- under the name, as far as files are told, stands the automaton file of the content
pub record IsHeld (held : Option Holding) (name : List ℕ) (plain : Plain) : Type 0 where
  pub bytes : List ℕ
  pub holds : Holds held name bytes
  pub within : length bytes ≤ automaton_limit
  pub spelled : IsSpelled bytes plain

-- the content of the file of an import, which can be imported there
pub record IsImported (held : Option Holding) (mode : Mode) (used : ImportUse) (plain : Plain) : Type 0 where
  pub is_held : IsHeld held used.name plain
  pub importable : IsImportable plain mode used.pairs

-- the contents of the files of imports, one for each
abbrev pub EachImported : Option Holding → Mode → List ImportUse → List Plain → Type 0
EachImported held mode [] [] = Unit {0}
EachImported held mode [] (plain ∷ plains) = ⊥
EachImported held mode (used ∷ uses) [] = ⊥
EachImported held mode (used ∷ uses) (plain ∷ plains) = IsImported held mode used plain × EachImported held mode uses plains

-- imports of one file have one content: it is read once
abbrev pub HaveOneContent : List ImportUse → List Plain → Type 0
HaveOneContent uses plains =
    (i j : ℕ) (one other : ImportUse) (p q : Plain) → slice_get uses i ≡ Some one → slice_get uses j ≡ Some other → one.name ≡ other.name
    → slice_get plains i ≡ Some p → slice_get plains j ≡ Some q → p ≡ q

pub record AreImported (held : Option Holding) (mode : Mode) (uses : List ImportUse) (plains : List Plain) : Type 0 where
  pub each : EachImported held mode uses plains
  pub once : HaveOneContent uses plains

-- the answers of imports with these contents: their files' variables go by the names in the pairs
abbrev pub answers_by : List ImportUse → List Plain → Answers
answers_by uses plains = map (λ p. answer_of_file p.1 (map (λ pair. pair.name) p.0.pairs)) (zip uses plains)

-- the file of an import was not read
abbrev pub IsUnread : Seen → ImportUse → Refusal → Type 0
IsUnread seen used (ImportMissing at name) = (at ≡ used.at) × (name ≡ used.name) × Lacks seen.before.held used.name × Rose seen.before.absences seen.after.absences
IsUnread seen used (FileSize name limit) =
    (name ≡ used.name) × (limit ≡ automaton_limit) × HoldsMoreThan seen.before.held used.name automaton_limit × Rose seen.before.overlongs seen.after.overlongs
IsUnread seen used (ReadFault name) = (name ≡ used.name) × Rose seen.before.faults seen.after.faults
IsUnread seen used refusal = ⊥

-- it was read, and is no automaton file
abbrev pub IsNoAutomaton : Option Holding → ImportUse → Refusal → Type 0
IsNoAutomaton held used (ImportText at name) =
    (at ≡ used.at) × (name ≡ used.name)
    × ((bytes : List ℕ) × Holds held used.name bytes × (length bytes ≤ automaton_limit) × ((plain : Plain) → ¬ IsSpelled bytes plain))
IsNoAutomaton held used refusal = ⊥

-- why a file cannot be taken for the import at a place: where its step would have more nodes and states than the limit, the refusal
-- names the step by the place of the import, and the limit is below each budget of it
abbrev pub IsNotTaken : Plain → ImportUse → Mode → ℕ → ℕ → Refusal → Type 0
IsNotTaken plain used mode limit place (Nodes step named) = (step ≡ place) × IsNotImportable plain used mode limit (Nodes 0 named) × IsBelowImport mode plain used.pairs limit
IsNotTaken plain used mode limit place refusal = IsNotImportable plain used mode limit refusal

-- it is one, and cannot be imported there under a limit on nodes and states
abbrev pub IsMisfit : Option Holding → Mode → ℕ → ℕ → ImportUse → Refusal → Type 0
IsMisfit held mode limit place used refusal = (plain : Plain) × IsHeld held used.name plain × IsNotTaken plain used mode limit place refusal

-- The first import that fails: those before it are taken, and it is not.
pub record IsUnimported (seen : Seen) (mode : Mode) (limit : ℕ) (uses : List ImportUse) (refusal : Refusal) : Type 0 where
  pub place : ℕ
  pub used : ImportUse
  pub here : slice_get uses place ≡ Some used
  pub earlier : List Plain
  pub taken : AreImported seen.before.held mode (take place uses) earlier
  pub why : IsUnread seen used refusal ⊎ IsNoAutomaton seen.before.held used refusal ⊎ IsMisfit seen.before.held mode limit place used refusal
