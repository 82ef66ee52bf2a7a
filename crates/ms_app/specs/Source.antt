-- Where the source of a request comes from, and when it is one that can be solved.
use Rattle.std.specs.Prelude.{◌≡◌, ℕ, List, [], ◌∷◌, All, Contains, map, slice_get, take, Option, Some, None}
use Rattle.ms_dfa.specs.declared.plain.Plain.{Plain}
use Rattle.ms_edge.specs.declared.refusal.Refusal.{Refusal}
use Rattle.ms_edge.specs.declared.refusal.Refusal.TheVariants.{Twice, Nodes, Memory}
use Rattle.ms_edge.specs.Files.{Seen}
use Rattle.ms_dfafile_imports.specs.Adopted.{AreAdopted}
use Rattle.ms_dfafile_imports.specs.Imports.{AreImported, IsUnimported, answers_by}
use Rattle.ms_include.specs.Load.{files_of, IsLoaded, IsLoadedText, IsRefusedLoad, IsRefusedText}
use Rattle.ms_logic.specs.declared.checked.Checked.{Checked}
use Rattle.ms_logic.specs.declared.checked.ExportUse.{ExportUse}
use Rattle.ms_logic.specs.declared.checked.ImportUse.{ImportUse}
use Rattle.ms_logic.specs.declared.mode.Mode.{Mode}
use Rattle.ms_logic.specs.declared.source.Loaded.{Loaded}
use Rattle.ms_logic.specs.Verdict.{Problem}
use Rattle.ms_logic.specs.View.{Answers, problem_of}
use Rattle.ms_names_rules.specs.Checking.{IsFirstFault}
use Rattle.ms_names_rules.specs.Declarations.{first_fault_of}
use Rattle.ms_names_rules.specs.TypedSource.{IsTyped}
use Rattle.ms_parse_grammar.specs.View.{declared_of}
use Rattle.ms_build_source.specs.Limits.{IsUnsolved, IsWithinLimits}
use Rattle.ms_dfafile_imports.specs.Enough.{contents_of}
use Rattle.ms_source_steps.specs.Enough.{IsEnoughFor}
use Rattle.ms_source_steps.specs.Laws.{IsBelowNumbered, IsBelowSource}
use Rattle.ms_logic_words.specs.Content.{Content}
use Rattle.ms_logic_words.specs.declared.sign.Sign.{Sign}

-- What a text loads as, and how it is refused, with the files of its own that were read by then; and what the files hold that it imports, and
-- why one of them is not taken under a limit on nodes and states.
pub record Origin : Type 1 where
  pub Loads : Loaded → Type 0
  pub IsRefused : Refusal → List (List ℕ) → Type 0
  pub Imports : Mode → List ImportUse → List Plain → Type 0
  pub IsUnimported : Mode → ℕ → List ImportUse → Refusal → Type 0

-- the file of this name, with its includes put in place; its number is `base`
abbrev pub file_of : Seen → ℕ → List ℕ → Origin
file_of seen base name = record {
  Loads = IsLoaded (files_of seen base) name;
  IsRefused = IsRefusedLoad (files_of seen base) name;
  Imports = AreImported seen.before.held;
  IsUnimported = IsUnimported seen;
}

-- a text by itself, under a name of its own, which imports nothing
abbrev pub text_of : List ℕ → List ℕ → Origin
text_of name bytes = record {
  Loads = IsLoadedText name bytes;
  IsRefused = λ refusal read. IsRefusedText bytes refusal × (read ≡ name ∷ []);
  Imports = λ mode uses plains. (uses ≡ []) × (plains ≡ []);
  IsUnimported = λ mode limit uses refusal. ⊥;
}

-- the answers of the imports of a checked source, where their files have these contents; and the problem that the source stands for
abbrev pub answers_with : Checked → List Plain → Answers
answers_with checked plains = answers_by checked.imports plains

abbrev pub problem_with : Checked → List Plain → Problem
problem_with checked plains = problem_of checked (answers_with checked plains)

-- it is loaded as a source in which nothing is wrong, and this is its typed tree
pub record IsAccepted (origin : Origin) (loaded : Loaded) (checked : Checked) : Type 0 where
  pub is_loaded : origin.Loads loaded
  pub accepted : first_fault_of loaded.mode (map declared_of loaded.items) ≡ None
  pub typed : IsTyped loaded checked

-- the name that a request gives the file of the automaton of the main value, if it gives one, in a list
abbrev pub names_for : Option (List ℕ) → List (List ℕ)
names_for None = []
names_for (Some out) = out ∷ []

-- no export has one of the names that a request gives to files of its own
abbrev pub AreOutsFree : List (List ℕ) → List ExportUse → Type 0
AreOutsFree outs exports = All (λ used. ¬ Contains outs used.name) exports

-- an export has one of these names: the refusal stands at the first that has
pub record IsOutTaken (outs : List (List ℕ)) (exports : List ExportUse) (refusal : Refusal) : Type 0 where
  pub place : ℕ
  pub used : ExportUse
  pub here : slice_get exports place ≡ Some used
  pub first : AreOutsFree outs (take place exports)
  pub taken : Contains outs used.name
  pub is : refusal ≡ Twice used.at used.name

-- the files of its imports have these contents, and can be imported
pub record IsTaken (origin : Origin) (outs : List (List ℕ)) (loaded : Loaded) (checked : Checked) (plains : List Plain) : Type 0 where
  pub is : IsAccepted origin loaded checked
  pub free : AreOutsFree outs checked.exports
  pub imported : origin.Imports checked.mode checked.imports plains

-- and it is within the limits
pub record IsSolved (origin : Origin) (outs : List (List ℕ)) (loaded : Loaded) (checked : Checked) (plains : List Plain) : Type 0 where
  pub is : IsTaken origin outs loaded checked plains
  pub within : IsWithinLimits (problem_with checked plains)

-- The source is refused before anything is imported, and these are its files that the refusal may number.
pub data IsUnaccepted (origin : Origin) (refusal : Refusal) (read : List (List ℕ)) : Type 0 where
  -- it cannot be loaded
  not_loaded : (why : origin.IsRefused refusal read) → IsUnaccepted origin refusal read
  -- it is loaded, and has a fault of names, orders, numbers or places, of which this is the first
  faulty : (loaded : Loaded) (is_loaded : origin.Loads loaded) (all : read ≡ loaded.files) (why : IsFirstFault loaded refusal) → IsUnaccepted origin refusal read

-- the limit is enough for the source, whose imports have files with these contents: it is at least each budget of each of its steps
abbrev pub IsEnoughWith : Checked → List Plain → ℕ → Type 0
IsEnoughWith checked plains limit = IsEnoughFor checked (answers_with checked plains) (contents_of checked.imports plains) limit

-- for want of nodes alone: the limit is below each budget of the step that the refusal names by its number, which is a step of the source,
-- and so it is not enough for the source
abbrev pub IsBelowBudgets : Checked → List Plain → ℕ → Refusal → Type 0
IsBelowBudgets checked plains limit refusal =
    (step : ℕ) → refusal ≡ Nodes step limit
    → IsBelowNumbered checked (answers_with checked plains) limit step
    × IsBelowSource checked (answers_with checked plains) limit
    × ¬ IsEnoughWith checked plains limit

-- The source is refused under a limit on the nodes and states of a step.
pub data IsRefused (origin : Origin) (outs : List (List ℕ)) (limit : ℕ) (refusal : Refusal) (read : List (List ℕ)) : Type 0 where
  -- before anything is imported
  unaccepted : (why : IsUnaccepted origin refusal read) → IsRefused origin outs limit refusal read
  -- nothing is wrong in it, and it exports a file of a name that the request gives to one of its own
  out_taken : (loaded : Loaded) (checked : Checked) (is : IsAccepted origin loaded checked) (all : read ≡ loaded.files) (why : IsOutTaken outs checked.exports refusal)
      → IsRefused origin outs limit refusal read
  -- a file that it imports cannot be taken
  unimported : (loaded : Loaded) (checked : Checked) (is : IsAccepted origin loaded checked) (free : AreOutsFree outs checked.exports) (all : read ≡ loaded.files)
      (why : origin.IsUnimported checked.mode limit checked.imports refusal) → IsRefused origin outs limit refusal read
  -- all are taken, and it is not solved over the automata of its imports: they answer what the files say, and are within the limit; if nodes
  -- are wanting, the limit is below the budgets of a step, and not enough for the source
  unsolved : (loaded : Loaded) (checked : Checked) (plains : List Plain) (is : IsTaken origin outs loaded checked plains) (all : read ≡ loaded.files)
      (contents : List (Content Sign)) (adopted : AreAdopted limit checked.mode checked.imports plains contents)
      (why : IsUnsolved checked (answers_by checked.imports plains) contents limit refusal)
      (below : IsBelowBudgets checked plains limit refusal) → IsRefused origin outs limit refusal read
  -- want of memory needs no cause
  no_memory : (why : refusal ≡ Memory) → IsRefused origin outs limit refusal read
