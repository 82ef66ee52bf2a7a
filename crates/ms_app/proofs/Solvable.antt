-- A source that can be solved is refused for want of memory alone, or of nodes under a limit that is not enough.
use Rattle.std.proofs.Common.{◌≡◌, ℕ, ◌⊎◌, inl, inr, List, [], sym, ap, ◌∙◌, subst, Contains}
use Rattle.std.proofs.lemmas.List.Elements.{All-contains}
use Rattle.ms_dfa.specs.declared.plain.Plain.{Plain}
use Rattle.ms_edge.specs.Counts.{Rose}
use Rattle.ms_edge.specs.Files.{Seen}
use Rattle.ms_edge.specs.declared.refusal.Refusal.{Refusal}
use Rattle.ms_edge.specs.declared.refusal.Refusal.TheVariants.{Memory, Nodes}
use Rattle.ms_dfafile_imports.specs.Imports.{AreImported, answers_by}
use Rattle.ms_dfafile_imports.proofs.Told.{imported-once, imported-refused}
use Rattle.ms_logic.specs.declared.checked.Checked.{Checked}
use Rattle.ms_logic_words.specs.Content.{Content}
use Rattle.ms_logic_words.specs.declared.sign.Sign.{Sign}
use Rattle.ms_logic.specs.declared.checked.ExportUse.{ExportUse}
use Rattle.ms_logic.specs.declared.checked.ImportUse.{ImportUse}
use Rattle.ms_logic.specs.declared.mode.Mode.{Mode}
use Rattle.ms_logic.specs.declared.source.Loaded.{Loaded}
use Rattle.ms_logic.specs.View.{problem_of, Answers}
use Rattle.ms_names_rules.specs.Checking.{IsFirstFault}
use Rattle.ms_names_rules.specs.TypedSource.{IsTyped}
use Rattle.ms_include_laws.specs.Told.{IsFromOutside, TellSame}
use Rattle.ms_include_laws.proofs.of_loads.Loads.{load_or_refused, one_load, one_text, text_or_refused}
use Rattle.ms_include_laws.proofs.of_loads.Typing.{one_problem}
use Rattle.ms_include_laws.proofs.of_loads.Verdicts.{no_first_fault, not_too_deep, not_too_large}
use Rattle.ms_build_source.specs.Limits as limits
use Rattle.ms_build_source.specs.Limits.{IsTooLarge, IsUnsolved, IsWithinLimits}
use Rattle.ms_app.specs.Source as sources
use Rattle.ms_app.specs.Completeness.{IsEnoughForOrigin}
use Rattle.ms_app.specs.Source.{IsAccepted, IsEnoughWith, AreOutsFree, IsOutTaken, IsRefused, IsSolved, IsUnaccepted, Origin, file_of, text_of}
use Rattle.ms_app.proofs.Outs.{held_contained}
use Rattle.ms_dfafile_imports.proofs.EnoughImports.{enough_imports_are_taken}

-- want of memory, or of nodes in a step
abbrev pub IsWant : ℕ → Refusal → Type 0
IsWant limit refusal = (refusal ≡ Memory) ⊎ ((step : ℕ) × (refusal ≡ Nodes step limit))

-- the same, and nodes are wanting only where the limit is not enough
abbrev pub IsWantUnder : Type 0 → ℕ → Refusal → Type 0
IsWantUnder Enough limit refusal = (refusal ≡ Memory) ⊎ (((step : ℕ) × (refusal ≡ Nodes step limit)) × (Enough → ⊥))

-- what one origin loads as and imports, the other does, and it is refused there for want of memory or of nodes alone
pub record Settles (origin other : Origin) : Type 0 where
  pub one_load : (one two : Loaded) → origin.Loads one → other.Loads two → one ≡ two
  pub loads : (loaded : Loaded) (refusal : Refusal) (read : List (List ℕ)) → origin.Loads loaded → other.IsRefused refusal read → refusal ≡ Memory
  pub one_content : (mode : Mode) (uses : List ImportUse) (plains others : List Plain) → origin.Imports mode uses plains → other.Imports mode uses others → plains ≡ others
  pub imports : (mode : Mode) (limit : ℕ) (uses : List ImportUse) (plains : List Plain) (refusal : Refusal) → origin.Imports mode uses plains → other.IsUnimported mode limit uses refusal → IsWant limit refusal
  pub same_imports : (mode : Mode) (uses : List ImportUse) (plains : List Plain) → origin.Imports mode uses plains → other.Imports mode uses plains
  pub no_lack : (checked : Checked) (plains : List Plain) (limit step : ℕ) → other.Imports checked.mode checked.imports plains → IsEnoughWith checked plains limit
      → other.IsUnimported checked.mode limit checked.imports (Nodes step limit) → ⊥

-- files and texts settle

memory_alone : (seen : Seen) (refusal : Refusal) → (Rose seen.before.faults seen.after.faults → ⊥) → IsFromOutside seen refusal → refusal ≡ Memory
memory_alone seen refusal works (inl memory) = memory
memory_alone seen refusal works (inr (name, is, rose)) = absurd (works rose)

pub files_settle : (seen other : Seen) → TellSame seen other → (Rose other.before.faults other.after.faults → ⊥) → (base : ℕ) (name : List ℕ) → Settles (file_of seen base name) (file_of other base name)
files_settle seen other told works base name = record {
  one_load = one_load seen other told base name;
  loads = λ loaded refusal read is refused. memory_alone other refusal works (load_or_refused seen other told base name loaded refusal read is refused);
  one_content = λ mode uses plains others are also.
      imported-once other.before.held told.holding mode uses plains others told.other_told (subst (λ held. AreImported held mode uses plains) (told.one_told ∙ sym told.other_told) are) also;
  imports = λ mode limit uses plains refusal are why.
      imported-refused other told.holding mode limit uses plains refusal told.other_told works (subst (λ held. AreImported held mode uses plains) (told.one_told ∙ sym told.other_told) are) why;
  same_imports = λ mode uses plains are. subst (λ held. AreImported held mode uses plains) (told.one_told ∙ sym told.other_told) are;
  no_lack = λ checked plains limit step are enough why. enough_imports_are_taken other told.holding checked.mode checked.imports plains limit step told.other_told are enough.imports why;
}

nothing_imported : (uses : List ImportUse) (plains others : List Plain) → (uses ≡ []) × (plains ≡ []) → (uses ≡ []) × (others ≡ []) → plains ≡ others
nothing_imported uses plains others one two = one.1 ∙ sym two.1

pub texts_settle : (name bytes : List ℕ) → Settles (text_of name bytes) (text_of name bytes)
texts_settle name bytes = record {
  one_load = one_text name bytes;
  loads = λ loaded refusal read is refused. text_or_refused name bytes loaded refusal is refused.0;
  one_content = λ mode uses plains others one two. nothing_imported uses plains others one two;
  imports = λ mode limit uses plains refusal one why. absurd why;
  same_imports = λ mode uses plains one. one;
  no_lack = λ checked plains limit step are enough why. why;
}

-- a source that can be solved is not refused for what it is

same_imports : (loaded : Loaded) (one other : Checked) → IsTyped loaded one → IsTyped loaded other → one.imports ≡ other.imports
same_imports loaded one other is is' = is.imports_are ∙ sym is'.imports_are

same_exports : (loaded : Loaded) (one other : Checked) → IsTyped loaded one → IsTyped loaded other → one.exports ≡ other.exports
same_exports loaded one other is is' = is.exports_are ∙ sym is'.exports_are

free_or_taken : (outs : List (List ℕ)) (exports : List ExportUse) (refusal : Refusal) → AreOutsFree outs exports → IsOutTaken outs exports refusal → ⊥
free_or_taken outs exports refusal free why = All-contains (λ (u : ExportUse). Contains outs u.name → ⊥) exports why.used free (held_contained exports why.place why.used why.here) why.taken

module _ (origin other : Origin) (settles : Settles origin other) (outs : List (List ℕ)) (loaded : Loaded) (checked : Checked) (plains : List Plain) (is : IsSolved origin outs loaded checked plains) where
  abbrev accepted : IsAccepted origin loaded checked
  accepted = is.is.is

  unaccepted : (refusal : Refusal) (read : List (List ℕ)) → IsUnaccepted other refusal read → refusal ≡ Memory
  unaccepted refusal read (sources.not_loaded why) = settles.loads loaded refusal read accepted.is_loaded why
  unaccepted refusal read (sources.faulty loaded' is_loaded all why) =
      let same : loaded ≡ loaded' = settles.one_load loaded loaded' accepted.is_loaded is_loaded in
      absurd (no_first_fault loaded refusal accepted.accepted (subst (λ l. IsFirstFault l refusal) (sym same) why))

  -- another reading of the same source
  module _ (loaded' : Loaded) (checked' : Checked) (is' : IsAccepted other loaded' checked') where
    same_load : loaded ≡ loaded'
    same_load = settles.one_load loaded loaded' accepted.is_loaded is'.is_loaded

    typed' : IsTyped loaded checked'
    typed' = subst (λ l. IsTyped l checked') (sym same_load) is'.typed

    imports_are : checked.imports ≡ checked'.imports
    imports_are = same_imports loaded checked checked' accepted.typed typed'

    exports_are : checked.exports ≡ checked'.exports
    exports_are = same_exports loaded checked checked' accepted.typed typed'

    mode_is : checked.mode ≡ checked'.mode
    mode_is = accepted.typed.mode ∙ sym typed'.mode

    imported : origin.Imports checked'.mode checked'.imports plains
    imported = subst (λ uses. origin.Imports checked'.mode uses plains) imports_are (subst (λ mode. origin.Imports mode checked.imports plains) mode_is is.is.imported)

  too_large : (checked' : Checked) (answers : Answers) (refusal : Refusal) → IsWithinLimits (problem_of checked' answers) → IsTooLarge checked' answers refusal → ⊥
  too_large checked' answers refusal within (limits.too_deep deep) = not_too_deep checked' answers refusal within.depth deep
  too_large checked' answers refusal within (limits.too_large large) = not_too_large checked' answers refusal within.size large

  unsolved : (limit : ℕ) (checked' : Checked) (answers : Answers) (contents : List (Content Sign)) (refusal : Refusal) → IsWithinLimits (problem_of checked' answers) → IsUnsolved checked' answers contents limit refusal → IsWant limit refusal
  unsolved limit checked' answers contents refusal within (limits.not_made why) = absurd (too_large checked' answers refusal within why)
  unsolved limit checked' answers contents refusal within (limits.lacks_nodes within' step there lacks) = inr (step, lacks)

  abbrev IsEnough : ℕ → Type 0
  IsEnough limit = IsEnoughForOrigin other outs limit

  memory_or : (limit : ℕ) (refusal : Refusal) → IsWant limit refusal → ((step : ℕ) → refusal ≡ Nodes step limit → IsEnough limit → ⊥) → IsWantUnder (IsEnough limit) limit refusal
  memory_or limit refusal (inl memory) short = inl memory
  memory_or limit refusal (inr lacks) short = inr (lacks, short lacks.0 lacks.1)

  pub solvable : (limit : ℕ) (refusal : Refusal) (read : List (List ℕ)) → IsRefused other outs limit refusal read → IsWantUnder (IsEnough limit) limit refusal
  solvable limit refusal read (sources.unaccepted why) = inl (unaccepted refusal read why)
  solvable limit refusal read (sources.out_taken loaded' checked' is' all why) =
      absurd (free_or_taken outs checked'.exports refusal (subst (AreOutsFree outs) (exports_are loaded' checked' is') is.is.free) why)
  solvable limit refusal read (sources.unimported loaded' checked' is' free all why) =
      let here = settles.same_imports checked'.mode checked'.imports plains (imported loaded' checked' is') in
      memory_or limit refusal (settles.imports checked'.mode limit checked'.imports plains refusal (imported loaded' checked' is') why)
      (λ step nodes enough.
      settles.no_lack checked' plains limit step here (enough loaded' checked' plains (record { is = is'; free = free; imported = here }))
      (subst (λ r. other.IsUnimported checked'.mode limit checked'.imports r) nodes why))
  solvable limit refusal read (sources.unsolved loaded' checked' plains' taken all contents adopted why below) =
      let is' = taken.is in
      let one : plains ≡ plains' = settles.one_content checked'.mode checked'.imports plains plains' (imported loaded' checked' is') taken.imported in
      let answers = answers_by checked'.imports plains' in
      let same_answers : answers_by checked.imports plains ≡ answers = ap (λ uses. answers_by uses plains) (imports_are loaded' checked' is') ∙ ap (answers_by checked'.imports) one in
      let problem : problem_of checked answers ≡ problem_of checked' answers = one_problem loaded checked checked' answers accepted.typed (typed' loaded' checked' is') in
      let within : IsWithinLimits (problem_of checked' answers) = subst IsWithinLimits problem (subst (λ list. IsWithinLimits (problem_of checked list)) same_answers is.within) in
      memory_or limit refusal (unsolved limit checked' answers contents refusal within why) (λ step nodes enough. (below step nodes).2 (enough loaded' checked' plains' taken))
  solvable limit refusal read (sources.no_memory why) = inl why
