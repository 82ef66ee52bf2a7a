-- Laws of how many states and nodes a renaming needs.
use Rattle.std.specs.Prelude.{◌≡◌, ℕ, ◌<◌, ◌≤◌, List, length}
use Rattle.ms_logic_measures.specs.Budgets.{budget}
use Rattle.ms_logic_measures.specs.CallMeasures.{IsRenameMeasure, LeadsToReferences, in_order_of}
use Rattle.ms_logic_words.specs.Content.{Content}
use Rattle.ms_logic_words.specs.declared.sign.Sign.{Sign}
use Rattle.ms_rename.specs.Renamed.{NeedsAtLeast, renamed_places}
use Rattle.ms_build_parts.specs.Laws.{IsMeasuredBy}

-- the nodes that such an automaton needs once it is renamed, and its states, are at most the references to which starts in the order of
-- the map lead the canonical content that says the same
abbrev pub RenamingsNeedFewParts : Type 0
RenamingsNeedFewParts =
    (content measure : Content Sign) (numbers : List ℕ) → length numbers ≡ length content.variables → IsMeasuredBy content measure
    → (count : ℕ) → NeedsAtLeast count content (renamed_places numbers content.variables)
    → (m : ℕ) → LeadsToReferences measure (in_order_of numbers measure.variables) m → count ≤ m

-- so a renaming is short of nodes only under a limit below the budget of each measure of this content
abbrev pub RenamingsAreWithinBudget : Type 0
RenamingsAreWithinBudget =
    (content measure : Content Sign) (numbers : List ℕ) → length numbers ≡ length content.variables → IsMeasuredBy content measure
    → (limit : ℕ) → NeedsAtLeast limit content (renamed_places numbers content.variables)
    → (m r : ℕ) → IsRenameMeasure measure numbers m r → limit < budget m r
