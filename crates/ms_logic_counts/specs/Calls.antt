-- Each call of an operation on automata has a measure.
use Rattle.std.specs.Prelude.{ℕ, List}
use Rattle.ms_logic.specs.Assignment.{Variable}
use Rattle.ms_logic.specs.Truth.{Import}
use Rattle.ms_logic.specs.declared.mode.Mode.{Mode}
use Rattle.ms_logic_core.specs.CoreForm.{CoreForm, truth}
use Rattle.ms_logic_words.specs.Content.{Content, IsContent}
use Rattle.ms_logic_words.specs.declared.sign.Sign.{Sign}
use Rattle.ms_logic_measures.specs.Budgets.{IsOwnContent, IsWideningMeasure}
use Rattle.ms_logic_measures.specs.CallMeasures.{IsCombineMeasure, IsMinimiseMeasure, IsProjectMeasure, IsRenameMeasure, IsAdoptMeasure, no_restriction}
use Rattle.ms_logic_measures.specs.FullContent.{IsFullContent}

-- a connective
abbrev pub CombinesAreMeasured : Type 0 → Type 0 → Type 0
CombinesAreMeasured Left Right =
    (left : Content Left) (right : Content Right) → IsContent left → IsContent right → ¬ ¬ ((m r : ℕ) × IsCombineMeasure left right m r)

-- fewest states
abbrev pub MinimisesAreMeasured : Type 0 → Type 0
MinimisesAreMeasured Sign = (content : Content Sign) → IsContent content → ¬ ¬ ((m r : ℕ) × IsMinimiseMeasure content m r)

-- a quantifier
abbrev pub ProjectsAreMeasured : Type 0 → Type 0 → Type 0
ProjectsAreMeasured Body Domain =
    (body : Content Body) (restriction : Content Domain) (x : Variable) → IsContent body → IsContent restriction
    → ¬ ¬ ((m r : ℕ) × IsProjectMeasure body restriction x m r)

-- a quantifier without a restriction
abbrev pub FreeProjectsAreMeasured : Type 0 → Type 0
FreeProjectsAreMeasured Body =
    (body : Content Body) (mode : Mode) (x : Variable) → IsContent body → ¬ ¬ ((m r : ℕ) × IsProjectMeasure body (no_restriction mode) x m r)

-- a renaming
abbrev pub RenamesAreMeasured : Type 0 → Type 0
RenamesAreMeasured Sign =
    (content : Content Sign) (numbers : List ℕ) → IsContent content → ¬ ¬ ((m r : ℕ) × IsRenameMeasure content numbers m r)

-- a file
abbrev pub AdoptsAreMeasured : Type 0 → Type 0
AdoptsAreMeasured FileSign =
    (file : Content FileSign) (encodings : Content Sign) → IsContent file → IsContent encodings → ¬ ¬ ((m r : ℕ) × IsAdoptMeasure file encodings m r)

-- a widening of a formula to a list of variables
abbrev pub WideningsArePaired : Type 0
WideningsArePaired =
    (imports : List Import) (mode : Mode) (f : CoreForm) (variables : List Variable) (content encodings : Content Sign)
    → IsOwnContent imports mode f content → IsFullContent imports mode variables truth encodings
    → ¬ ¬ ((m r : ℕ) × IsWideningMeasure imports mode f variables m r)
