-- Laws of the decision of a formula.
use Rattle.std.specs.Prelude.{◌≡◌, ℕ, ◌⊎◌, List, Some}
use Rattle.ms_edge.specs.Counts.{Rose}
use Rattle.ms_edge.specs.declared.refusal.Refusal.{Refusal}
use Rattle.ms_edge.specs.declared.refusal.Refusal.TheVariants.{Memory, Nodes}
use Rattle.ms_edge.specs.Files.{Holding, Seen}
use Rattle.ms_edge.specs.Refusal.{IsPlaced, place_of}
use Rattle.ms_ltlf.specs.Tree.{Temporal}
use Rattle.ms_ltlf_decide.specs.Formula.{IsEnoughForFormula, IsRefusedFormula, IsSolvable}
use Rattle.ms_ltlf_parse.specs.Grammar.{Names}
use Rattle.ms_report.specs.Line.{HasLine}

-- each refusal has a line, and a place in one of the files that it may number, if it has one
abbrev pub RefusalsHaveLines : Type 0
RefusalsHaveLines =
    (seen : Seen) (name : List ℕ) (limit : ℕ) (refusal : Refusal) (files : List (List ℕ)) → IsRefusedFormula seen name limit refusal files
    → HasLine refusal × IsPlaced (place_of refusal) files

-- where what the files hold is told and no read failed, a file whose formula can be solved is refused for want of memory alone, or of nodes
-- in a step, under a limit that is not enough
abbrev pub SolvableFormulasAreSolved : Type 0
SolvableFormulasAreSolved =
    (seen : Seen) (holding : Holding) (name : List ℕ) (names : Names) (f : Temporal) (limit : ℕ) (refusal : Refusal) (files : List (List ℕ))
    → seen.before.held ≡ Some holding → ¬ Rose seen.before.faults seen.after.faults → IsSolvable seen.before.held name names f
    → IsRefusedFormula seen name limit refusal files
    → (refusal ≡ Memory) ⊎ ((step : ℕ) × (refusal ≡ Nodes step limit) × ¬ IsEnoughForFormula seen.before.held name limit)
