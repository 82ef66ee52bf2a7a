-- Laws of the decision of a formula, and of its answers.
use Rattle.std.specs.Prelude.{◌≡◌, ℕ, ◌≤◌, ◌⊎◌, List, map, Some}
use Rattle.ms_edge.specs.Counts.{Rose}
use Rattle.ms_edge.specs.declared.refusal.Refusal.{Refusal}
use Rattle.ms_edge.specs.declared.refusal.Refusal.TheVariants.{Memory, Nodes}
use Rattle.ms_edge.specs.Files.{Holding, Seen}
use Rattle.ms_edge.specs.Refusal.{IsPlaced, place_of}
use Rattle.ms_presburger.specs.Numbers.{Holds, Valuation}
use Rattle.ms_presburger.specs.Tree.{Arithmetic, free_names}
use Rattle.ms_presburger_decide.specs.Answer.{FailsAt, IsNumberAnswer, most_digits}
use Rattle.ms_presburger_decide.specs.Problem.{IsEnoughForProblem, IsRefusedProblem, ProblemCanBeDecided}
use Rattle.ms_report.specs.Line.{HasLine}
use Rattle.ms_report.specs.Numbers.{NumberAnswer, ShownNumbers}

-- each refusal has a line, and a place in one of the files that it may number, if it has one
abbrev pub RefusalsHaveLines : Type 0
RefusalsHaveLines =
    (seen : Seen) (name : List ℕ) (limit : ℕ) (refusal : Refusal) (files : List (List ℕ)) → IsRefusedProblem seen name limit refusal files
    → HasLine refusal × IsPlaced (place_of refusal) files

-- where what the files hold is told and no read failed, a file whose formula can be solved is refused for want of memory alone, or of nodes
-- in a step, under a limit that is not enough
abbrev pub SolvableProblemsAreSolved : Type 0
SolvableProblemsAreSolved =
    (seen : Seen) (holding : Holding) (name : List ℕ) (limit : ℕ) (refusal : Refusal) (files : List (List ℕ))
    → seen.before.held ≡ Some holding → ¬ Rose seen.before.faults seen.after.faults → ProblemCanBeDecided seen.before.held name
    → IsRefusedProblem seen name limit refusal files
    → (refusal ≡ Memory) ⊎ ((step : ℕ) × (refusal ≡ Nodes step limit) × ¬ IsEnoughForProblem seen.before.held name limit)

-- of all numbers at which a formula holds, those of an example have the fewest binary digits in the largest; and so has a counterexample
abbrev pub ExamplesAreShort : Type 0
ExamplesAreShort =
    (f : Arithmetic) (answer : NumberAnswer) (shown : ShownNumbers) (v : Valuation) → IsNumberAnswer f answer
    → (answer.example ≡ Some shown → Holds f v → shown.digits ≤ most_digits (map v (free_names f)))
    × (answer.counterexample ≡ Some shown → FailsAt f v → shown.digits ≤ most_digits (map v (free_names f)))

-- a formula has one answer
abbrev pub FormulasHaveOneAnswer : Type 0
FormulasHaveOneAnswer = (f : Arithmetic) (one other : NumberAnswer) → IsNumberAnswer f one → IsNumberAnswer f other → one ≡ other
