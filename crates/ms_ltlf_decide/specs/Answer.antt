-- When an answer is true of a formula of temporal logic: the verdict over all traces, the first trace on which the formula holds, and the
-- first on which it does not.
use Rattle.std.specs.Prelude.{◌≡◌, ℕ, false, List, map, Option, Some, None}
use Rattle.ms_logic.specs.declared.assignment.Assignment.{Assignment}
use Rattle.ms_logic.specs.declared.assignment.Value.TheVariants.{Set}
use Rattle.ms_logic.specs.declared.mode.Order.TheVariants.{Two}
use Rattle.ms_logic.specs.Assignment.{Env, Variable}
use Rattle.ms_logic.specs.FiniteSet.{numbers_below}
use Rattle.ms_logic.specs.First.{IsBefore}
use Rattle.ms_ltlf.specs.Trace.{FiniteTrace, HoldsAt, IsTrace}
use Rattle.ms_ltlf.specs.Tree.{Temporal}
use Rattle.ms_report.specs.declared.found.Answer.{Answer}
use Rattle.ms_report.specs.declared.found.Verdict.{Verdict}
use Rattle.ms_report.specs.declared.found.Verdict.TheVariants.{Valid, Unsatisfiable, Contingent, Vacuous}

-- the propositions, by their numbers, each as a variable for the set of its positions
abbrev pub propositions : ℕ → List Variable
propositions count = map (λ p. record { name = p; order = Two }) (numbers_below count)

-- a trace as an assignment of these sets, on a string as long as the trace
abbrev pub assignment_by : FiniteTrace → Env
assignment_by t = record { universe = Some t.length; truth = λ x. false; number = λ x. 0; set = t.positions }

-- One trace comes before another, as their assignments do: it is shorter; or it is as long, and at the first position at which they
-- differ, of the propositions that hold in just one of them there, the first holds in the other.
abbrev pub ComesBefore : ℕ → FiniteTrace → FiniteTrace → Type 0
ComesBefore count t u = IsBefore (propositions count) (assignment_by t) (assignment_by u)

-- the first trace of this many propositions that has a property
pub record IsFirstTrace (count : ℕ) (Holds : FiniteTrace → Type 0) (t : FiniteTrace) : Type 0 where
  pub trace : IsTrace count t
  pub holds : Holds t
  pub none_before : (u : FiniteTrace) → IsTrace count u → ComesBefore count u t → ¬ Holds u

-- what is shown of a trace: its length, and the positions of each proposition
abbrev pub shown_of : ℕ → FiniteTrace → Assignment
shown_of count t = record { length = t.length; values = map (λ p. Set (t.positions p)) (numbers_below count) }

-- what is shown is the first trace that has the property; nothing is shown where none has it
abbrev pub ShowsFirstTrace : ℕ → (FiniteTrace → Type 0) → Option Assignment → Type 0
ShowsFirstTrace count Holds None = (t : FiniteTrace) → IsTrace count t → ¬ Holds t
ShowsFirstTrace count Holds (Some shown) = (t : FiniteTrace) × IsFirstTrace count Holds t × (shown ≡ shown_of count t)

-- the formula holds on the trace: at its first position
abbrev pub HoldsOn : Temporal → FiniteTrace → Type 0
HoldsOn f t = HoldsAt t f 0

abbrev pub FailsOn : Temporal → FiniteTrace → Type 0
FailsOn f t = ¬ HoldsOn f t

-- the verdict on the formula over all traces of this many propositions
abbrev pub IsVerdictOn : ℕ → Temporal → Verdict → Type 0
IsVerdictOn count f Valid = (t : FiniteTrace) → IsTrace count t → HoldsOn f t
IsVerdictOn count f Unsatisfiable = (t : FiniteTrace) → IsTrace count t → FailsOn f t
IsVerdictOn count f Contingent = ((t : FiniteTrace) × IsTrace count t × HoldsOn f t) × ((t : FiniteTrace) × IsTrace count t × FailsOn f t)
IsVerdictOn count f Vacuous = ⊥

-- the answer is true of the formula over this many propositions
pub record IsTraceAnswer (count : ℕ) (f : Temporal) (answer : Answer) : Type 0 where
  pub verdict : IsVerdictOn count f answer.verdict
  pub trace : ShowsFirstTrace count (HoldsOn f) answer.example
  pub countertrace : ShowsFirstTrace count (FailsOn f) answer.counterexample
