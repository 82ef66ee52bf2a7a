-- When an answer is true of a question: the verdict, and the first assignment of each value.
use Rattle.std.specs.Prelude.{◌≡◌, Bool, true, false, Option, Some, None}
use Rattle.ms_logic.specs.declared.assignment.Assignment.{Assignment}
use Rattle.ms_logic.specs.Assignment.{Env}
use Rattle.ms_logic.specs.First.{IsFirst, assignment_of}
use Rattle.ms_logic.specs.Verdict.{Problem, variables_of, Assigns, MainYes, MainNo, IsValid, IsUnsatisfiable, IsContingent, IsVacuous}
use Rattle.ms_report.specs.declared.found.Verdict.{Verdict}
use Rattle.ms_report.specs.declared.found.Verdict.TheVariants.{Valid, Unsatisfiable, Contingent, Vacuous}
use Rattle.ms_report.specs.declared.found.Answer.{Answer}

-- what is shown is the first assignment of the globals that has the property; nothing is shown where none has it
abbrev pub ShowsFirst : Problem → (Env → Type 0) → Option Assignment → Type 0
ShowsFirst problem Holds None = (e : Env) → Assigns problem e → ¬ Holds e
ShowsFirst problem Holds (Some shown) =
    (e : Env) × IsFirst problem.mode (variables_of problem.globals) Holds e × (shown ≡ assignment_of (variables_of problem.globals) e)

-- the verdict by whether there is an example, and a counterexample
abbrev pub verdict_by : Bool → Bool → Verdict
verdict_by true false = Valid
verdict_by false true = Unsatisfiable
verdict_by true true = Contingent
verdict_by false false = Vacuous

-- the verdict is the question's
abbrev pub IsVerdict : Problem → Verdict → Type 0
IsVerdict problem Valid = IsValid problem
IsVerdict problem Unsatisfiable = IsUnsatisfiable problem
IsVerdict problem Contingent = IsContingent problem
IsVerdict problem Vacuous = IsVacuous problem

-- the answer is true of the question
pub record IsAnswer (problem : Problem) (answer : Answer) : Type 0 where
  pub verdict : IsVerdict problem answer.verdict
  pub example : ShowsFirst problem (MainYes problem) answer.example
  pub counterexample : ShowsFirst problem (MainNo problem) answer.counterexample
