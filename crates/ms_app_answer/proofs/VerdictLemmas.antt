-- The verdict by whether an example and a counterexample are shown.
use Rattle.std.proofs.Common.{◌≡◌, Option, Some, None, is_some, refl}
use Rattle.ms_logic.specs.declared.assignment.Assignment.{Assignment}
use Rattle.ms_logic.specs.Assignment.{Env}
use Rattle.ms_logic.specs.Verdict.{Assigns, IsValid, MainNo, MainYes, Problem}
use Rattle.ms_report.specs.declared.found.Verdict.{Verdict}
use Rattle.ms_report.specs.declared.found.Verdict.TheVariants.{Valid, Unsatisfiable, Contingent, Vacuous}
use Rattle.ms_app_answer.specs.Answer.{IsVerdict, ShowsFirst, verdict_by}

-- what is shown is there, and where nothing is shown there is nothing
some_shown : (problem : Problem) (Holds : Env → Type 0) (shown : Assignment) → ShowsFirst problem Holds (Some shown) → (e : Env) × Assigns problem e × Holds e
some_shown problem Holds shown first = (first.0, first.1.assignment, first.1.holds)

no_more : (problem : Problem) (Holds : Env → Type 0) → ShowsFirst problem Holds None → ¬ ((e : Env) × Assigns problem e × Holds e)
no_more problem Holds none found = none found.0 found.1 found.2

pub verdict_is : (problem : Problem) (example counterexample : Option Assignment) → ShowsFirst problem (MainYes problem) example → ShowsFirst problem (MainNo problem) counterexample
    → IsVerdict problem (verdict_by (is_some example) (is_some counterexample))
verdict_is problem (Some e) None shown other = (some_shown problem (MainYes problem) e shown, no_more problem (MainNo problem) other)
verdict_is problem None (Some e) shown other = (no_more problem (MainYes problem) shown, some_shown problem (MainNo problem) e other)
verdict_is problem (Some e) (Some f) shown other = (some_shown problem (MainYes problem) e shown, some_shown problem (MainNo problem) f other)
verdict_is problem None None shown other = (no_more problem (MainYes problem) shown, no_more problem (MainNo problem) other)

-- a valid problem has no other verdict, and nothing to show against it
pub valid_alone : (problem : Problem) → IsValid problem → (verdict : Verdict) → IsVerdict problem verdict → verdict ≡ Valid
valid_alone problem valid Valid is = refl
valid_alone problem valid Unsatisfiable is = absurd (is.0 valid.0)
valid_alone problem valid Contingent is = absurd (valid.1 is.1)
valid_alone problem valid Vacuous is = absurd (is.0 valid.0)

pub none_against : (problem : Problem) → IsValid problem → (shown : Option Assignment) → ShowsFirst problem (MainNo problem) shown → shown ≡ None
none_against problem valid None first = refl
none_against problem valid (Some e) first = absurd (valid.1 (some_shown problem (MainNo problem) e first))
