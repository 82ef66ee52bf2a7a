-- An answer that is true of a source of strings is true of its formula.
use Rattle.std.proofs.Common.{◌≡◌, ℕ, ◌<◌, ◌↔◌, ⊎_elim, List, [], Option, None, Some, sym, subst, ◌∙◌, arith}
use Rattle.std.proofs.lemmas.Bool.{cases_lt}
use Rattle.ms_app_answer.specs.Answer.{IsAnswer, IsVerdict, ShowsFirst}
use Rattle.ms_logic.specs.declared.assignment.Assignment.{Assignment}
use Rattle.ms_logic.specs.declared.mode.Mode.TheVariants.{M2lStr}
use Rattle.ms_logic.specs.Assignment.{Env, IsUniverseOf, Variable}
use Rattle.ms_logic.specs.First.{IsBefore, assignment_of}
use Rattle.ms_logic.specs.Verdict.{Assigns, MainNo, MainYes, Problem, variables_of}
use Rattle.ms_ltlf.specs.Meaning.{IsOverTraces, TellsTruth, TellsVerdict, trace_of}
use Rattle.ms_ltlf.specs.Trace.{FiniteTrace, IsTrace}
use Rattle.ms_ltlf.specs.Tree.{Temporal}
use Rattle.ms_ltlf.proofs.Sources.{some-length}
use Rattle.ms_ltlf.proofs.Truths.{decided}
use Rattle.ms_report.specs.declared.found.Answer.{Answer}
use Rattle.ms_report.specs.declared.found.Verdict.{Verdict}
use Rattle.ms_report.specs.declared.found.Verdict.TheVariants.{Valid, Unsatisfiable, Contingent, Vacuous}
use Rattle.ms_ltlf_decide.specs.Answer.{FailsOn, HoldsOn, IsTraceAnswer, IsVerdictOn, ShowsFirstTrace, assignment_by, propositions}
use Rattle.ms_ltlf_decide.proofs.Orders.{IsOnString, before, shown}

-- a trace of one position, at which nothing holds
abbrev short : FiniteTrace
short = record { length = 1; positions = λ p. [] }

short-trace : (count : ℕ) → IsTrace count short
short-trace count = record { has_position = omega arith; sets = λ p below. tt; within = λ p below. tt }

module _ (count : ℕ) (f : Temporal) (problem : Problem) (over : IsOverTraces count problem) (mode : problem.mode ≡ M2lStr) (variables : variables_of problem.globals ≡ propositions count) where
  on-string : (e : Env) → Assigns problem e → IsOnString e
  on-string e assigned = some-length e.universe (subst (λ m. IsUniverseOf m e.universe) mode assigned.universe)

  module _ (Value : Env → Type 0) (Holds : FiniteTrace → Type 0) (same : (e : Env) → Assigns problem e → 0 < (trace_of e).length → Value e ↔ Holds (trace_of e))
      (empty : (e : Env) → Assigns problem e → (trace_of e).length ≡ 0 → ¬ Value e) where
    has-position : (e : Env) → Assigns problem e → Value e → 0 < (trace_of e).length
    has-position e assigned value = ⊎_elim (λ positive. positive) (λ none. absurd (empty e assigned (omega (arith, none)) value)) (cases_lt 0 (trace_of e).length)

    -- the assignment of a trace with the property has the value
    valued : (t : FiniteTrace) → IsTrace count t → Holds t → (e : Env) × Assigns problem e × (trace_of e ≡ t) × Value e
    valued t is held =
        let given = over.each_trace t is in
        let positive : 0 < (trace_of given.0).length = let P : FiniteTrace → Type 0 = λ u. 0 < u.length in subst P (sym given.2) is.has_position in
        (given.0, given.1, given.2, (same given.0 given.1 positive).1 (subst Holds (sym given.2) held))

    first-trace : (found : Option Assignment) → ShowsFirst problem Value found → ShowsFirstTrace count Holds found
    first-trace None none = λ t is held. let one = valued t is held in none one.0 one.1 one.3
    first-trace (Some found) (e, first, is) =
        let assigned = first.assignment in
        let positive = has-position e assigned first.holds in
        let V : List Variable → Type 0 = λ vs. found ≡ assignment_of vs e in (
          trace_of e,
          record {
            trace = over.each_assignment e assigned positive;
            holds = (same e assigned positive).0 first.holds;
            none_before = λ u is_u earlier held.
                let one = valued u is_u held in
                let P : FiniteTrace → Type 0 = λ t. IsBefore (propositions count) (assignment_by t) (assignment_by (trace_of e)) in
                let ordered = before count one.0 e (on-string one.0 one.1) (on-string e assigned) (subst P (sym one.2) earlier) in
                first.none_before one.0 one.1 (subst (λ vs. IsBefore vs one.0 e) (sym variables) ordered) one.3;
          },
          subst V variables is ∙ shown count e (on-string e assigned),
        )

  module _ (truth : TellsTruth f problem) (tells : TellsVerdict count f problem) where
    verdict-on : (verdict : Verdict) → IsVerdict problem verdict → IsVerdictOn count f verdict
    verdict-on Valid is = λ t trace. ⊎_elim (λ holds. holds) (λ fails. absurd (is.1 (tells.counterexample.1 (t, trace, fails)))) (decided t f 0 trace.has_position)
    verdict-on Unsatisfiable is = λ t trace holds. is.0 (tells.example.1 (t, trace, holds))
    verdict-on Contingent is = (tells.example.0 is.0, tells.counterexample.0 is.1)
    verdict-on Vacuous is =
        let trace = short-trace count in
        ⊎_elim (λ holds. is.0 (tells.example.1 (short, trace, holds))) (λ fails. is.1 (tells.counterexample.1 (short, trace, fails))) (decided short f 0 trace.has_position)

    pub trace-answer : (answer : Answer) → IsAnswer problem answer → IsTraceAnswer count f answer
    trace-answer answer is = record {
      verdict = verdict-on answer.verdict is.verdict;
      trace = first-trace (MainYes problem) (HoldsOn f) truth.yes (λ e assigned none. (truth.empty e assigned none).0) answer.example is.example;
      countertrace = first-trace (MainNo problem) (FailsOn f) truth.no (λ e assigned none. (truth.empty e assigned none).1) answer.counterexample is.counterexample;
    }
