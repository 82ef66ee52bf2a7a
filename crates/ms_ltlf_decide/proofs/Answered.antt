-- The source of strings of a formula has the answer of the formula.
use Rattle.std.proofs.Common.{◌≡◌, ℕ, ◌⊎◌, ⊎_elim, inl, inr, List, [], length, refl, sym, ap, subst, ◌∙◌}
use Rattle.ms_app_answer.specs.Answer.{IsAnswer}
use Rattle.ms_app_solved.specs.Alone.{IsUnsolvedAlone}
use Rattle.ms_app_solved.proofs.SetVariables.{variables-are}
use Rattle.ms_build_source.specs.Limits.{IsWithinLimits}
use Rattle.ms_edge.specs.declared.refusal.Refusal.{Refusal}
use Rattle.ms_edge.specs.declared.refusal.Refusal.TheVariants.{Memory}
use Rattle.ms_logic.specs.declared.checked.Checked.{Checked}
use Rattle.ms_logic.specs.declared.checked.Global.{Global}
use Rattle.ms_logic.specs.Verdict.{variables_of}
use Rattle.ms_logic.specs.View.{globals_from, main_question, problem_of}
use Rattle.ms_ltlf.specs.Source.{IsStringSource, global_of, string_problem}
use Rattle.ms_ltlf.specs.Tree.{Temporal}
use Rattle.ms_ltlf.proofs.Sources.{is-over-traces, problem-same, tells-truth, tells-verdict}
use Rattle.ms_ltlf_decide.specs.Answer.{IsTraceAnswer}
use Rattle.ms_ltlf_decide.specs.Formula.{IsUnsolvedFormula}
use Rattle.ms_ltlf_decide.proofs.TraceAnswers.{trace-answer}
use Rattle.ms_ltlf_parse.specs.Grammar.{Names}
use Rattle.ms_report.specs.declared.found.Answer.{Answer}

module _ (names : Names) (f : Temporal) (source : Checked) (is : IsStringSource names f source) where
  -- what answers the source answers the formula
  pub answered : (answer : Answer) → IsAnswer (main_question source []) answer → IsTraceAnswer (length names) f answer
  answered answer answers =
      trace-answer (length names) f (main_question source []) (is-over-traces names f source [] is) is.mode
      (ap (λ (gs : List Global). variables_of (globals_from 0 gs)) is.globals ∙ variables-are global_of (λ name. refl) 0 names)
      (tells-truth names f source [] is) (tells-verdict names f source [] is) answer answers

  pub within-limits : IsWithinLimits (problem_of source []) → IsWithinLimits (string_problem names f)
  within-limits within = subst IsWithinLimits (sym (problem-same names f source [] is)) within

  pub refused-for : (limit : ℕ) (refusal : Refusal) → (refusal ≡ Memory) ⊎ IsUnsolvedAlone source limit refusal → (refusal ≡ Memory) ⊎ IsUnsolvedFormula names f limit refusal
  refused-for limit refusal why = ⊎_elim (λ memory. inl memory) (λ unsolved. inr (record { source = source; is = is; unsolved = unsolved })) why
