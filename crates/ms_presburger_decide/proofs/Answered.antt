-- The source of sets of a formula has the answer of the formula.
use Rattle.std.proofs.Common.{◌≡◌, ℕ, ◌⊎◌, ⊎_elim, inl, inr, List, [], length, refl, sym, ap, subst, ◌∙◌}
use Rattle.std.specs.List.{range_with_len}
use Rattle.ms_app_answer.specs.Answer.{IsAnswer}
use Rattle.ms_app_solved.specs.Alone.{IsUnsolvedAlone}
use Rattle.ms_app_solved.proofs.SetVariables.{sets, variables-are}
use Rattle.ms_build_source.specs.Limits.{IsWithinLimits}
use Rattle.ms_edge.specs.declared.refusal.Refusal.{Refusal}
use Rattle.ms_edge.specs.declared.refusal.Refusal.TheVariants.{Memory}
use Rattle.ms_logic.specs.declared.checked.Checked.{Checked}
use Rattle.ms_logic.specs.declared.checked.Global.{Global}
use Rattle.ms_logic.specs.Verdict.{variables_of}
use Rattle.ms_logic.specs.View.{globals_from, main_question, problem_of}
use Rattle.ms_presburger.specs.Source.{IsSetSource, global_of, set_problem}
use Rattle.ms_presburger.specs.Tree.{Arithmetic, free_names}
use Rattle.ms_presburger.specs.View.{IsWellFormed, arithmetic_of}
use Rattle.ms_presburger.specs.declared.linear.Problem.{Problem}
use Rattle.ms_presburger.proofs.Sources.{is-over-numbers, problem-same, tells-truth, tells-verdict}
use Rattle.ms_presburger_decide.specs.Answer.{IsNumberAnswer}
use Rattle.ms_presburger_decide.specs.Problem.{IsUnsolvedProblem}
use Rattle.ms_presburger_decide.proofs.NumberAnswers.{number-answer, shows-sets}
use Rattle.ms_report.specs.declared.found.Answer.{Answer}
use Rattle.ms_report.specs.Numbers.{AreSets, number_answer_of}

-- the source that is made of a problem is that of its formula, over its free names
pub set-source : (problem : Problem) → IsWellFormed problem → (source : Checked) → IsSetSource problem.names (arithmetic_of problem.formula) source
    → IsSetSource (free_names (arithmetic_of problem.formula)) (arithmetic_of problem.formula) source
set-source problem well source is = let P : List (List ℕ) → Type 0 = λ names. IsSetSource names (arithmetic_of problem.formula) source in subst P well.names is

module _ (f : Arithmetic) (source : Checked) (is : IsSetSource (free_names f) f source) where
  variables : variables_of (main_question source []).globals ≡ sets (range_with_len 0 (length (free_names f)))
  variables = ap (λ (gs : List Global). variables_of (globals_from 0 gs)) is.globals ∙ variables-are global_of (λ name. refl) 0 (free_names f)

  -- what answers the source answers the formula
  pub answered : (answer : Answer) → IsAnswer (main_question source []) answer → IsNumberAnswer f (number_answer_of answer)
  answered answer answers =
      number-answer f (main_question source []) (is-over-numbers (free_names f) f source [] refl is) is.mode variables
      (tells-truth (free_names f) f source [] refl is) (tells-verdict (free_names f) f source [] refl is) answer answers

  pub answered-by-sets : (answer : Answer) → IsAnswer (main_question source []) answer → AreSets answer.example × AreSets answer.counterexample
  answered-by-sets answer answers =
      shows-sets f (main_question source []) (is-over-numbers (free_names f) f source [] refl is) is.mode variables
      (tells-truth (free_names f) f source [] refl is) (tells-verdict (free_names f) f source [] refl is) answer answers

  pub within-limits : IsWithinLimits (problem_of source []) → IsWithinLimits (set_problem (free_names f) f)
  within-limits within = subst IsWithinLimits (sym (problem-same (free_names f) f source [] is)) within

  pub refused-for : (limit : ℕ) (refusal : Refusal) → (refusal ≡ Memory) ⊎ IsUnsolvedAlone source limit refusal → (refusal ≡ Memory) ⊎ IsUnsolvedProblem f limit refusal
  refused-for limit refusal why = ⊎_elim (λ memory. inl memory) (λ unsolved. inr (record { source = source; is = is; unsolved = unsolved })) why
