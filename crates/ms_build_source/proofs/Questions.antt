-- What the questions of a source read, and what each of its roots asks.
use Rattle.std.proofs.Common.{◌≡◌, ℕ, zero, suc, ◌+◌, ◌-◌, inl, inr, ⊎_elim, List, [], ◌∷◌, length, slice_get, Some, subst, arith}
use Rattle.std.proofs.lemmas.Bool.{cases_lt}
use Rattle.std.proofs.lemmas.Option.{slice_get_within}
use Rattle.ms_arena.proofs.Lists.{slice_get-held}
use Rattle.ms_logic.specs.declared.checked.Checked.{Checked}
use Rattle.ms_logic.specs.declared.checked.Placed.{Placed}
use Rattle.ms_logic_core.specs.declared.core_formula.Root as code
use Rattle.ms_logic.specs.Assignment.{Variable}
use Rattle.ms_logic.specs.FreeVariables.{FreeInRestrictions, IsListed}
use Rattle.ms_logic.specs.Lists.{Each}
use Rattle.ms_logic.specs.Tree.{Declaration}
use Rattle.ms_logic.specs.Verdict.{Problem}
use Rattle.ms_logic.specs.View.{declared_in, globals_from, goals_in, problem_of, question_of, Answers}
use Rattle.ms_lower.specs.Lowered.{AreRootsOf, reads_of}
use Rattle.ms_lower.proofs.RootScopes.{ReadsGlobals}
use Rattle.ms_logic_spread.specs.RootLaws.{AreFormulasOf}
use Rattle.ms_logic_spread.proofs.Questions.{asked_numbered, declared_asked, goal_asked, whole_asked}
use Rattle.ms_logic_spread.proofs.Seen.{forms_seen, restriction_seen}
use Rattle.ms_logic_spread.proofs.SeenPredicates.{all_seen}
use Rattle.ms_names_rules.specs.Numbers.{IsNumberedRestriction, IsWellNumbered, globals_seen, tables_of}

module _ (checked : Checked) (answers : Answers) (well : IsWellNumbered checked) where
  globals_read : (ds : List Declaration) → Each (λ d. IsNumberedRestriction (tables_of checked) (length (tables_of checked).predicates) (globals_seen checked) d.restriction) ds
      → (w : Variable) → FreeInRestrictions (reads_of (problem_of checked answers).given) ds w → IsListed (globals_seen checked) w
  globals_read [] each w free = absurd free
  globals_read (d ∷ ds) each w free = ⊎_elim
      (restriction_seen (tables_of checked) (reads_of (problem_of checked answers).given) (length (tables_of checked).predicates) (globals_seen checked)
      (all_seen (tables_of checked) (globals_seen checked) answers well.predicates) d.restriction (globals_seen checked) (λ v listed. listed) each.0 w)
      (globals_read ds each.1 w) free

  -- a question reads globals alone
  pub reads_globals : (asked : List Placed) → AreFormulasOf checked asked → ReadsGlobals (question_of checked answers asked)
  reads_globals asked among =
      let question = question_of checked answers asked in
      let tables = tables_of checked in
      let seen = globals_seen checked in
      record {
        restrictions = globals_read (globals_from 0 checked.globals) well.globals;
        formulas =
            forms_seen tables (reads_of question.given) (length tables.predicates) seen (all_seen tables seen answers well.predicates) question.formulas seen (λ v listed. listed)
            (asked_numbered checked well asked among);
      }

-- each root is one of some question, with its number there
pub asked_by : (IsOne : Problem → ℕ → code.Root → Type 0) (checked : Checked) (answers : Answers) (roots : List code.Root) → AreRootsOf IsOne checked answers roots
    → (k : ℕ) (root : code.Root) → slice_get roots k ≡ Some root
    → (asked : List Placed) × AreFormulasOf checked asked × ((i : ℕ) × IsOne (question_of checked answers asked) i root)
asked_by IsOne checked answers roots are zero root is = (declared_in checked, declared_asked checked, (0, are.main root is))
asked_by IsOne checked answers roots are (suc k) root is =
    elim (cases_lt k (length checked.exports)) [
      | inl less ↦ (checked.formulas, whole_asked checked, (suc k, are.exports k root less is))
      | inr beyond ↦
          let within = slice_get_within roots (suc k) root is in
          let count = are.count in
          let goal = slice_get-held (goals_in checked) (k - length checked.exports) (omega (arith, within, count, beyond)) in
          let place : k ≡ length checked.exports + (k - length checked.exports) = omega (arith, beyond) in
          let there = subst (λ n. slice_get roots (suc n) ≡ Some root) place is in
          (goal.0 ∷ [], goal_asked checked (k - length checked.exports) goal.0 goal.1, (0, are.goals (k - length checked.exports) goal.0 root goal.1 there))
    ]
