-- The roots of a source, and the main roots of its questions, have the values that they stand for.
use Rattle.std.proofs.Common.{ℕ, zero, suc, ◌↔◌, ⊎_elim, List, [], ◌∷◌, length, sym, subst}
use Rattle.ms_logic.specs.declared.checked.Checked.{Checked}
use Rattle.ms_logic.specs.declared.checked.Placed.{Placed}
use Rattle.ms_logic.specs.Assignment.{Env, Variable, IsAssignment}
use Rattle.ms_logic_core.specs.CoreForm.{CoreYes, CoreNo}
use Rattle.ms_logic.specs.FreeVariables.{IsListed, FreeInForms, FreeInRestrictions}
use Rattle.ms_logic_core.specs.Roots.{Root, IsRoot, main_root, first_free}
use Rattle.ms_logic_core.specs.Spread.{callees_of, own_names, spread_each}
use Rattle.ms_logic.specs.Tree.{Declaration, Form}
use Rattle.ms_logic.specs.Truth.{meanings_of, Yes, No}
use Rattle.ms_logic.specs.Verdict.{Problem, variables_of, MainYes, MainNo}
use Rattle.ms_logic.specs.View.{globals_from, problem_of, question_of, Answers}
use Rattle.ms_logic_core.proofs.Saying.{reading-weaker}
use Rattle.ms_names_rules.specs.Numbers.{IsNumberedRestriction, IsWellNumbered, tables_of, globals_seen}
use Rattle.ms_logic.specs.Lists.{Each}
use Rattle.ms_logic_spread.specs.SpreadLaws.{HaveOneValue}
use Rattle.ms_logic_spread.specs.RootLaws.{AreFormulasOf, FreeVariablesAreSeen, NumberedFormulasKeepValue, HasRootValue, QuestionsKeepValues, RootsKeepValues}
use Rattle.ms_logic_spread.proofs.Equivalences.{iff_then}
use Rattle.ms_logic_spread.proofs.ExportsOnce.{exports_stand_once}
use Rattle.ms_logic_spread.proofs.Formulas.{each_kept, restrictions_kept}
use Rattle.ms_logic_spread.proofs.Keeping.{restrictions_before}
use Rattle.ms_logic_spread.proofs.Predicates.{kept_given, reads_of, body_reads_of}
use Rattle.ms_logic_spread.proofs.Questions.{asked_numbered, whole_asked}
use Rattle.ms_logic_spread.proofs.Seen.{free_seen, forms_seen, restriction_seen}
use Rattle.ms_logic_spread.proofs.SeenPredicates.{all_seen}
use Rattle.ms_logic_spread.proofs.Spreads.{reading_own, spread_keeps_value, spread_keeps_value_under_names}

pub free_variables_are_seen : FreeVariablesAreSeen
free_variables_are_seen checked answers seen f w well within numbered free =
    free_seen (tables_of checked) (reads_of (problem_of checked answers).given) (length (tables_of checked).predicates) (globals_seen checked)
    (all_seen (tables_of checked) (globals_seen checked) answers well.predicates) f seen within numbered w free

pub numbered_formulas_keep_value : NumberedFormulasKeepValue
numbered_formulas_keep_value checked answers seen f names free e c well within numbered named =
    spread_keeps_value_under_names (problem_of checked answers).given f names free e c
    (record {
      universe = named.universe;
      below = λ w is_free. named.below w (free_variables_are_seen checked answers seen f w well within numbered is_free);
      values = λ w is_free. named.values w (free_variables_are_seen checked answers seen f w well within numbered is_free);
      valid = λ w is_free. named.valid w (free_variables_are_seen checked answers seen f w well within numbered is_free);
    })

-- the main root of a problem whose formulas and restrictions read globals alone
pub main_root_keeps : (problem : Problem) (e : Env) → IsAssignment problem.mode (variables_of problem.globals) e →
    ((w : Variable) → FreeInRestrictions (reads_of problem.given) problem.globals w → IsListed (variables_of problem.globals) w) →
    ((w : Variable) → FreeInForms (reads_of problem.given) problem.formulas w → IsListed (variables_of problem.globals) w) →
    (MainYes problem e ↔ CoreYes problem.given.imports (main_root problem).formula e) × (MainNo problem e ↔ CoreNo problem.given.imports (main_root problem).formula e)
main_root_keeps problem e assigned restrictions_listed formulas_listed =
    let given = problem.given in
    let variables = variables_of problem.globals in
    let free = first_free variables in
    let reading = reading_own variables e assigned.values in
    let restrictions = restrictions_kept (meanings_of given) (callees_of given) (reads_of given) given.imports (body_reads_of given) (kept_given given) problem.globals own_names free e e (reading-weaker (IsListed variables) (FreeInRestrictions (reads_of given) problem.globals) own_names free e e restrictions_listed reading) in
    let formulas = each_kept (meanings_of given) (callees_of given) (reads_of given) given.imports (body_reads_of given) (kept_given given) problem.formulas own_names free e e (reading-weaker (IsListed variables) (FreeInForms (reads_of given) problem.formulas) own_names free e e formulas_listed reading) in
    let both = restrictions_before (meanings_of given) (callees_of given) given.imports own_names free e e (spread_each (callees_of given) problem.formulas own_names free) problem.globals restrictions in (
      iff_then (λ h. (h.0, formulas.all_yes.0 h.1), λ h. (h.0, formulas.all_yes.1 h.1)) both.0,
      iff_then (λ h. (h.0, formulas.all_defined.0 h.1.0, formulas.some_no.0 h.1.1), λ h. (h.0, (formulas.all_defined.1 h.1, formulas.some_no.1 h.2))) both.1,
    )

module _ (checked : Checked) (answers : Answers) (well : IsWellNumbered checked) where
  globals_read : (ds : List Declaration) → Each (λ d. IsNumberedRestriction (tables_of checked) (length (tables_of checked).predicates) (globals_seen checked) d.restriction) ds →
      (w : Variable) → FreeInRestrictions (reads_of (problem_of checked answers).given) ds w → IsListed (globals_seen checked) w
  globals_read [] each w free = absurd free
  globals_read (d ∷ ds) each w free =
      ⊎_elim
      (restriction_seen (tables_of checked) (reads_of (problem_of checked answers).given) (length (tables_of checked).predicates) (globals_seen checked)
      (all_seen (tables_of checked) (globals_seen checked) answers well.predicates) d.restriction (globals_seen checked) (λ v listed. listed) each.0 w)
      (globals_read ds each.1 w) free

  -- the main root of a question
  pub question_keeps : (asked : List Placed) → AreFormulasOf checked asked → HasRootValue (question_of checked answers asked) 0 (main_root (question_of checked answers asked))
  question_keeps asked among = λ e assigned.
      let question = question_of checked answers asked in
      main_root_keeps question e assigned (globals_read (globals_from 0 checked.globals) well.globals)
      (forms_seen (tables_of checked) (reads_of question.given) (length (tables_of checked).predicates) (globals_seen checked)
      (all_seen (tables_of checked) (globals_seen checked) answers well.predicates) question.formulas (globals_seen checked) (λ v listed. listed)
      (asked_numbered checked well asked among))

  -- a root by its number
  pub root_keeps : (i : ℕ) (root : Root) → IsRoot (problem_of checked answers) i root → HasRootValue (problem_of checked answers) i root
  root_keeps zero root is e assigned = subst (HasRootValue (problem_of checked answers) 0) (sym is) (question_keeps checked.formulas (whole_asked checked)) e assigned
  root_keeps (suc i) root is e assigned =
      let problem = problem_of checked answers in
      let f = is.0 in
      let variables = is.1 in
      let P : Root → Type 0 = λ there. IsAssignment checked.mode there.variables e → HaveOneValue problem.given f e there.formula e in
      let kept : HaveOneValue problem.given f e root.formula e = subst P (sym is.4) (λ own. spread_keeps_value problem.given checked.mode variables f e own (λ w free. (is.3.free w).1 free)) assigned in (
        (
          λ some. kept.0.0 (let Q : Form → Type 0 = λ g. Yes problem.given g e in subst Q (exports_stand_once checked answers i some.0 f well some.1 is.2) some.2),
          λ holds. (f, is.2, kept.0.1 holds),
        ),
        (
          λ some. kept.1.0 (let Q : Form → Type 0 = λ g. No problem.given g e in subst Q (exports_stand_once checked answers i some.0 f well some.1 is.2) some.2),
          λ fails. (f, is.2, kept.1.1 fails),
        ),
      )

pub questions_keep_values : QuestionsKeepValues
questions_keep_values checked answers asked well among = question_keeps checked answers well asked among

pub roots_keep_values : RootsKeepValues
roots_keep_values checked answers i root well is = root_keeps checked answers well i root is
