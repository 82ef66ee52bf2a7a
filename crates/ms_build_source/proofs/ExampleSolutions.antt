-- The worked examples: what solves a source with a goal.
use Rattle.std.proofs.Common.{◌≡◌, [], ◌∷◌, Some, refl, sym, ap, subst, ◌∙◌}
use Rattle.std.proofs.lemmas.Option.{same_Some}
use Rattle.ms_list.specs.declared.word.Word.{Word}
use Rattle.ms_logic.specs.declared.formula.Formula.TheVariants.{False, True}
use Rattle.ms_logic_words.specs.declared.sign.Sign.TheVariants as sign
use Rattle.ms_logic_words.specs.Content.{sign_at, sign_of}
use Rattle.ms_logic_words.specs.inner.ContentExamples.{encodings_content}
use Rattle.ms_logic_core.specs.Size.{depth_of_source, size_of_source}
use Rattle.ms_logic.specs.inner.Examples.{naturals}
use Rattle.ms_logic.specs.Tree.{Form, more_forms, no_forms, truth}
use Rattle.ms_logic.specs.Truth.{Yes}
use Rattle.ms_logic.specs.Verdict.{Problem}
use Rattle.ms_logic.specs.View.{formula_of, problem_of}
use Rattle.ms_logic.proofs.Views.{formula_of-False, formula_of-True}
use Rattle.ms_logic_words.proofs.SubsetRuns.{last_of_true}
use Rattle.ms_dfa.specs.Values.{HasValues, main_meaning}
use Rattle.ms_build_source.specs.inner.Examples.{sets_solution, sets_with_goal}
use Rattle.ms_build_source.specs.Solution.{IsSolution}
use Rattle.ms_build_source.specs.Values.{HasMainValue}
use Rattle.ms_build_source.proofs.ExampleFiles.{empty_sets, encodes_empty_sets, none_outside, nothing}

-- the automaton of `true` says Yes of each word
says_yes : (w : Word) → sign_of encodings_content w ≡ Some sign.Yes
says_yes w = ap (sign_at encodings_content) (last_of_true w)

-- a question of one formula over P and Q
abbrev question : Form → Problem
question f = record (problem_of (sets_with_goal True) []) { formulas = more_forms f no_forms }

-- it has the value of `true`
value_of_true : (f : Form) → f ≡ truth → HasMainValue (question f) encodings_content
value_of_true f is =
    let values : HasValues (main_meaning (question truth)) encodings_content = record {
      right = λ w e assigned encodes. (sign.Yes, says_yes w, ((tt, (tt, tt)), (tt, tt)));
      outside = λ w over out. absurd (none_outside w over out);
    } in
    subst (λ g. HasMainValue (question g) encodings_content) (sym is) (record { mode = refl; variables = refl; values = values })

pub solved : IsSolution (sets_with_goal True) [] (sets_solution (encodings_content ∷ []))
solved =
    let all : Form → Problem = λ f. record (problem_of (sets_with_goal True) []) { formulas = more_forms f (more_forms f no_forms) } in
    record {
      value = value_of_true (formula_of True) formula_of-True;
      goals = (value_of_true (formula_of True) formula_of-True, tt);
      names_are = refl;
      size = ap (λ f. size_of_source (all f)) (sym formula_of-True);
      depth = ap (λ f. depth_of_source (all f)) (sym formula_of-True);
    }

pub wrong_goal : ¬ IsSolution (sets_with_goal False) [] (sets_solution (encodings_content ∷ []))
wrong_goal is =
    let said = is.goals.0.values.right nothing naturals empty_sets encodes_empty_sets in
    let yes = subst (main_meaning (question (formula_of False)) naturals) (sym (same_Some sign.Yes said.0 (sym (says_yes nothing) ∙ said.1))) said.2 in
    subst (λ f. Yes (question f).given f naturals) formula_of-False yes.1.0
