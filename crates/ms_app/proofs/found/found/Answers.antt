use Rattle.std.proofs.Common.{◌≡◌, length, List, sym, subst, ap, ◌∙◌}
use Rattle.std.specs.List.{AllZip}
use Rattle.ms_build_source.specs.Values.{HasMainValue}
use Rattle.ms_logic.specs.View.{goal_question, goals_in, main_question}
use Rattle.ms_logic.specs.declared.checked.Placed.{Placed}
use Rattle.ms_logic_words.specs.Content.{Content}
use Rattle.ms_logic_words.specs.declared.sign.Sign.{Sign}
use Rattle.ms_app.specs.Decision.{IsGoalAnswer}
use Rattle.ms_app.proofs.GoalLemmas.{goals_among}
use Rattle.ms_app.proofs.found.found.Goals as goal

pub goal_answers-requires : goal.goal_answers-requires
goal_answers-requires c =
    let P : List Placed → Type 0 = λ fs. length (goals_among fs) ≡ length c.slice-2.result.now in
    subst P (sym c.slice.ensures) (c.requires ∙ ap (λ (l : List (Content Sign)). length l) (sym c.slice-2.ensures))

pub returns-clause-found : goal.returns-clause-found
returns-clause-found c = λ answers is.
    let checked = c.args.checked.now in
    let R : Placed → Content Sign → Type 0 = λ g content. HasMainValue (goal_question checked answers g) content in
    record {
      globals = is.names_are;
      main = c.in_ok-main.ensures (main_question checked answers) is.value;
      goals =
          subst (λ fs. AllZip (IsGoalAnswer checked answers) (goals_among fs) c.in_ok-goals.goals) c.slice.ensures
          (c.in_ok-goals.ensures checked answers
          (subst (λ fs. AllZip R (goals_among fs) c.slice-2.result.now) (sym c.slice.ensures) (subst (AllZip R (goals_in checked)) (sym c.slice-2.ensures) is.goals)));
    }
