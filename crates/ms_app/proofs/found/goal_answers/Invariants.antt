use Rattle.std.proofs.Common.{◌≡◌, length, take}
use Rattle.std.specs.List.{AllZip}
use Rattle.ms_build_source.specs.Values.{HasMainValue}
use Rattle.ms_logic.specs.View.{Answers, goal_question}
use Rattle.ms_logic.specs.declared.checked.Checked.{Checked}
use Rattle.ms_logic.specs.declared.checked.Placed.{Placed}
use Rattle.ms_logic_words.specs.Content.{Content}
use Rattle.ms_logic_words.specs.declared.sign.Sign.{Sign}
use Rattle.ms_app.specs.Decision.{IsGoalAnswer}
use Rattle.ms_app.proofs.GoalLemmas.{goals_among}
use Rattle.ms_app.proofs.found.goal_answers.Given as goal

-- the goals so far have been counted and answered
abbrev pub invariant-loop-placed : goal.invariant-loop-placed
invariant-loop-placed l = record {
  counted : l.place ≡ length (goals_among (take l.placed-index l.formulas));
  answered :
      (checked : Checked) (answers : Answers)
      → AllZip (λ (g : Placed) (content : Content Sign). HasMainValue (goal_question checked answers g) content) (goals_among l.formulas) l.automata
      → AllZip (IsGoalAnswer checked answers) (goals_among (take l.placed-index l.formulas)) l.given;
}
