use Rattle.std.proofs.Common.{rules, ◌≡◌, ◌+◌, ◌<◌, ◌++◌, ◌∷◌, [], ℕ, List, Some, length, length-append, slice_get, take, refl, sym, subst, ap, ◌∙◌, arith}
use Rattle.std.specs.List.{AllZip}
use Rattle.std.proofs.lemmas.List.{take_all}
use Rattle.std.proofs.lemmas.Option.{slice_get_read, slice_get_within}
use Rattle.indexmap.proofs.SetLemmas.{AllZip-push}
use Rattle.ms_logic.specs.declared.checked.Placed.{Placed}
use Rattle.ms_build_source.specs.Values.{HasMainValue}
use Rattle.ms_logic.specs.View.{goal_question}
use Rattle.ms_logic_words.specs.Content.{Content}
use Rattle.ms_logic_words.specs.declared.sign.Sign.{Sign}
use Rattle.ms_report.specs.declared.found.GoalAnswer.{GoalAnswer}
use Rattle.ms_app.specs.Decision.{IsGoalAnswer}
use Rattle.ms_app.proofs.GoalLemmas.{element_at, goal_at, goal_next, goals_among, no_goal_next}
use Rattle.ms_app.proofs.found.goal_answers.Goals as goal
use Rattle.ms_app.proofs.found.goal_answers.Goals.{in-None, in-Some+in_ok-goal_answer-in-Some+in_ok-push-in-Some}

pub bounds-automata-place : goal.bounds-automata-place
bounds-automata-place c =
    let fs = c.args.formulas.now in
    let i = c.loop-placed.placed-index in
    let p = c.placed-item.result in
    let at = slice_get_read fs _ i p refl c.loop-placed-test.true c.placed-item.is in
    let within = slice_get_within (goals_among fs) (length (goals_among (take i fs))) p (goal_at fs i p c.in-Some.title at c.in-Some.is) in
    let counted = c.loop-placed.invariant.counted in
    let long = c.requires in
    omega (arith, within, counted, long)

pub offset_bounds-automata-place : goal.offset_bounds-automata-place
offset_bounds-automata-place c =
    let within : c.loop-placed.place < length c.args.automata.now = bounds-automata-place c in search rules

pub overflow_add-place : goal.overflow_add-place
overflow_add-place c =
    let fs = c.args.formulas.now in
    let i = c.loop-placed.placed-index in
    let p = c.placed-item.result in
    let at = slice_get_read fs _ i p refl c.loop-placed-test.true c.placed-item.is in
    let beyond = slice_get_within (goals_among fs) (length (goals_among (take i fs))) p (goal_at fs i p c.in-Some.title at c.in-Some.is) in
    let counted = c.loop-placed.invariant.counted in
    let long = c.requires in
    let within : c.loop-placed.place < length c.args.automata.now = omega (arith, beyond, counted, long) in search rules

pub loop-placed-preserved : goal.loop-placed-preserved
loop-placed-preserved c =
    let inv = c.loop-placed.invariant in
    let fs = c.args.formulas.now in
    let i = c.loop-placed.placed-index in
    let p = c.placed-item.result in
    let at = slice_get_read fs _ i p refl c.loop-placed-test.true c.placed-item.is in
    elim c.match-placed.branch [
      | in-None w ↦
          let same = no_goal_next fs i p at w.in-None.is in
          record {
            counted = w.place-is ∙ (inv.counted ∙ ap (λ (l : List Placed). length l) (sym same));
            answered = λ checked answers all.
                subst (λ (l : List GoalAnswer). AllZip (IsGoalAnswer checked answers) (goals_among (take (i + 1) fs)) l) (sym w.given-is)
                (subst (λ (l : List Placed). AllZip (IsGoalAnswer checked answers) l c.loop-placed.given) (sym same) (inv.answered checked answers all));
          }
      | in-Some+in_ok-goal_answer-in-Some+in_ok-push-in-Some w ↦
          let title = w.in-Some.title in
          let made = w.in_ok-goal_answer-in-Some.field-0 in
          let same = goal_next fs i p title at w.in-Some.is in
          let before = goals_among (take i fs) in
          record {
            counted =
                let counted = inv.counted in
                let place = w.place-is in
                let more = ap (λ (l : List Placed). length l) same ∙ length-append before (p ∷ []) in
                omega (arith, counted, place, more);
            answered = λ checked answers all.
                let R : Placed → GoalAnswer → Type 0 = IsGoalAnswer checked answers in
                let here = subst (λ k. slice_get (goals_among fs) k ≡ Some p) (sym inv.counted) (goal_at fs i p title at w.in-Some.is) in
                let both = AllZip-push R before c.loop-placed.given p made (inv.answered checked answers all) (
                  w.in-Some.is ∙ ap Some (sym w.in_ok-goal_answer-in-Some.ensures.title),
                  w.in_ok-goal_answer-in-Some.ensures.answer (goal_question checked answers p)
                      (subst (HasMainValue (goal_question checked answers p)) (sym w.index-automata-place.is)
                      (element_at (λ (g : Placed) (content : Content Sign). HasMainValue (goal_question checked answers g) content) (goals_among fs) c.args.automata.now c.loop-placed.place p
                      w.index-automata-place.result all here)),
                ) in
                subst (λ (l : List GoalAnswer). AllZip R (goals_among (take (i + 1) fs)) l) (sym (w.given-is ∙ w.in_ok-push-in-Some.ensures.ok))
                (subst (λ (l : List Placed). AllZip R l (c.loop-placed.given ++ made ∷ [])) (sym same) both);
          }
    ]

pub returns : goal.returns
returns c = λ checked answers all.
    let fs = c.args.formulas.now in
    let past = c.loop-placed-test.false in
    subst (λ (l : List Placed). AllZip (IsGoalAnswer checked answers) (goals_among l) c.loop-placed.given)
    (take_all c.loop-placed.placed-index fs (omega (arith, past))) (c.loop-placed.invariant.answered checked answers all)
