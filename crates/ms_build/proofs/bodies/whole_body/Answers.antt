use Rattle.std.proofs.Common.{[], ◌∷◌, ◌++◌, ap, sym, subst, ◌∙◌}
use Rattle.ms_dfa.specs.Automaton.{variables_of}
use Rattle.ms_logic_words.specs.Content.{variables_by_place}
use Rattle.ms_logic.specs.Lists.{AreRising, IsAmong}
use Rattle.ms_build.specs.Built.{child_meaning, entries_of, imports_for}
use Rattle.ms_build.proofs.WholeLemmas.{rising-by_place}
use Rattle.ms_build.proofs.WiderLemmas.{over_by}
use Rattle.std.proofs.lemmas.Result.{IfOk-weaker}
use Rattle.ms_build.specs.Short.{ChildLacks, WideningLacks}
use Rattle.ms_build.proofs.RefusalLemmas.{refused_more}
use Rattle.ms_build.proofs.bodies.whole_body.Goals as goal

pub over_tracks-requires-clause-rising : goal.over_tracks-requires-clause-rising
over_tracks-requires-clause-rising c =
    subst AreRising (sym (ap variables_of c.slice.ensures ∙ c.in-Ok-body_tracks.ensures)) (rising-by_place 0 (c.args.orders.now ++ c.args.bound.order ∷ []))

pub over_tracks-requires-clause-among : goal.over_tracks-requires-clause-among
over_tracks-requires-clause-among c v there =
    subst (λ vs. IsAmong vs v) (sym (ap variables_of c.slice.ensures ∙ c.in-Ok-body_tracks.ensures)) ((c.in-Ok.ensures.part (c.args.orders.now ++ c.args.bound.order ∷ []) c.requires.read).among v there)

pub returns-clause-body : goal.returns-clause-body
returns-clause-body c =
    let plan = c.args.plan.now in
    let inside = c.args.orders.now ++ c.args.bound.order ∷ [] in
    let part = c.in-Ok.ensures.part inside c.requires.read in
    over_by plan.mode (variables_by_place inside) (child_meaning (imports_for plan) (entries_of plan) c.args.body.now) c.in-Ok.part (variables_of c.slice.result.now) c.over_tracks.result
    c.states.ensures.automaton part.mode_is part.values (ap variables_of c.slice.ensures ∙ c.in-Ok-body_tracks.ensures) part.among c.over_tracks.ensures.over

pub returns-clause-least : goal.returns-clause-least
returns-clause-least c =
    IfOk-weaker c.over_tracks.result _ _ (λ whole least. (c.in-Ok.part, c.in-Ok.ensures.operand, least)) c.over_tracks.ensures.least

pub returns-clause-nodes : goal.returns-clause-nodes
returns-clause-nodes c =
    let plan = c.args.plan.now in
    let wanted = variables_by_place (c.args.orders.now ++ c.args.bound.order ∷ []) in
    refused_more (λ refused. WideningLacks plan.limit c.in-Ok.part (variables_of c.slice.result.now)) (λ refused. ChildLacks plan c.args.body.now wanted) c.over_tracks.result
    (λ refused short.
    record {
      part = c.in-Ok.part;
      is_part = c.in-Ok.ensures.operand;
      short = subst (WideningLacks plan.limit c.in-Ok.part) (ap variables_of c.slice.ensures ∙ c.in-Ok-body_tracks.ensures) short;
    })
    c.over_tracks.ensures.nodes
