use Rattle.std.proofs.Common.{◌≡◌, List, [], map, inl, inr, sym, ap, ap₂, subst, ◌∙◌}
use Rattle.std.proofs.lemmas.Result.{IfErr-weaker, IfOk-weaker}
use Rattle.std.specs.Borrow.{Bor}
use Rattle.clap.specs.Words.{IsAmong, Kinds, Row, Text, fault_of, is_simple, is_simple_and_free, kind_of, matches_of}
use Rattle.ms_app_words.specs.Command.{AsksBy, app_for}
use Rattle.ms_app_words.proofs.Taken.{app_is_taken}
use Rattle.ms_app_words.proofs.words.asked.Goals as goal

abbrev texts_of : List (Bor Text) → List Text
texts_of texts = map (λ s. s.now) texts

pub returns-in-Ok-try_get_matches_from-clause-command : goal.returns-in-Ok-try_get_matches_from-clause-command
returns-in-Ok-try_get_matches_from-clause-command c =
    let app = c.in-Ok-app.ensures in
    let words : texts_of c.as_slice.result.now ≡ c.args.words.now = ap texts_of c.as_slice.ensures.value ∙ c.in-Ok.ensures in
    let taken : fault_of (app_for c.args.verb) c.args.words.now ≡ [] = sym (ap₂ fault_of app words) ∙ c.in-Ok-try_get_matches_from.ensures.kinds (ap is_simple_and_free app ∙ (app_is_taken c.args.verb).1) in
    let rows = (c.in-Ok-try_get_matches_from.ensures.matches (ap is_simple app ∙ (app_is_taken c.args.verb).0)).0 ∙ ap₂ matches_of app words in
    IfOk-weaker c.asked_by.result _ _ (λ command asked. (taken, subst (λ (given : List Row). AsksBy c.args.verb given command) rows asked)) c.asked_by.ensures.command

pub returns-in-Ok-try_get_matches_from-clause-usage : goal.returns-in-Ok-try_get_matches_from-clause-usage
returns-in-Ok-try_get_matches_from-clause-usage c =
    let app = c.in-Ok-app.ensures in
    let words : texts_of c.as_slice.result.now ≡ c.args.words.now = ap texts_of c.as_slice.ensures.value ∙ c.in-Ok.ensures in
    let rows = (c.in-Ok-try_get_matches_from.ensures.matches (ap is_simple app ∙ (app_is_taken c.args.verb).0)).0 ∙ ap₂ matches_of app words in
    IfErr-weaker c.asked_by.result _ _ (λ fault none is_usage command taken asked. none is_usage command (subst (λ (given : List Row). AsksBy c.args.verb given command) (sym rows) asked)) c.asked_by.ensures.usage

pub returns-clause-usage : goal.returns-clause-usage
returns-clause-usage c = λ is_usage command taken asked.
    let app = c.in-Ok-app.ensures in
    let words : texts_of c.as_slice.result.now ≡ c.args.words.now = ap texts_of c.as_slice.ensures.value ∙ c.in-Ok.ensures in
    elim (c.in-Err.ensures.kinds (ap is_simple_and_free app ∙ (app_is_taken c.args.verb).1)) [
      | inl no_memory ↦ c.fault.ensures is_usage (c.kind.ensures ∙ no_memory)
      | inr among ↦ subst (λ (kinds : Kinds). IsAmong (kind_of c.in-Err.error) kinds) (ap₂ fault_of app words ∙ taken) among
    ]
