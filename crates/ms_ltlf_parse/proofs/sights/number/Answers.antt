use Rattle.std.proofs.Common.{[], ◌∷◌, ◌++◌, ap, sym, ◌∙◌, subst}
use Rattle.indexmap.specs.IndexMap.{get_by_text}
use Rattle.ms_ltlf_parse.specs.inner.Sights.{IsTable}
use Rattle.ms_ltlf_parse.proofs.Sightings.{next_place, table_more}
use Rattle.ms_ltlf_parse.proofs.sights.number.Goals as goal

pub returns-clause-table : goal.returns-clause-table
returns-clause-table c =
    let held = get_by_text c.args.sights.now.places in
    let held' = get_by_text c.note.new.places in
    let none = sym c.place_of.ensures ∙ c.in_default.is in
    let kept = c.in_ok-push.ensures.ok ∙ ap (λ n. c.args.sights.now.names ++ n ∷ []) c.in_ok-new.ensures in
    subst (IsTable held') (sym kept)
    (table_more held held' c.args.sights.now.names c.args.name.now c.len-place.result c.requires.table none c.len-place.ensures c.in_ok-note.ensures)

pub returns-clause-number : goal.returns-clause-number
returns-clause-number c =
    c.len-place.ensures ∙ next_place (get_by_text c.args.sights.now.places) c.args.sights.now.names c.args.name.now c.requires.table (sym c.place_of.ensures ∙ c.in_default.is)
