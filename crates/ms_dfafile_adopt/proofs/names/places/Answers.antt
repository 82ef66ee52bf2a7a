use Rattle.std.proofs.Common.{◌∷◌, [], ◌++◌, ◌+◌, Some, take, ap, sym, subst, ◌∙◌}
use Rattle.ms_dfafile_adopt.specs.inner.Map.{ArePlacesOf, FindsName}
use Rattle.ms_dfafile_adopt.proofs.ListLemmas.{item_at, take_item}
use Rattle.ms_dfafile_adopt.proofs.MapLemmas.{ArePlacesOf-more}
use Rattle.ms_dfafile_adopt.proofs.names.places.Goals as goal

pub returns-in-None-clause-none : goal.returns-in-None-clause-none
returns-in-None-clause-none c there =
    let names = c.args.names.now in
    let i = c.loop-name.name-index in
    let found = there i c.name-item.result (item_at c.args.wanted.now i c.name-item.result c.loop-name-test.true c.name-item.is) in
    let none = subst (FindsName names c.bytes.result.now) (sym c.in-None.ensures.value) (c.in_ok-table.ensures c.bytes.result) in
    none found.0 (found.1 ∙ ap Some (sym c.bytes.ensures))

pub loop-name-preserved : goal.loop-name-preserved
loop-name-preserved c =
    let names = c.args.names.now in
    let wanted = c.args.wanted.now in
    let i = c.loop-name.name-index in
    let held = subst (FindsName names c.bytes.result.now) (sym c.in-Some.ensures.value) (c.in_ok-table.ensures c.bytes.result) in
    subst (ArePlacesOf names (take (i + 1) wanted)) (sym c.in_ok-push-in-Some.ensures.ok)
    (subst (λ list. ArePlacesOf names list (c.loop-name.made ++ c.in-Some.place.now ∷ [])) (take_item wanted i c.name-item.result c.loop-name-test.true c.name-item.is)
    (ArePlacesOf-more names (take i wanted) c.loop-name.made c.name-item.result c.in-Some.place.now c.loop-name.invariant (held ∙ ap Some c.bytes.ensures)))
