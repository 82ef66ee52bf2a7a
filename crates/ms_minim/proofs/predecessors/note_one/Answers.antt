use Rattle.std.proofs.Common.{◌<◌, [], ◌∷◌, ◌++◌, length, set, sym, ap, subst, ◌∙◌, arith}
use Rattle.ms_minim.specs.inner.Predecessors.{IsListed, AreBelow}
use Rattle.ms_minim.proofs.PredecessorsLemmas.{item_is, IsListed-kept, IsListed-added, AreBelow-added}
use Rattle.ms_minim.proofs.predecessors.note_one.Goals as goal

pub returns-in_ok-push-clause-kept : goal.returns-in_ok-push-clause-kept
returns-in_ok-push-clause-kept c state other was =
    let lists = c.args.lists.now.items in
    let within : c.args.place < length lists = let less = c.if-place-len.true in let count = c.len.ensures in omega (arith, less, count) in
    let pushed = c.in_ok-push.ensures.ok ∙ ap (λ list. list ++ c.args.item ∷ []) (item_is lists c.args.place c.index_mut-list.result.now within c.index_mut-list.ensures.value) in
    subst (λ list. IsListed (set lists c.args.place list) state other) (sym pushed) (IsListed-kept lists c.args.place c.args.item within state other was)

pub returns-in_ok-push-clause-noted : goal.returns-in_ok-push-clause-noted
returns-in_ok-push-clause-noted c within =
    let lists = c.args.lists.now.items in
    let pushed = c.in_ok-push.ensures.ok ∙ ap (λ list. list ++ c.args.item ∷ []) (item_is lists c.args.place c.index_mut-list.result.now within c.index_mut-list.ensures.value) in
    subst (λ list. IsListed (set lists c.args.place list) c.args.place c.args.item) (sym pushed) (IsListed-added lists c.args.place c.args.item within)

pub returns-in_ok-push-clause-below : goal.returns-in_ok-push-clause-below
returns-in_ok-push-clause-below c bound less were =
    let lists = c.args.lists.now.items in
    let within : c.args.place < length lists = let less = c.if-place-len.true in let count = c.len.ensures in omega (arith, less, count) in
    let pushed = c.in_ok-push.ensures.ok ∙ ap (λ list. list ++ c.args.item ∷ []) (item_is lists c.args.place c.index_mut-list.result.now within c.index_mut-list.ensures.value) in
    subst (λ list. AreBelow bound (set lists c.args.place list)) (sym pushed) (AreBelow-added lists c.args.place c.args.item within bound less were)
