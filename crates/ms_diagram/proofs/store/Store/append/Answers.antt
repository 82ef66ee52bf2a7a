use Rattle.std.proofs.Common.{◌<◌, ◌++◌, ◌∷◌, [], length, slice_get, sym, ap, subst, ◌∙◌, arith}
use Rattle.ms_arena.specs.Target.{IsFormed, IsNew}
use Rattle.ms_arena.proofs.Lists.{slice_get-push}
use Rattle.ms_diagram.specs.Store.{IsStore}
use Rattle.ms_diagram.proofs.StoreLemmas.{IsStore-push}
use Rattle.ms_diagram.proofs.store.Store.append.Goals as goal

pub invariant_of-self-2 : goal.invariant_of-self-2
invariant_of-self-2 c =
    let held = c.self.inside.nodes.nodes in
    let count = ap (λ store. length store.nodes) c.self.view_is in
    let within = c.self.invariant.within in
    let limit = ap (λ store. store.limit) c.self.view_is in
    let room : length held < c.self.inside.limit = omega (arith, c.len.ensures.len) in
    subst (λ list. IsStore list c.self.inside.limit) (sym (c.push.ensures.nodes ∙ ap (λ list. list ++ c.args.node ∷ []) c.reserve.ensures.nodes))
    (IsStore-push held c.self.inside.limit c.args.node
    (subst (λ store. IsFormed store.nodes c.args.node) (sym c.self.view_is) c.requires.formed)
    (subst (λ store. IsNew store.nodes c.args.node) (sym c.self.view_is) c.requires.new) c.self.invariant room)

pub returns-clause-store : goal.returns-clause-store
returns-clause-store c = invariant_of-self-2 c

pub returns-clause-held : goal.returns-clause-held
returns-clause-held c =
    ap (λ list. slice_get list c.push.result) c.push.ensures.nodes
    ∙ ap (slice_get (c.reserve.new.self.nodes ++ c.args.node ∷ [])) c.push.ensures.place
    ∙ slice_get-push c.reserve.new.self.nodes c.args.node
