use Rattle.std.proofs.Common.{◌≡◌, ◌<◌, false, true, List, length, slice_get, slice_index, Some, sym, subst, ◌∙◌, arith}
use Rattle.ms_arena.specs.declared.node.Node.{Node}
use Rattle.ms_arena.proofs.Lists.{slice_get-held}
use Rattle.ms_minim.specs.inner.Origin.{nowhere}
use Rattle.ms_minim.proofs.OriginLemmas.{OriginsSoFar-ends, OriginsSoFar-unseen, same_item}
use Rattle.ms_minim.proofs.origins.note_ends.Goals as goal

pub returns-then-is_seen : goal.returns-then-is_seen
returns-then-is_seen c =
    let held = subst (λ (list : List Node). slice_get list c.args.place ≡ Some c.node-node.result) c.store.ensures c.node-node.ensures.held in
    let items = c.args.origins.now.nodes.items in
    let place = c.args.place in
    let origin = c.index-origin.result.now in
    let within : place < length items = let inside = c.requires.place in let same = c.requires.origins.nodes in omega (arith, inside, same) in
    let is : origin ≡ slice_index items place = c.index-origin.ensures ∙ same_item items place origin within in
    OriginsSoFar-ends c.args.automaton.now c.states.ensures.automaton c.args.origins.now _ place c.requires.origins c.node-node.result held
    (subst (λ from. from < nowhere) is (c.is_seen.ensures.0 c.if-is_seen.true)) origin is c.note.new.origins c.note-then-is_seen.new.origins c.note.ensures c.note-then-is_seen.ensures

pub returns-else-is_seen : goal.returns-else-is_seen
returns-else-is_seen c =
    let node = slice_get-held c.args.automaton.now.nodes c.args.place c.requires.place in
    let items = c.args.origins.now.nodes.items in
    let place = c.args.place in
    let origin = c.index-origin.result.now in
    let within : place < length items = let inside = c.requires.place in let same = c.requires.origins.nodes in omega (arith, inside, same) in
    let is : origin ≡ slice_index items place = c.index-origin.ensures ∙ same_item items place origin within in
    OriginsSoFar-unseen c.args.automaton.now c.states.ensures.automaton c.args.origins.now _ place c.requires.origins node.0 node.1
    (λ seen.
    let both : false ≡ true = sym c.if-is_seen.false ∙ c.is_seen.ensures.1 (subst (λ from. from < nowhere) (sym is) seen) in
    let never : ⊥ = cc in never)
