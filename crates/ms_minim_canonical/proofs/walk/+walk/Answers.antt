use Rattle.std.proofs.Common.{ℕ, [], ◌∷◌, ◌++◌, fold, subst, sym, ap, ◌∙◌}
use Rattle.std.proofs.lemmas.List.Sums.{fold-append}
use Rattle.ms_arena.specs.declared.node.Ref.TheVariants.{Inner}
use Rattle.ms_diagram.specs.Leaves.{noted, KnowsAll}
use Rattle.ms_diagram.proofs.LeavesLemmas.{leaves_within-node, noted-known, KnowsAll-noted}
use Rattle.ms_minim_canonical.specs.inner.Renumbering.{KnowsBehind, leaves_from, nodes_from}
use Rattle.ms_minim_canonical.proofs.NotedLemmas.{behind-kept, behind-noted, behind-there}
use Rattle.ms_minim_canonical.proofs.PostorderLemmas.{nodes_from-node}
use Rattle.ms_minim_canonical.proofs.walk.+walk.Goals as goal

pub returns-then-contains-clause-states : goal.returns-then-contains-clause-states
returns-then-contains-clause-states t c =
    let nodes = c.args.store.now.nodes in
    let keys = c.args.seen.now.states.keys in
    sym (ap (λ root. fold noted keys (leaves_from nodes root)) c.in-Inner.is
    ∙ noted-known keys (leaves_from nodes (Inner c.in-Inner.place))
    (behind-there (λ (place : ℕ). leaves_from nodes (Inner place)) keys c.args.seen.now.places.keys c.in-Inner.place c.requires.known.leaves (sym c.contains.ensures ∙ c.if-contains.true)))

pub returns-then-contains-clause-places : goal.returns-then-contains-clause-places
returns-then-contains-clause-places t c =
    let nodes = c.args.store.now.nodes in
    let keys = c.args.seen.now.places.keys in
    sym (ap (λ root. fold noted keys (nodes_from nodes root)) c.in-Inner.is
    ∙ noted-known keys (nodes_from nodes (Inner c.in-Inner.place))
    (behind-there (λ (place : ℕ). nodes_from nodes (Inner place)) keys keys c.in-Inner.place c.requires.known.own (sym c.contains.ensures ∙ c.if-contains.true)))

pub returns-in_ok-see-in-Leaf-clause-known : goal.returns-in_ok-see-in-Leaf-clause-known
returns-in_ok-see-in-Leaf-clause-known t c =
    let nodes = c.args.store.now.nodes in
    let behind = λ (place : ℕ). leaves_from nodes (Inner place) in
    record {
      leaves = subst (λ keys. KnowsBehind behind keys c.args.seen.now.places.keys) (sym c.in_ok-see-in-Leaf.ensures)
          (behind-kept behind c.args.seen.now.states.keys (c.in-Leaf.state ∷ []) c.args.seen.now.places.keys c.requires.known.leaves);
      own = c.requires.known.own;
    }

pub returns-in_ok-see-in-Inner-clause-states : goal.returns-in_ok-see-in-Inner-clause-states
returns-in_ok-see-in-Inner-clause-states t c =
    let nodes = c.args.store.now.nodes in
    let keys = c.args.seen.now.states.keys in
    let leaves = leaves_from nodes in
    c.in_ok-walk-in-Inner-2.ensures.states
    ∙ ap (λ seen. fold noted seen (leaves c.node-node.result.high)) c.in_ok-walk-in-Inner.ensures.states
    ∙ sym (fold-append noted keys (leaves c.node-node.result.low) (leaves c.node-node.result.high))
    ∙ ap (fold noted keys) (sym (ap leaves c.in-Inner.is ∙ leaves_within-node nodes c.node-node.ensures.store.ordered c.in-Inner.place c.node-node.result c.node-node.ensures.held))

pub returns-in_ok-see-in-Inner-clause-places : goal.returns-in_ok-see-in-Inner-clause-places
returns-in_ok-see-in-Inner-clause-places t c =
    let nodes = c.args.store.now.nodes in
    let keys = c.args.seen.now.places.keys in
    let low = nodes_from nodes c.node-node.result.low in
    let high = nodes_from nodes c.node-node.result.high in
    let place = c.in-Inner.place in
    c.in_ok-see-in-Inner.ensures
    ∙ ap (λ seen. noted seen place) (c.in_ok-walk-in-Inner-2.ensures.places ∙ ap (λ seen. fold noted seen high) c.in_ok-walk-in-Inner.ensures.places ∙ sym (fold-append noted keys low high))
    ∙ sym (fold-append noted keys (low ++ high) (place ∷ []))
    ∙ ap (fold noted keys) (sym (ap (nodes_from nodes) c.in-Inner.is ∙ nodes_from-node nodes c.node-node.ensures.store.ordered place c.node-node.result c.node-node.ensures.held))

pub returns-in_ok-see-in-Inner-clause-known : goal.returns-in_ok-see-in-Inner-clause-known
returns-in_ok-see-in-Inner-clause-known t c =
    let nodes = c.args.store.now.nodes in
    let place = c.in-Inner.place in
    let states = c.walk-in-Inner.new.seen.states.keys in
    let was = c.walk-in-Inner.new.seen.places.keys in
    let leaves = λ (at : ℕ). leaves_from nodes (Inner at) in
    let own = λ (at : ℕ). nodes_from nodes (Inner at) in
    let all_leaves = subst (λ keys. KnowsAll keys (leaves place)) (sym (returns-in_ok-see-in-Inner-clause-states t c ∙ ap (λ root. fold noted c.args.seen.now.states.keys (leaves_from nodes root)) c.in-Inner.is))
    (KnowsAll-noted c.args.seen.now.states.keys (leaves place)) in
    let all_nodes = subst (λ keys. KnowsAll keys (own place)) (sym (returns-in_ok-see-in-Inner-clause-places t c ∙ ap (λ root. fold noted c.args.seen.now.places.keys (nodes_from nodes root)) c.in-Inner.is))
    (KnowsAll-noted c.args.seen.now.places.keys (own place)) in
    let now = c.in_ok-see-in-Inner.ensures in
    record {
      leaves = subst (KnowsBehind leaves states) (sym now) (behind-noted leaves states was place c.in_ok-walk-in-Inner-2.ensures.known.leaves all_leaves);
      own = subst (KnowsBehind own c.see-in-Inner.new.seen.keys) (sym now)
          (behind-noted own c.see-in-Inner.new.seen.keys was place (subst (λ keys. KnowsBehind own keys was) (sym now) (behind-kept own was (place ∷ []) was c.in_ok-walk-in-Inner-2.ensures.known.own)) all_nodes);
    }
