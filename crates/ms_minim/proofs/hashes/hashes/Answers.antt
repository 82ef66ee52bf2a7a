use Rattle.std.proofs.Common.{◌≡◌, ◌∷◌, ◌++◌, [], length, length-append, sym, ap, subst, ◌∙◌, arith}
use Rattle.ms_minim.specs.inner.Hash.{joined, hash_of, HaveHashes}
use Rattle.ms_minim.proofs.HashLemmas.{HaveHashes-more}
use Rattle.ms_minim.proofs.hashes.hashes.Goals as goal

pub loop-place-preserved : goal.loop-place-preserved
loop-place-preserved c =
    let nodes = c.args.store.now.nodes in
    let classes = c.args.classes.now in
    let made = c.loop-place.made in
    let node = c.node-node.result in
    let low = c.hash_of-low.ensures ∙ ap (λ hashes. hash_of classes hashes node.low) c.slice.ensures in
    let high = c.hash_of-high.ensures ∙ ap (λ hashes. hash_of classes hashes node.high) c.slice-in-loop-place.ensures in
    let hash : c.joined.result ≡ joined node.var (hash_of classes made node.low) (hash_of classes made node.high) = c.joined.ensures ∙ (λ i. joined node.var (low i) (high i)) in
    let pushed = c.in_ok-push.ensures.ok ∙ ap (λ hash. made ++ hash ∷ []) hash in (
      ap length c.in_ok-push.ensures.ok ∙ (let longer = length-append made (c.joined.result ∷ []) in let count = c.loop-place.invariant.0 in omega (arith, longer, count)),
      subst (HaveHashes nodes classes) (sym pushed) (HaveHashes-more nodes c.node-node.ensures.store.ordered classes made c.loop-place.place node c.node-node.ensures.held c.loop-place.invariant.0 c.loop-place.invariant.1),
    )
