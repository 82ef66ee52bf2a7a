use Rattle.ms_minim_canonical.specs.inner.Renumbering.{IsNodeOf}
use Rattle.ms_minim_canonical.proofs.Paired.{paired-one}
use Rattle.ms_minim_canonical.proofs.renumber.renamed_nodes.Goals as goal

pub loop-place-preserved : goal.loop-place-preserved
loop-place-preserved c =
    paired-one (IsNodeOf c.args.store.now.nodes c.args.seen.now.states.keys c.args.seen.now.places.keys) c.args.seen.now.places.keys c.as_slice-place-items.result.now c.loop-place.place-index
    c.loop-place.made c.push.new.list c.in_ok-node.node c.as_slice-place-items.ensures.keys c.loop-place-test.true c.loop-place.invariant (c.node.result, c.node.ensures.held, c.in_ok-node.ensures)
    c.in_ok-push.ensures.ok
