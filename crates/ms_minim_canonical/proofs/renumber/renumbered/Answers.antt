use Rattle.ms_minim_canonical.proofs.WalkedLemmas.{places-below}
use Rattle.ms_minim_canonical.proofs.renumber.renumbered.Goals as goal

pub renamed_nodes-requires : goal.renamed_nodes-requires
renamed_nodes-requires c =
    let seen = c.in_ok-seen.ensures in
    places-below c.args.store.now.nodes c.len.ensures.store.ordered c.args.start c.args.states.now c.requires.start c.requires.next c.in_ok-seen.seen.states.keys c.in_ok-seen.seen.places.keys
    seen.states seen.below seen.places
