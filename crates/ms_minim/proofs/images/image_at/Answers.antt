use Rattle.std.proofs.Common.{◌<◌, length, slice_index, refl, subst, arith}
use Rattle.ms_minim.specs.inner.Origin.{nowhere}
use Rattle.ms_minim.proofs.ImageLemmas.{IsImage-end, IsImage-node}
use Rattle.ms_minim.proofs.OriginLemmas.{same_item}
use Rattle.ms_minim.proofs.images.image_at.Goals as goal

pub mk-requires-clause-above_low : goal.mk-requires-clause-above_low
mk-requires-clause-above_low c =
    let old = c.args.reached.now.store.now.nodes in
    let classes = c.args.reached.now.classes.now in
    let origins = c.args.reached.now.origins.now in
    let place = c.args.place in
    let node = c.node-node.result in
    let held = c.node-node.ensures.held in
    let ordered = c.node-node.ensures.store.ordered in
    let within : place < length origins = let inside = c.requires.place in let same = c.requires.origins in omega (arith, inside, same) in
    let on : slice_index origins place < nowhere = subst (λ from. from < nowhere) (same_item origins place _ within) (c.if-not-is_seen.ensures.0 refl) in
    let ends = c.requires.closed place node held on in
    (IsImage-end c.args.store.now.nodes old classes origins c.args.images.now node.low c.image-low.result place c.requires.images c.requires.long (ordered.earlier_low place node held) ends.0 c.image-low.ensures).above node.var (ordered.rising_low place node held)

pub mk-requires-clause-above_high : goal.mk-requires-clause-above_high
mk-requires-clause-above_high c =
    let old = c.args.reached.now.store.now.nodes in
    let classes = c.args.reached.now.classes.now in
    let origins = c.args.reached.now.origins.now in
    let place = c.args.place in
    let node = c.node-node.result in
    let held = c.node-node.ensures.held in
    let ordered = c.node-node.ensures.store.ordered in
    let within : place < length origins = let inside = c.requires.place in let same = c.requires.origins in omega (arith, inside, same) in
    let on : slice_index origins place < nowhere = subst (λ from. from < nowhere) (same_item origins place _ within) (c.if-not-is_seen.ensures.0 refl) in
    let ends = c.requires.closed place node held on in
    (IsImage-end c.args.store.now.nodes old classes origins c.args.images.now node.high c.image-high.result place c.requires.images c.requires.long (ordered.earlier_high place node held) ends.1 c.image-high.ensures).above node.var (ordered.rising_high place node held)

pub returns-clause-image : goal.returns-clause-image
returns-clause-image c on_place =
    let old = c.args.reached.now.store.now.nodes in
    let classes = c.args.reached.now.classes.now in
    let origins = c.args.reached.now.origins.now in
    let place = c.args.place in
    let node = c.node-node.result in
    let held = c.node-node.ensures.held in
    let ordered = c.node-node.ensures.store.ordered in
    let within : place < length origins = let inside = c.requires.place in let same = c.requires.origins in omega (arith, inside, same) in
    let on : slice_index origins place < nowhere = subst (λ from. from < nowhere) (same_item origins place _ within) (c.if-not-is_seen.ensures.0 refl) in
    let ends = c.requires.closed place node held on in
    let low_is = IsImage-end c.args.store.now.nodes old classes origins c.args.images.now node.low c.image-low.result place c.requires.images c.requires.long (ordered.earlier_low place node held) ends.0 c.image-low.ensures in
    let high_is = IsImage-end c.args.store.now.nodes old classes origins c.args.images.now node.high c.image-high.result place c.requires.images c.requires.long (ordered.earlier_high place node held) ends.1 c.image-high.ensures in
    IsImage-node c.args.store.now.nodes c.mk.new.self.nodes old classes place node c.image-low.result c.image-high.result c.in-Ok.made ordered held low_is high_is
    c.in-Ok.ensures.valid c.in-Ok.ensures.function c.in-Ok.ensures.above
