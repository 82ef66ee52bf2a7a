use Rattle.std.proofs.Common.{length, arith}
use Rattle.ms_dfafile_outside.proofs.FileLemmas.{length-variables}
use Rattle.ms_cert.proofs.ImageLemmas.{below-appends, image-node, image-read}
use Rattle.ms_cert.proofs.images.next_image.Goals as goal

pub mk-requires-clause-above_low : goal.mk-requires-clause-above_low
mk-requires-clause-above_low c =
    let node = c.get-node.result.now in
    let place = length c.args.images.now in
    let ordered = c.requires.content.ordered in
    let low = image-read c.args.store.now.nodes c.args.plain.now.nodes c.args.classes.now c.args.images.now node.low c.image-low.result c.requires.images (ordered.earlier_low place node c.get-node.ensures) c.image-low.ensures in
    low.above node.var (ordered.rising_low place node c.get-node.ensures)

pub mk-requires-clause-above_high : goal.mk-requires-clause-above_high
mk-requires-clause-above_high c =
    let node = c.get-node.result.now in
    let place = length c.args.images.now in
    let ordered = c.requires.content.ordered in
    let high = image-read c.args.store.now.nodes c.args.plain.now.nodes c.args.classes.now c.args.images.now node.high c.image-high.result c.requires.images (ordered.earlier_high place node c.get-node.ensures) c.image-high.ensures in
    high.above node.var (ordered.rising_high place node c.get-node.ensures)

pub returns-clause-image : goal.returns-clause-image
returns-clause-image c =
    let node = c.get-node.result.now in
    let place = length c.args.images.now in
    let ordered = c.requires.content.ordered in
    let low = image-read c.args.store.now.nodes c.args.plain.now.nodes c.args.classes.now c.args.images.now node.low c.image-low.result c.requires.images (ordered.earlier_low place node c.get-node.ensures) c.image-low.ensures in
    let high = image-read c.args.store.now.nodes c.args.plain.now.nodes c.args.classes.now c.args.images.now node.high c.image-high.result c.requires.images (ordered.earlier_high place node c.get-node.ensures) c.image-high.ensures in
    image-node c.args.store.now.nodes c.mk.new.self.nodes c.args.plain.now.nodes c.args.classes.now place node c.image-low.result c.image-high.result c.in-Ok.made
    ordered c.get-node.ensures low high c.in-Ok.ensures.valid c.in-Ok.ensures.function c.in-Ok.ensures.above

pub returns-clause-below : goal.returns-clause-below
returns-clause-below c =
    let plain = c.args.plain.now in
    let node = c.get-node.result.now in
    let less = c.requires.content.variables (length c.args.images.now) node c.get-node.ensures in
    below-appends c.args.store.now.nodes c.mk.new.self.nodes (record { var = node.var; low = c.image-low.result; high = c.image-high.result }) (length plain.variables) c.in-Ok.ensures.appends c.requires.below (omega (arith, less, length-variables plain))
