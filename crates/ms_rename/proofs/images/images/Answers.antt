use Rattle.std.proofs.Common.{◌≡◌, ◌+◌, ◌∷◌, [], if◌then◌else◌, List, length, ap, sym, subst, ◌∙◌, length-append}
use Rattle.ms_arena.specs.declared.node.Ref.{Ref}
use Rattle.ms_arena.specs.declared.node.Ref.TheVariants.{Inner}
use Rattle.ms_arena.specs.Diagram.{Bits, IsBefore, leaf_of}
use Rattle.ms_rename.specs.inner.Image.{IsImage, AreImages, image_of}
use Rattle.ms_rename.proofs.ImageLemmas.{IsImage-of, IsImage-node, AreImages-more}
use Rattle.ms_rename.proofs.images.images.Goals as goal

pub loop-place-preserved : goal.loop-place-preserved
loop-place-preserved c =
    let was = c.loop-place.invariant in
    let before = c.loop-place.scratch.nodes in
    let after = c.choose.new.store.nodes in
    let old = c.args.from.now.nodes in
    let places = c.args.places.now in
    let node = c.node-node.result in
    let ordered = c.node-node.ensures.store.ordered in
    let low_before = subst (λ n. IsBefore n node.low) (sym was.0) (ordered.earlier_low c.loop-place.place node c.node-node.ensures.held) in
    let high_before = subst (λ n. IsBefore n node.high) (sym was.0) (ordered.earlier_high c.loop-place.place node c.node-node.ensures.held) in
    let low_is = subst (IsImage before old places node.low) (sym (c.image-low.ensures ∙ ap (λ (images : List Ref). image_of images node.low) c.slice.ensures))
    (IsImage-of before old places c.loop-place.made node.low was.2 low_before) in
    let high_is = subst (IsImage before old places node.high) (sym (c.image-high.ensures ∙ ap (λ (images : List Ref). image_of images node.high) c.slice-in-loop-place.ensures))
    (IsImage-of before old places c.loop-place.made node.high was.2 high_before) in
    let function = subst (λ var. (bits : Bits) → leaf_of after c.in-Ok.chosen bits ≡ (if bits var then leaf_of before c.image-high.result bits else leaf_of before c.image-low.result bits))
    c.place_for.ensures c.in-Ok.ensures.function in
    let made = IsImage-node before after old places c.loop-place.place node c.image-low.result c.image-high.result c.in-Ok.chosen ordered c.node-node.ensures.held low_is high_is c.in-Ok.ensures.valid function in
    let pushed = c.in-Ok-push.ensures.ok in (
      ap length pushed ∙ length-append c.loop-place.made (c.in-Ok.chosen ∷ []) ∙ ap (λ n. n + 1) was.0,
      c.in-Ok.ensures.store,
      subst (AreImages after old places) (sym pushed)
          (AreImages-more before after old places c.loop-place.made c.in-Ok.chosen was.1.ordered c.in-Ok.ensures.extends was.2
          (subst (λ p. IsImage after old places (Inner p) c.in-Ok.chosen) (sym was.0) made)),
    )
