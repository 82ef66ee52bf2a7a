use Rattle.std.proofs.Common.{◌+◌, ◌∷◌, [], length, ap, sym, subst, ◌∙◌, length-append, arith}
use Rattle.ms_arena.specs.declared.node.Ref.TheVariants.{Inner}
use Rattle.ms_minim.specs.inner.Image.{IsImage, HaveImages}
use Rattle.ms_minim.specs.inner.Origin.{IsOn}
use Rattle.ms_minim.proofs.ImageLemmas.{HaveImages-more}
use Rattle.ms_minim.proofs.images.images_of.Goals as goal

pub loop-place-preserved : goal.loop-place-preserved
loop-place-preserved c =
    let was = c.loop-place.invariant in
    let old = c.args.reached.now.store.now.nodes in
    let classes = c.args.reached.now.classes.now in
    let origins = c.args.reached.now.origins.now in
    let after = c.image_at.new.store.nodes in
    let pushed = c.in_ok-push.ensures.pushed in (
      ap length pushed ∙ length-append c.loop-place.list (c.in_ok-made.made ∷ []) ∙ ap (λ n. n + 1) was.0,
      c.in_ok-made.ensures.store,
      subst (HaveImages after old classes origins) (sym pushed)
          (HaveImages-more c.loop-place.store.nodes after old classes origins c.loop-place.list c.in_ok-made.made was.1.ordered c.in_ok-made.ensures.extends was.2
          (subst (λ p. IsOn origins (Inner p) → IsImage after old classes (Inner p) c.in_ok-made.made) (sym was.0) c.in_ok-made.ensures.image)),
      (let few = was.3 in let one = c.in_ok-made.ensures.one in omega (arith, few, one)),
    )
