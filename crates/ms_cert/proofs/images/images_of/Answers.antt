use Rattle.std.proofs.Common.{ℕ, ◌+◌, ◌∷◌, [], List, length, length-append, ap, sym, subst, ◌∙◌}
use Rattle.ms_arena.specs.declared.node.Ref.{Ref}
use Rattle.ms_arena.specs.declared.node.Ref.TheVariants.{Inner}
use Rattle.ms_cert.specs.inner.Images.{HaveImages, IsImage}
use Rattle.ms_cert.proofs.ImageLemmas.{images-more}
use Rattle.ms_cert.proofs.images.images_of.Goals as goal

pub next_image-requires-clause-images : goal.next_image-requires-clause-images
next_image-requires-clause-images c = subst (HaveImages c.loop.store.nodes c.args.plain.now.nodes c.args.classes.now) (sym c.slice.ensures) c.loop.invariant.each

pub loop-preserved : goal.loop-preserved
loop-preserved c =
    let after = c.next_image.new.store.nodes in
    let old = c.args.plain.now.nodes in
    let classes = c.args.classes.now in
    let pushed = c.in_ok-push.ensures.ok in
    let is = subst (λ (list : List Ref). IsImage after old classes (Inner (length list)) c.in_ok-made.made) c.slice.ensures c.in_ok-made.ensures.image in
    record {
      long = ap length pushed ∙ length-append c.loop.list (c.in_ok-made.made ∷ []) ∙ ap (λ (n : ℕ). n + 1) c.loop.invariant.long;
      store = c.in_ok-made.ensures.store;
      below = c.in_ok-made.ensures.below;
      each = subst (HaveImages after old classes) (sym pushed) (images-more c.loop.store.nodes after old classes c.loop.list c.in_ok-made.made c.loop.invariant.store.ordered c.in_ok-made.ensures.extends c.loop.invariant.each is);
    }
