use Rattle.std.proofs.Common.{◌+◌, ◌∷◌, [], if◌then◌else◌, List, ℕ, length, get_or, ap, sym, subst, ◌∙◌, length-append}
use Rattle.std.proofs.lemmas.Option.{slice_get-get_or}
use Rattle.ms_arena.specs.declared.node.Node.{Node}
use Rattle.ms_arena.specs.declared.node.Ref.{Ref}
use Rattle.ms_arena.specs.declared.node.Ref.TheVariants.{Leaf}
use Rattle.ms_arena.specs.Diagram.{IsBefore, TestsAbove, leaf_of}
use Rattle.ms_arena.proofs.Appending.{Extends-from_appends}
use Rattle.ms_rename.specs.inner.Image.{image_of}
use Rattle.ms_dfafile_adopt.specs.inner.Images.{HaveBecome}
use Rattle.ms_dfafile_adopt.proofs.OverSetsLemmas.{HasBecome-of, HaveBecome-more}
use Rattle.ms_dfafile_adopt.proofs.ShortLemmas.{few_more}
use Rattle.ms_dfafile_adopt.proofs.images.images.Goals as goal

-- the node of this turn
abbrev node_at : List Node → ℕ → Node
node_at nodes place = get_or nodes place (record { var = 0; low = Leaf 0; high = Leaf 0 })

pub mk-requires-clause-above_low : goal.mk-requires-clause-above_low
mk-requires-clause-above_low c =
    let nodes = c.args.nodes.now in
    let place = c.loop-node.node-index in
    let node = node_at nodes place in
    let held = slice_get-get_or nodes place (record { var = 0; low = Leaf 0; high = Leaf 0 }) c.loop-node-test.true in
    let was = c.loop-node.invariant in
    let before = subst (λ n. IsBefore n node.low) (sym was.0) (c.requires.ordered.earlier_low place node held) in
    let is = c.image-low.ensures ∙ ap (λ (images : List Ref). image_of images node.low) c.slice.ensures in
    subst (TestsAbove c.loop-node.store.nodes node.var) (sym is) ((HasBecome-of c.loop-node.store.nodes nodes c.loop-node.made node.low was.2 before).above node.var (c.requires.ordered.rising_low place node held))

pub mk-requires-clause-above_high : goal.mk-requires-clause-above_high
mk-requires-clause-above_high c =
    let nodes = c.args.nodes.now in
    let place = c.loop-node.node-index in
    let node = node_at nodes place in
    let held = slice_get-get_or nodes place (record { var = 0; low = Leaf 0; high = Leaf 0 }) c.loop-node-test.true in
    let was = c.loop-node.invariant in
    let before = subst (λ n. IsBefore n node.high) (sym was.0) (c.requires.ordered.earlier_high place node held) in
    let is = c.image-high.ensures ∙ ap (λ (images : List Ref). image_of images node.high) c.slice-in-loop-node.ensures in
    subst (TestsAbove c.loop-node.store.nodes node.var) (sym is)
    ((HasBecome-of c.loop-node.store.nodes nodes c.loop-node.made node.high was.2 before).above node.var (c.requires.ordered.rising_high place node held))

pub loop-node-preserved : goal.loop-node-preserved
loop-node-preserved c =
    let nodes = c.args.nodes.now in
    let place = c.loop-node.node-index in
    let node = node_at nodes place in
    let held = slice_get-get_or nodes place (record { var = 0; low = Leaf 0; high = Leaf 0 }) c.loop-node-test.true in
    let was = c.loop-node.invariant in
    let before = c.loop-node.store.nodes in
    let after = c.mk.new.self.nodes in
    let low_is = c.image-low.ensures ∙ ap (λ (images : List Ref). image_of images node.low) c.slice.ensures in
    let high_is = c.image-high.ensures ∙ ap (λ (images : List Ref). image_of images node.high) c.slice-in-loop-node.ensures in
    let extends = Extends-from_appends before after (record { var = node.var; low = c.image-low.result; high = c.image-high.result }) c.in-Ok.ensures.appends in
    let pushed = c.in-Ok-push.ensures.ok in (
      ap length pushed ∙ length-append c.loop-node.made (c.in-Ok.next ∷ []) ∙ ap (λ n. n + 1) was.0,
      c.in-Ok.ensures.store,
      subst (HaveBecome after nodes) (sym pushed)
          (HaveBecome-more before after nodes c.requires.ordered extends c.in-Ok.ensures.kept c.loop-node.made was.2 place node held was.0 c.in-Ok.next c.in-Ok.ensures.valid
          (λ bits. c.in-Ok.ensures.function bits ∙ (λ i. if bits node.var then leaf_of before (high_is i) bits else leaf_of before (low_is i) bits)) c.in-Ok.ensures.above),
      c.in-Ok.ensures.limit ∙ was.3,
      few_more before after (record { var = node.var; low = c.image-low.result; high = c.image-high.result }) place c.in-Ok.ensures.appends was.4,
    )
