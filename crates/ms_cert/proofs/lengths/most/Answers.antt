use Rattle.std.proofs.Common.{◌≡◌, ℕ, ◌+◌, List, max, get_or, slice_get, Some, sym, ap, subst, ◌∙◌}
use Rattle.std.proofs.lemmas.Option.{slice_get-get_or}
use Rattle.ms_arena.specs.declared.node.Node.{Node}
use Rattle.ms_arena.specs.declared.node.Ref.TheVariants.{Leaf}
use Rattle.ms_cert.specs.inner.Lengths.{AreMost, most_at}
use Rattle.ms_cert.proofs.LengthsLemmas.{most-more}
use Rattle.ms_cert.proofs.lengths.most.Goals as goal

-- the node of this turn
abbrev node_at : List Node → ℕ → Node
node_at items place = get_or items place (record { var = 0; low = Leaf 0; high = Leaf 0 })

pub loop-node-preserved : goal.loop-node-preserved
loop-node-preserved c =
    let nodes = c.args.plain.now.nodes in
    let words = c.args.words.now in
    let place = c.loop-node.node-index in
    let node = node_at c.slice-node-items.result.now place in
    let held : slice_get nodes place ≡ Some node =
    ap (λ (list : List Node). slice_get list place) (sym c.slice-node-items.ensures) ∙ slice_get-get_or c.slice-node-items.result.now place (record { var = 0; low = Leaf 0; high = Leaf 0 }) c.loop-node-test.true in
    let low = c.most_at-low.ensures ∙ ap (λ (known : List ℕ). most_at words known node.low) c.slice.ensures in
    let high = c.most_at-high.ensures ∙ ap (λ (known : List ℕ). most_at words known node.high) c.slice-in-loop-node.ensures in
    subst (λ (known : List ℕ). AreMost nodes words known (place + 1)) (sym c.in_ok-push.ensures.ok)
    (most-more nodes words c.requires.content.ordered c.loop-node.known place c.max.result node c.loop-node.invariant held (c.max.ensures ∙ ap (λ (n : ℕ). max n c.most_at-high.result) low ∙ ap (λ (n : ℕ). max (most_at words c.loop-node.known node.low) n) high))
