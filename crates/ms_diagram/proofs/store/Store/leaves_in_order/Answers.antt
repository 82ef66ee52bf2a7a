use Rattle.std.proofs.Common.{length, fold, ap, ◌∙◌}
use Rattle.ms_arena.specs.Leaves.{leaves_within}
use Rattle.ms_diagram.specs.Leaves.{noted, leaves_of}
use Rattle.ms_diagram.proofs.store.Store.leaves_in_order.Goals as goal

pub returns : goal.returns
unfolding leaves_of
returns c =
    let nodes = c.args.self.now.nodes in
    c.from.ensures ∙ c.in-Ok.ensures.items ∙ c.as_slice.ensures.keys ∙ c.in_ok-note_leaves.ensures.leaves
    ∙ ap (λ seen. fold noted seen (leaves_within nodes (length nodes) c.args.root)) c.new-leaves.ensures.empty
