use Rattle.std.proofs.Common.{ap, subst}
use Rattle.ms_arena.specs.Diagram.{leaf_of}
use Rattle.ms_arena.proofs.Canonicity.{same_reference}
use Rattle.ms_diagram.specs.Store.{IsStore}
use Rattle.ms_diagram.proofs.store.Store.same.Goals as goal

pub returns-clause-canonical : goal.returns-clause-canonical
returns-clause-canonical c =
    let nodes = c.args.self.now.nodes in
    let store = subst (λ s. IsStore s.nodes s.limit) c.self.view_is c.self.invariant in (
      (λ same bits. ap (λ r. leaf_of nodes r bits) same),
      (λ same. same_reference nodes store.ordered store.reduced c.args.left c.args.right c.requires.valid_left c.requires.valid_right same),
    )
