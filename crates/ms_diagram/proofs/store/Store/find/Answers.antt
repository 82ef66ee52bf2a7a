use Rattle.std.proofs.Common.{refl, inl, inr, subst}
use Rattle.ms_diagram.specs.Store.{IsNewest}
use Rattle.ms_diagram.proofs.StoreLemmas.{IsNew-over_newest}
use Rattle.ms_diagram.proofs.store.Store.find.Goals as goal
use Rattle.ms_diagram.proofs.store.Store.find.Goals.{then-is_newest-via-then-is_newest, then-is_newest-via-else-is_newest+then-is_newest-2}

pub returns-then-is_newest : goal.returns-then-is_newest
returns-then-is_newest c =
    IsNew-over_newest c.args.self.now.nodes c.args.node c.len-places.ensures.store.ordered
    (elim c.then-is_newest.branch [
      | then-is_newest-via-then-is_newest w ↦ inl (subst (λ places. IsNewest places c.args.node.low) c.len-places.ensures.len (w.if-is_newest.ensures refl))
      | then-is_newest-via-else-is_newest+then-is_newest-2 w ↦ inr (subst (λ places. IsNewest places c.args.node.high) c.len-places.ensures.len (w.if-is_newest-2.ensures refl))
    ])
