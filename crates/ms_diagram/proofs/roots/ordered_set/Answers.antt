use Rattle.std.proofs.lemmas.List.Filters.{dedup_is}
use Rattle.ms_arena.proofs.Equality.{same_ref, ref_laws}
use Rattle.ms_diagram.proofs.RootLemmas.{HaveSameItems-sorted}
use Rattle.ms_diagram.proofs.roots.ordered_set.Goals as goal

pub returns : goal.returns
returns c =
    rw c.new-2.ensures (HaveSameItems-sorted ref_laws same_ref c.args.roots.items c.sort_unstable_by_key.new.self.items c.dedup.new.self.items
    c.sort_unstable_by_key.ensures.permutation (dedup_is _ _ _ c.dedup.ensures.filtered))
