use Rattle.std.proofs.Common.{drop, length, ap, ◌∙◌, rules}
use Rattle.std.proofs.lemmas.List.{take_at}
use Rattle.ms_diagram.specs.inner.Listed.{lists_of}
use Rattle.ms_diagram.proofs.ListedLemmas.{IsListTable-linked}
use Rattle.ms_diagram.proofs.list_table.make_room.Goals as goal

pub returns-clause-table : goal.returns-clause-table
returns-clause-table c =
    let old = c.make_numbers.new.cells.items in
    let new = c.make_buckets.new.cells in
    let written = take_at new (drop (length new) old) c.make_numbers.new.cells.len (search rules) in
    rw written (IsListTable-linked c.make_numbers.new.roots.items old new c.make_numbers.new.heads.items c.make_buckets.new.heads.items c.make_numbers.ensures.table
    (c.make_buckets.ensures.lists ∙ ap lists_of c.deref_mut.ensures.value) c.make_buckets.ensures.chained c.make_buckets.ensures.bucketed)
