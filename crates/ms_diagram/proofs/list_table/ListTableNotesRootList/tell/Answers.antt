use Rattle.std.proofs.Common.{◌+◌, ◌∷◌, [], ◌++◌, Contains, drop, length, inl, sym, ap, subst, ◌∙◌, rules}
use Rattle.std.proofs.lemmas.List.{take_at}
use Rattle.ms_diagram.specs.declared.listed.Cell.{Cell}
use Rattle.ms_diagram.specs.inner.Listed.{AreChained, IsListTable, entries_of, listed_behind, lists_of}
use Rattle.ms_diagram.specs.inner.Notes.{NotesOnly}
use Rattle.ms_diagram.specs.inner.Equal.{roots_eq}
use Rattle.std.specs.Map.{lookup}
use Rattle.ms_diagram.proofs.ListedLemmas.{AreChained-append, IsListTable-told, lists-told, entries-told, lookup-told, only-told}
use Rattle.ms_diagram.proofs.list_table.ListTableNotesRootList.tell.Goals as goal

pub returns-in_err-make_room-clause-only : goal.returns-in_err-make_room-clause-only
returns-in_err-make_room-clause-only c entry among =
    inl (subst (λ entries. Contains entries entry) c.self.view_is (c.make_room.ensures.only entry among))

pub returns-in_err-append-clause-only : goal.returns-in_err-append-clause-only
returns-in_err-append-clause-only c entry among =
    let same = c.in_err-append.ensures.refused in
    let before : Contains (entries_of c.make_room.new.roots.items (lists_of c.make_room.new.cells.items)) entry =
    subst (λ roots. Contains (entries_of roots (lists_of c.make_room.new.cells.items)) entry) same.0
    (subst (λ cells. Contains (entries_of c.append.new.roots.items (lists_of cells)) entry) same.1 among) in
    inl (subst (λ entries. Contains entries entry) c.self.view_is (c.make_room.ensures.only entry before))

pub link-requires-clause-chained : goal.link-requires-clause-chained
link-requires-clause-chained c =
    let table = c.make_room.ensures.table in
    let cell : Cell = record { listed = listed_behind c.make_room.new.roots.items c.args.key c.args.made; link = 0 } in
    rw (c.deref_mut.ensures.value, c.deref_mut-2.ensures.value, c.in_ok-append.ensures.cells)
    (subst (AreChained (c.make_room.new.cells.items ++ cell ∷ []) c.make_room.new.heads.items) (search rules) (AreChained-append c.make_room.new.cells.items c.make_room.new.heads.items cell table.chained))

pub invariant_of-self-2 : goal.invariant_of-self-2
invariant_of-self-2 c =
    let cells = c.make_room.new.cells.items in
    let roots = c.make_room.new.roots.items in
    let new = c.link.new.cells in
    let heads = c.link.new.heads in
    let told = listed_behind roots c.args.key c.args.made in
    let lists = lists-told cells c.append.new.cells.items new told c.in_ok-append.ensures.cells (c.link.ensures.lists ∙ ap lists_of c.deref_mut.ensures.value) in
    let cells_written = take_at new (drop (length new) c.append.new.cells.items) c.append.new.cells.len (search rules) in
    let heads_written = take_at heads (drop (length heads) c.make_room.new.heads.items) c.make_room.new.heads.len (search rules) in
    rw (cells_written, heads_written) (subst (λ row. IsListTable row new heads) (sym c.in_ok-append.ensures.roots)
    (IsListTable-told roots c.args.key c.args.made cells new c.make_room.new.heads.items heads c.make_room.ensures.table c.in_ok-make_room.ensures.cells lists
    (subst (λ place. AreChained new heads (place + 1)) (search rules) c.link.ensures.chained) (search rules)))

pub returns-clause-noted : goal.returns-clause-noted
returns-clause-noted c =
    let cells = c.make_room.new.cells.items in
    let roots = c.make_room.new.roots.items in
    let new = c.link.new.cells in
    let told = listed_behind roots c.args.key c.args.made in
    let lists = lists-told cells c.append.new.cells.items new told c.in_ok-append.ensures.cells (c.link.ensures.lists ∙ ap lists_of c.deref_mut.ensures.value) in
    let entries = entries-told roots c.args.key c.append.new.roots.items c.args.made cells new c.make_room.new.heads.items c.make_room.ensures.table c.in_ok-append.ensures.roots lists in
    let written = take_at new (drop (length new) c.append.new.cells.items) c.append.new.cells.len (search rules) in
    rw (written) (ap (lookup (roots_eq c.args.key)) entries ∙ lookup-told c.args.key c.args.made (entries_of roots (lists_of cells)))

pub returns-clause-only : goal.returns-clause-only
returns-clause-only c =
    let cells = c.make_room.new.cells.items in
    let roots = c.make_room.new.roots.items in
    let new = c.link.new.cells in
    let told = listed_behind roots c.args.key c.args.made in
    let lists = lists-told cells c.append.new.cells.items new told c.in_ok-append.ensures.cells (c.link.ensures.lists ∙ ap lists_of c.deref_mut.ensures.value) in
    let entries = entries-told roots c.args.key c.append.new.roots.items c.args.made cells new c.make_room.new.heads.items c.make_room.ensures.table c.in_ok-append.ensures.roots lists in
    let written = take_at new (drop (length new) c.append.new.cells.items) c.append.new.cells.len (search rules) in
    rw (written) (subst (λ old. NotesOnly roots_eq old (entries_of c.append.new.roots.items (lists_of new)) c.args.key c.args.made) c.self.view_is
    (subst (λ all. NotesOnly roots_eq (entries_of c.self.inside.roots.items (lists_of c.self.inside.cells.items)) all c.args.key c.args.made) (sym entries)
    (only-told (entries_of c.self.inside.roots.items (lists_of c.self.inside.cells.items)) (entries_of roots (lists_of cells)) c.args.key c.args.made c.make_room.ensures.only)))
