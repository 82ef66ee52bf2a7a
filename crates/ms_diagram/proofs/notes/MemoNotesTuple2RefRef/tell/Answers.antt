use Rattle.ms_arena.specs.contracts.node.RefPartialEq.TheImpl as of_ref
use Rattle.ms_cache.proofs.MemoLemmas.{Contains-told, lookup-told}
use Rattle.ms_diagram.specs.inner.Equal.{pair_eq}
use Rattle.ms_diagram.proofs.NotesLemmas.{key_of, NotesOnly-pair_entries, lookup-noted_pair}
use Rattle.ms_diagram.proofs.notes.MemoNotesTuple2RefRef.tell.Goals as goal

pub returns-clause-noted : goal.returns-clause-noted
returns-clause-noted c =
    lookup-noted_pair c.tell.result c.tell.new.self.entries c.args.key c.args.made
    (lookup-told c.tell.result c.args.self.now c.tell.new.self (key_of c.args.key) c.args.made c.tell.ensures.entries)

pub returns-clause-only : goal.returns-clause-only
returns-clause-only c =
    NotesOnly-pair_entries (pair_eq of_ref.eq-value.it of_ref.eq-value.it) c.args.self.now.entries c.tell.new.self.entries c.args.key c.args.made
    (Contains-told (key_of c.args.key) c.tell.result c.args.self.now c.tell.new.self c.args.made c.tell.ensures.entries c.tell.ensures.refused)
