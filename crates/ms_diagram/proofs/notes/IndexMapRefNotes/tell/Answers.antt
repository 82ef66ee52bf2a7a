use Rattle.ms_diagram.proofs.NotesLemmas.{NotesOnly-insert}
use Rattle.ms_diagram.proofs.notes.IndexMapRefNotes.tell.Goals as goal

pub returns-clause-only : goal.returns-clause-only
returns-clause-only g c =
    rw c.in-Ok.ensures.entries (NotesOnly-insert g.K.PartialEq.eq c.args.self.now.entries c.args.key c.args.made)
