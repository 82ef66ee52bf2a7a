use Rattle.ms_arena.proofs.PackingLemmas.{HasNoted-none}
use Rattle.ms_arena.proofs.cells.note.Goals as goal

pub returns-else-upper-2-clause-noted : goal.returns-else-upper-2-clause-noted
returns-else-upper-2-clause-noted c = HasNoted-none _ _ _ c.requires.place c.if-upper.false c.if-upper-2.false
