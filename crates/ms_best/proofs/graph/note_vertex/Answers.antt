use Rattle.std.proofs.Common.{length-set}
use Rattle.ms_best.proofs.Users.{leads_letter, leads_low, leads_high}
use Rattle.ms_best.proofs.graph.note_vertex.Goals as goal

pub note-requires : goal.note-requires
note-requires c = c.requires c.in-Letter.next (leads_letter c.args.vertex c.in-Letter.next c.in-Letter.is)

pub note-requires-in-Choice : goal.note-requires-in-Choice
note-requires-in-Choice c = c.requires c.in-Choice.low (leads_low c.args.vertex c.in-Choice.low c.in-Choice.high c.in-Choice.is)

pub note-requires-in-Choice-2 : goal.note-requires-in-Choice-2
note-requires-in-Choice-2 c =
    rw (c.in_ok-note-in-Choice.ensures, length-set c.args.users.now.items c.in-Choice.low)
    (c.requires c.in-Choice.high (leads_high c.args.vertex c.in-Choice.low c.in-Choice.high c.in-Choice.is))
