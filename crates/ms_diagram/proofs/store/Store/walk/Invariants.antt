use Rattle.ms_diagram.proofs.Walking.{IsWalking}
use Rattle.ms_diagram.proofs.store.Store.walk.Given as goal

abbrev pub invariant-loop : goal.invariant-loop
invariant-loop g l = IsWalking g.W.Walk.rules l.fn.self l.fn.walk l.fn.root l.self l.walk (g.T.Notes.entries l.notes) l.frames.items l.turn
