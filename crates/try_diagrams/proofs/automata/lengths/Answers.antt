use Rattle.try_diagrams.proofs.Lengths.{is_automaton}
use Rattle.try_diagrams.proofs.automata.lengths.Goals as goal

pub make-automaton-requires : goal.make-automaton-requires
make-automaton-requires c = rw (c.new-tracks.ensures, c.in-Ok.ensures, c.new-store.ensures.empty) is_automaton
