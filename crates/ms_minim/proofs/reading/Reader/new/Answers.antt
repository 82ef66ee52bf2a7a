use Rattle.ms_minim.proofs.ReadingLemmas.{IsRead-automaton}
use Rattle.ms_minim.proofs.reading.Reader.new.Goals as goal

pub invariant_of-result : goal.invariant_of-result
invariant_of-result c = IsRead-automaton c.args.reading c.args.automaton.now c.states.ensures.automaton
