use Rattle.std.proofs.Common.{◌<◌, length}
use Rattle.try_signs.proofs.words.sign_of.Given as goal

-- the state is one of the automaton
abbrev pub invariant-loop-position : goal.invariant-loop-position
invariant-loop-position l = l.state < length l.automaton.states
