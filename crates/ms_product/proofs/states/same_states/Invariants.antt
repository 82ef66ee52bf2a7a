use Rattle.std.proofs.Common.{◌≡◌, take}
use Rattle.ms_dfa.specs.Automaton.{states_of}
use Rattle.ms_product.proofs.states.same_states.Given as goal

-- the states so far
abbrev pub invariant-loop-state : goal.invariant-loop-state
invariant-loop-state l = states_of l.made ≡ take l.state l.a.states
