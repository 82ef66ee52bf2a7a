use Rattle.std.proofs.Common.{◌≡◌, map, take}
use Rattle.ms_dfa.specs.Files.{file_states_of}
use Rattle.ms_dfa.specs.Automaton.{states_of}
use Rattle.ms_dfafile_adopt.specs.inner.Images.{own_state}
use Rattle.ms_dfafile_adopt.proofs.states.own_states.Given as goal

-- the states so far
abbrev pub invariant-loop-state : goal.invariant-loop-state
invariant-loop-state l = states_of l.made ≡ map (own_state l.images) (file_states_of (take l.state-index l.states))
