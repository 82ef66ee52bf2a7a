use Rattle.std.proofs.Common.{◌≡◌, map, take}
use Rattle.ms_dfa.specs.Automaton.{states_of}
use Rattle.ms_rename.specs.inner.Image.{with_image}
use Rattle.ms_rename.proofs.renaming.states.Given as goal

-- the states so far
abbrev pub invariant-loop-state : goal.invariant-loop-state
invariant-loop-state l = states_of l.made ≡ map (with_image l.images) (take l.state l.a.states)
