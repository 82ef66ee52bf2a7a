use Rattle.std.proofs.Common.{◌≡◌, map, take}
use Rattle.ms_dfa.specs.Automaton.{states_of}
use Rattle.ms_product.specs.Combined.{with_sign}
use Rattle.ms_product.specs.Signs.{change_by}
use Rattle.ms_product.proofs.change.changed_states.Given as goal

-- the states so far
abbrev pub invariant-loop-state : goal.invariant-loop-state
invariant-loop-state l = states_of l.made ≡ take l.state (map (with_sign (change_by l.change)) l.a.states)
