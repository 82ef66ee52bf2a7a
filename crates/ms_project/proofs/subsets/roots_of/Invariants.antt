use Rattle.std.proofs.Common.{◌≡◌, take}
use Rattle.std.specs.Prelude.{map as map_list}
use Rattle.ms_dfa.specs.Automaton.{states_of}
use Rattle.ms_project.specs.Subsets.{next_in}
use Rattle.ms_project.proofs.subsets.roots_of.Given as goal

-- the references of the members so far
abbrev pub invariant-loop-member : goal.invariant-loop-member
invariant-loop-member l = l.roots ≡ map_list (next_in (states_of l.states)) (take l.member-index l.set)
