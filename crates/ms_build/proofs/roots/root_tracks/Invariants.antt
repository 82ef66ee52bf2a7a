use Rattle.std.proofs.Common.{◌≡◌, take}
use Rattle.ms_dfa.specs.Automaton.{variables_of}
use Rattle.ms_build.specs.Roots.{named}
use Rattle.ms_build.proofs.roots.root_tracks.Given as goal

-- the tracks so far
abbrev pub invariant-loop-variable : goal.invariant-loop-variable
invariant-loop-variable l = variables_of l.made ≡ named l.plan.dag.now.orders (take l.variable-index l.variables)
