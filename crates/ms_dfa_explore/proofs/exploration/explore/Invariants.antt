use Rattle.std.proofs.Common.{◌-◌}
use Rattle.ms_dfa_explore.specs.Explored.{IsExplored}
use Rattle.ms_dfa_explore.proofs.exploration.explore.Given as goal

-- the machine is a later one, the store has its diagrams, and so much has been explored
abbrev pub invariant-loop-state : goal.invariant-loop-state
invariant-loop-state g l =
    g.M.Machine.IsLater l.fn.machine l.machine
    × g.M.Machine.IsReady l.machine l.store.nodes
    × IsExplored l.fn.store l.store (g.M.Machine.findings l.machine) l.state l.start l.states

abbrev pub decreases-loop-state : goal.decreases-loop-state
decreases-loop-state g l = 4294967296 - l.state
