use Rattle.std.proofs.Common.{◌≡◌, take}
use Rattle.std.specs.Prelude.{map as map_list}
use Rattle.ms_project.specs.Signed.{zero_step}
use Rattle.ms_project.proofs.signs.zero_steps.Given as goal

abbrev pub invariant-loop-state : goal.invariant-loop-state
invariant-loop-state l = l.made ≡ map_list (zero_step l.store.nodes l.count) (take l.state-index l.states)
