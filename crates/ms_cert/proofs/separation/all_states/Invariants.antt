use Rattle.std.proofs.Common.{◌≡◌}
use Rattle.ms_logic.specs.FiniteSet.{numbers_below}
use Rattle.ms_cert.proofs.separation.all_states.Given as goal

abbrev pub invariant-loop-state : goal.invariant-loop-state
invariant-loop-state l = l.states ≡ numbers_below l.state
