use Rattle.std.proofs.Common.{◌≡◌, length}
use Rattle.ms_build.specs.Built.{AreBuiltFor}
use Rattle.ms_build.proofs.built.build_each.Given as goal

-- the automata of the nodes so far
abbrev pub invariant-loop-step : goal.invariant-loop-step
invariant-loop-step l = AreBuiltFor l.plan l.automata.items × (length l.automata.items ≡ l.step)
