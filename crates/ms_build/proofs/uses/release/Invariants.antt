use Rattle.std.proofs.Common.{◌≡◌, length}
use Rattle.ms_build.specs.Built.{AreBuiltFor}
use Rattle.ms_build.proofs.uses.release.Given as goal

-- what is used later has been built, and there are as many automata
abbrev pub invariant-loop-node : goal.invariant-loop-node
invariant-loop-node l = AreBuiltFor l.plan l.automata.items × (length l.automata.items ≡ length l.initial.automata.items)
