use Rattle.std.proofs.Common.{take}
use Rattle.ms_project.specs.Signed.{AreSigned}
use Rattle.ms_project.proofs.signs.sign_states.Given as goal

-- the states so far are signed
abbrev pub invariant-loop-place : goal.invariant-loop-place
invariant-loop-place l = AreSigned l.quant l.can_be_empty l.closed (take l.place l.states) l.signed
