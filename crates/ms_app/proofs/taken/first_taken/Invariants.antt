use Rattle.std.proofs.Common.{take}
use Rattle.ms_app.specs.Source.{AreOutsFree}
use Rattle.ms_app.proofs.taken.first_taken.Given as goal

-- none so far has one of the names
abbrev pub invariant-loop-used : goal.invariant-loop-used
invariant-loop-used l = AreOutsFree l.outs (take l.used-index l.exports)
