use Rattle.std.proofs.Common.{◌≢◌, All, take}
use Rattle.ms_app.proofs.taken.is_among.Given as goal

-- none so far is the name
abbrev pub invariant-loop-one : goal.invariant-loop-one
invariant-loop-one l = All (λ one. one ≢ l.name) (take l.one-index l.names)
