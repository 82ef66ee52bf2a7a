use Rattle.std.proofs.Common.{◌≡◌, ◌∷◌, [], map, slice_index, take}
use Rattle.ms_cert.specs.declared.cert.TreeLine.TheVariants.{At}
use Rattle.ms_cert.proofs.growing.leaves.Given as goal

-- the leaves so far
abbrev pub invariant-loop-states : goal.invariant-loop-states
invariant-loop-states l = l.made.items ≡ map (λ states. At (slice_index states 0) ∷ []) (take l.states-index l.members)
