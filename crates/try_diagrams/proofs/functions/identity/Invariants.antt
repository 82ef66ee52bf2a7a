use Rattle.std.proofs.Common.{◌≡◌, ℕ, ◌-◌, ◌<◌, ◌≤◌, length, slice_index}
use Rattle.try_diagrams.proofs.functions.identity.Given as goal

abbrev pub invariant-loop-var : goal.invariant-loop-var
invariant-loop-var l = (l.var ≤ l.count) × (length l.made ≡ l.var) × ((i : ℕ) → i < l.var → slice_index l.made i ≡ i)

abbrev pub decreases-loop-var : goal.decreases-loop-var
decreases-loop-var l = l.count - l.var
