use Rattle.std.proofs.Common.{ℕ, ◌<◌, ◌≤◌, slice_index}
use Rattle.ms_minim.proofs.origins.reach_all.Given as goal

-- the states so far are
abbrev pub invariant-loop-state : goal.invariant-loop-state
invariant-loop-state l = (state : ℕ) → state < l.state → slice_index l.origins.states.items state ≤ state
