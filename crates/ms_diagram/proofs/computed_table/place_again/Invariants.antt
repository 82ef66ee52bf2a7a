use Rattle.std.proofs.Common.{◌≡◌, length}
use Rattle.ms_diagram.specs.inner.Computed.{ArePlaced, entries_of}
use Rattle.ms_diagram.specs.inner.Notes.{KeepsOnly}
use Rattle.ms_diagram.proofs.computed_table.place_again.Given as goal

-- the buckets from the place on, up to the count, wait
abbrev pub invariant-loop-place : goal.invariant-loop-place
invariant-loop-place l =
    (length l.buckets ≡ length l.initial.buckets) × ArePlaced (l.place, l.count) (length l.buckets) 0 l.buckets × KeepsOnly (entries_of l.initial.buckets) (entries_of l.buckets)
