use Rattle.std.proofs.Common.{◌≡◌, ◌+◌, length}
use Rattle.ms_arena.specs.Halves.{size_of}
use Rattle.ms_cert.specs.inner.Difference.{LeadApart}
use Rattle.ms_cert.proofs.difference.bits_apart.Given as goal

-- the bits so far lead to two references that differ
abbrev pub invariant-loop-var : goal.invariant-loop-var
invariant-loop-var l = record {
  long : length l.bits.items ≡ l.count;
  apart : LeadApart l.store.nodes l.bits.items l.fn.one l.fn.other l.first l.second;
}

-- both ends are smaller together than their nodes
abbrev pub decreases-loop-var : goal.decreases-loop-var
decreases-loop-var l = size_of l.first + size_of l.second
