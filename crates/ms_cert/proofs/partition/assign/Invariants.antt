use Rattle.std.proofs.Common.{◌≡◌, drop, length}
use Rattle.ms_cert.specs.inner.Partition.{assigned}
use Rattle.ms_cert.proofs.partition.assign.Given as goal

-- the classes so far, with the states that are left
abbrev pub invariant-loop-state : goal.invariant-loop-state
invariant-loop-state l = record {
  long : length l.classes.items ≡ length l.initial.classes.items;
  same : assigned l.classes.items (drop l.state-index l.states) l.class ≡ assigned l.initial.classes.items l.states l.class;
}
