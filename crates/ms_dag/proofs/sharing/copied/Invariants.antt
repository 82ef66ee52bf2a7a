use Rattle.std.proofs.Common.{◌≡◌, take}
use Rattle.ms_dag.proofs.sharing.copied.Given as goal

abbrev pub invariant-loop-item : goal.invariant-loop-item
invariant-loop-item g l = l.made ≡ take l.item-index l.items
