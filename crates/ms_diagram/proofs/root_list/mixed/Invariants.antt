use Rattle.std.proofs.Common.{◌≡◌, drop}
use Rattle.ms_diagram.specs.Hash.{mixed_with}
use Rattle.ms_diagram.proofs.root_list.mixed.Given as goal

abbrev pub invariant-loop-root : goal.invariant-loop-root
invariant-loop-root l = mixed_with l.hash (drop l.root-index l.roots) ≡ mixed_with 0 l.roots
