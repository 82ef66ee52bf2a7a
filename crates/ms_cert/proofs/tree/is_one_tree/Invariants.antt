use Rattle.std.proofs.Common.{◌≤◌, ◌+◌, drop}
use Rattle.ms_cert.specs.inner.Separation.{SpellTrees}
use Rattle.ms_cert.proofs.tree.is_one_tree.Given as goal

-- so many trees are open, which the lines that are left spell where all lines spell one
abbrev pub invariant-loop-line : goal.invariant-loop-line
invariant-loop-line l = record {
  to : SpellTrees 1 l.lines → SpellTrees l.open (drop l.line-index l.lines);
  from : SpellTrees l.open (drop l.line-index l.lines) → SpellTrees 1 l.lines;
  few : l.open ≤ l.line-index + 1;
}
