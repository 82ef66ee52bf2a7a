use Rattle.std.proofs.Common.{take}
use Rattle.ms_build_source.specs.inner.Copies.{AreRootCopies}
use Rattle.ms_build_source.proofs.roots.root_copies.Given as goal

-- the copies so far are those of the first roots
abbrev pub invariant-loop-place : goal.invariant-loop-place
invariant-loop-place l = AreRootCopies l.making.version l.built.plan 1 (take l.place l.uses) l.copies
