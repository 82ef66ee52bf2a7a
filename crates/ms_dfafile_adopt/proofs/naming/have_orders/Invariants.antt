use Rattle.std.proofs.Common.{take}
use Rattle.ms_dfafile_adopt.specs.inner.Map.{HaveOrdersAt}
use Rattle.ms_dfafile_adopt.proofs.naming.have_orders.Given as goal

-- the orders so far
abbrev pub invariant-loop-i : goal.invariant-loop-i
invariant-loop-i l = HaveOrdersAt (take l.i l.variables) l.pairs l.places
