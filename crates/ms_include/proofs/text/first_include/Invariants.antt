use Rattle.std.proofs.Common.{◌≡◌, drop}
use Rattle.ms_include.specs.Load.{first_include}
use Rattle.ms_include.proofs.text.first_include.Given as goal

-- the first include is among those that are left
abbrev pub invariant-loop-item : goal.invariant-loop-item
invariant-loop-item l = first_include (drop l.item-index l.items) ≡ first_include l.items
