use Rattle.std.proofs.Common.{◌≡◌, Some, slice_get, take}
use Rattle.ms_build.specs.Built.{HasOnly, IsManyOf, IsWithin}
use Rattle.ms_build.specs.Short.{IsOperand}
use Rattle.ms_dag.specs.Dag.{places_in_maps}
use Rattle.ms_dag.specs.declared.node.Child.{Child}
use Rattle.ms_build.proofs.connectives.some.Given as goal

-- the connective of the children so far, within the limit, over variables of theirs; of one child its own automaton
abbrev pub invariant-loop-place : goal.invariant-loop-place
invariant-loop-place l =
    IsManyOf l.plan l.many (take l.place l.children) l.made × IsWithin l.plan.limit l.made
    × HasOnly (places_in_maps (take l.place l.children)) l.made
    × (l.place ≡ 1 → (child : Child) × (slice_get l.children 0 ≡ Some child) × IsOperand l.plan child l.made)
