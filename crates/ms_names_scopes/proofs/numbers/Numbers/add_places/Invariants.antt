use Rattle.std.proofs.Common.{◌+◌}
use Rattle.std.specs.BTreeSet.{contains}
use Rattle.std.specs.Option.{option_map_or}
use Rattle.std.specs.Ordering.{nat_cmp}
use Rattle.ms_names_scopes.specs.inner.Numbers.{numbers_of}
use Rattle.ms_names_scopes.proofs.Places.{Walked}
use Rattle.ms_names_scopes.proofs.numbers.Numbers.add_places.Given as goal

abbrev pub invariant-loop-next : goal.invariant-loop-next
invariant-loop-next l = Walked l.x (numbers_of l.self-inside.places.items) (contains nat_cmp l.initial.places) (contains nat_cmp l.places) l.next

abbrev pub decreases-loop-next : goal.decreases-loop-next
decreases-loop-next l = option_map_or (λ place. place + 1) l.next 0
