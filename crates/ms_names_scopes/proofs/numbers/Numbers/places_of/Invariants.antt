use Rattle.std.proofs.Common.{◌≡◌, ℕ, take}
use Rattle.std.specs.BTreeSet.{contains}
use Rattle.std.specs.Ordering.{nat_cmp}
use Rattle.ms_names_scopes.specs.inner.Numbers.{is_one_of, number_at}
use Rattle.ms_names_scopes.proofs.numbers.Numbers.places_of.Given as goal

abbrev pub invariant-loop-x : goal.invariant-loop-x
invariant-loop-x l = (i : ℕ) → contains nat_cmp l.places i ≡ is_one_of (take l.x-index l.numbers) (number_at l.self i)
