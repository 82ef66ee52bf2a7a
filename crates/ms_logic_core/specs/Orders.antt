-- The orders of the variables of a source's core formulas, by their numbers.
use Rattle.std.specs.Prelude.{ℕ, ◌-◌, ◌%◌, ◌==◌, if◌then◌else◌, List, length, slice_get, Option, Some, None}
use Rattle.ms_logic.specs.declared.mode.Order.{Order}
use Rattle.ms_logic.specs.declared.mode.Order.TheVariants.{Zero, One, Two}

abbrev pub order_of_rank : ℕ → Order
order_of_rank rank = if rank == 0 then Zero else (if rank == 1 then One else Two)

abbrev pub order_or : Option Order → Order → Order
order_or (Some order) other = order
order_or None other = other

-- a global has its own order; and of each three numbers behind those of the globals one has each order
abbrev pub order_at : List Order → ℕ → Order
order_at globals x = order_or (slice_get globals x) (order_of_rank ((x - length globals) % 3))
