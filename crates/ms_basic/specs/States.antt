-- How many states the machine of a basic relation has. Where one variable stands for all operands, a relation may hold of each
-- value of it, or of one or none, and has fewer.
use Rattle.std.specs.Prelude.{ℕ, ◌+◌, ◌^◌, ◌==◌, ◌&&◌, if◌then◌else◌}
use Rattle.ms_logic_core.specs.declared.core_formula.Basic.{Basic}
use Rattle.ms_logic_core.specs.declared.core_formula.Basic.TheVariants.{Truth, Number, Plus, Less, Member, Sub, Union, Inter, Diff, Up, Down, Min, Max, Bits}
use Rattle.ms_basic.specs.Bits.{digits_of}

abbrev pub states_of : Basic → ℕ
states_of (Truth a) = 2
states_of (Number x n) = n + 5
states_of (Plus x y n) = if x == y then 3 else n + 6
states_of (Less x y) = if x == y then 3 else 6
states_of (Member x s) = 4
states_of (Sub s t) = if s == t then 1 else 2
states_of (Union s t u) = if s == t && t == u then 1 else 2
states_of (Inter s t u) = if s == t && t == u then 1 else 2
states_of (Diff s t u) = 2
states_of (Up s t n) = if s == t then (if n == 0 then 1 else 2) else 2 ^ n + 1
states_of (Down s t n) = if s == t then (if n == 0 then 1 else 2) else 2 ^ (n + 1)
states_of (Min x s) = 7
states_of (Max x s) = 5
states_of (Bits s n) = digits_of n + 2
