-- The variables of order 1 among others, and sets of them as numbers whose bits they are, the first of them the lowest.
use Rattle.std.specs.Prelude.{◌≡◌, ℕ, zero, suc, ◌+◌, ◌*◌, ◌^◌, ◌<◌, Bool, true, false, List, [], ◌∷◌, length, slice_get, Some}
use Rattle.ms_logic.specs.declared.mode.Order.{Order}
use Rattle.ms_logic.specs.declared.mode.Order.TheVariants.{Zero, One, Two}

-- a variable of order 1, a number, stands at a place
abbrev pub IsNumberAt : List Order → ℕ → Type 0
IsNumberAt orders place = slice_get orders place ≡ Some One

-- how many numbers there are with one variable more in front
abbrev pub with_order : Order → ℕ → ℕ
with_order Zero count = count
with_order One count = count + 1
with_order Two count = count

-- how many numbers stand before a place
abbrev pub rank : List Order → ℕ → ℕ
rank [] place = 0
rank (order ∷ orders) zero = 0
rank (order ∷ orders) (suc place) = with_order order (rank orders place)

-- how many numbers there are
abbrev pub numbers_in : List Order → ℕ
numbers_in orders = rank orders (length orders)

-- a set of numbers, with one variable more in front, which is in it once or not at all
abbrev pub with_first : Order → ℕ → ℕ → ℕ
with_first Zero count more = more
with_first One count more = count + 2 * more
with_first Two count more = more

-- the set of the numbers by how often each place is in it
abbrev pub set_of : List Order → (ℕ → ℕ) → ℕ
set_of [] count = 0
set_of (order ∷ orders) count = with_first order (count 0) (set_of orders (λ place. count (suc place)))

-- the set of all numbers
abbrev pub full_set : List Order → ℕ
full_set orders = set_of orders (λ place. 1)

abbrev pub one_if : Bool → ℕ
one_if true = 1
one_if false = 0

-- counts by place, with one more at a place
abbrev pub one_more : (ℕ → ℕ) → ℕ → ℕ → ℕ
one_more count zero zero = count 0 + 1
one_more count zero (suc other) = count (suc other)
one_more count (suc place) zero = count 0
one_more count (suc place) (suc other) = one_more (λ p. count (suc p)) place other

-- for each place, and for that behind the last, the set of the numbers before it, of which there are fewer than 32
pub record AreSetsBefore (orders : List Order) (sets : List ℕ) : Type 0 where
  pub long : length sets ≡ length orders + 1
  pub each : (place set : ℕ) → slice_get sets place ≡ Some set → set + 1 ≡ 2 ^ rank orders place
  pub few : numbers_in orders < 32
