-- Constants: numbers that are added and taken off one after the other.
use Rattle.std.specs.Prelude.{ℕ, ◌+◌, ◌-◌, Bool, true, false, if◌then◌else◌, nat_lt, List, [], ◌∷◌, Option, Some, None}
use Rattle.ms_logic.specs.declared.source.Int.{Int}
use Rattle.ms_logic.specs.declared.source.Int.TheVariants.{Number, Constant}
use Rattle.ms_logic.specs.declared.source.PlacedInt.{PlacedInt}
use Rattle.ms_names_rules.specs.declared.meaning.Meaning.{Meaning}
use Rattle.ms_names_rules.specs.declared.meaning.Meaning.TheVariants as meaning
use Rattle.ms_names_rules.specs.Scope.{Scope, meaning_of}

abbrev pub value_of_meaning : Option Meaning → Option ℕ
value_of_meaning None = None
value_of_meaning (Some (meaning.Variable x o)) = None
value_of_meaning (Some (meaning.Constant value)) = Some value
value_of_meaning (Some (meaning.Predicate p parameters)) = None

-- the value of a number or of the name of a constant
abbrev pub value_of_int : Scope → Int → Option ℕ
value_of_int s (Number n) = Some n
value_of_int s (Constant n) = value_of_meaning (meaning_of s n)

abbrev pub value_of : Scope → PlacedInt → Option ℕ
value_of s i = value_of_int s i.value

abbrev pub greatest_constant : ℕ
greatest_constant = 18446744073709551615

-- the greatest number in a term
abbrev pub greatest_in_terms : ℕ
greatest_in_terms = 65535

-- a sum with one more number, if it stays within the range of constants
abbrev pub next_sum : Bool → ℕ → ℕ → Option ℕ
next_sum true sum n = if nat_lt sum n then None else Some (sum - n)
next_sum false sum n = if nat_lt greatest_constant (sum + n) then None else Some (sum + n)

-- what the sums of a constant come to
pub data Sum : Type 0 where
  sums_to : (n : ℕ) → Sum
  -- a partial sum from the left is below 0 or above the greatest constant
  leaves_range : Sum
  -- a name without a value ends the sums
  has_no_value : Sum

abbrev pub sum_of_value : Option ℕ → (ℕ → Sum) → Sum
sum_of_value None rest = has_no_value
sum_of_value (Some n) rest = rest n

abbrev pub sum_in_range : Option ℕ → (ℕ → Sum) → Sum
sum_in_range None rest = leaves_range
sum_in_range (Some n) rest = rest n

-- the sums from the left, which begin with a number
abbrev pub sum_from : Scope → ℕ → List PlacedInt → Sum
sum_from s sum [] = sums_to sum
sum_from s sum (i ∷ is) = sum_of_value (value_of s i) (λ n. sum_in_range (next_sum i.minus sum n) (λ next. sum_from s next is))

-- the value of a constant; 0 where it has none
abbrev pub value_of_sum : Sum → ℕ
value_of_sum (sums_to n) = n
value_of_sum leaves_range = 0
value_of_sum has_no_value = 0
