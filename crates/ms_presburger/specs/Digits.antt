-- A set of natural numbers as a number: its members are the places of the one bits.
use Rattle.std.specs.Prelude.{ℕ, ◌+◌, ◌^◌, List, [], ◌∷◌}

-- the sum of 2 ^ i over the members i
abbrev pub number_of : List ℕ → ℕ
number_of [] = 0
number_of (i ∷ more) = 2 ^ i + number_of more
