-- Finite sets of natural numbers, each as the list of its members, every one below the next.
use Rattle.std.specs.Prelude.{ℕ, ◌+◌, ◌-◌, ◌<◌, ◌==◌, nat_lt, nat_le, Bool, not, IsTrue, if◌then◌else◌, List, [], ◌∷◌, ◌++◌, map, filter}
use Rattle.std.specs.List.{list_any, list_all, range_with_len}
use Rattle.std.specs.Int.{bit_at}

-- a number is below the first of a list, if there is one
abbrev pub IsBelowFirst : ℕ → List ℕ → Type 0
IsBelowFirst low [] = Unit {0}
IsBelowFirst low (first ∷ more) = low < first

-- the numbers rise strictly
abbrev pub IsRising : List ℕ → Type 0
IsRising [] = Unit {0}
IsRising (first ∷ more) = IsBelowFirst first more × IsRising more

-- whether a number is a member
abbrev pub is_member : ℕ → List ℕ → Bool
is_member n members = list_any (λ m. m == n) members

-- a number is a member
abbrev pub IsMember : ℕ → List ℕ → Type 0
IsMember n members = IsTrue (is_member n members)

-- each member of the first set is one of the second
abbrev pub IsSubset : List ℕ → List ℕ → Type 0
IsSubset left right = IsTrue (list_all (λ n. is_member n right) left)

-- the set with one more member
abbrev pub with_member : ℕ → List ℕ → List ℕ
with_member n [] = n ∷ []
with_member n (first ∷ more) =
    if nat_lt n first then n ∷ (first ∷ more) else (if n == first then first ∷ more else first ∷ with_member n more)

-- the set of the listed numbers, which may come in any order and more than once
abbrev pub set_of : List ℕ → List ℕ
set_of [] = []
set_of (n ∷ more) = with_member n (set_of more)

abbrev pub union_of : List ℕ → List ℕ → List ℕ
union_of left right = set_of (left ++ right)

abbrev pub intersection_of : List ℕ → List ℕ → List ℕ
intersection_of left right = filter (λ n. is_member n right) left

abbrev pub difference_of : List ℕ → List ℕ → List ℕ
difference_of left right = filter (λ n. not (is_member n right)) left

-- the least member, and 0 for the empty set
abbrev pub least : List ℕ → ℕ
least [] = 0
least (first ∷ more) = first

-- the greatest member, and 0 for the empty set
abbrev pub greatest : List ℕ → ℕ
greatest [] = 0
greatest (only ∷ []) = only
greatest (first ∷ second ∷ more) = greatest (second ∷ more)

-- each member moved up by n
abbrev pub moved_up : ℕ → List ℕ → List ℕ
moved_up n members = map (λ m. m + n) members

-- the members from n on, each moved down by n
abbrev pub moved_down : ℕ → List ℕ → List ℕ
moved_down n members = map (λ m. m - n) (filter (λ m. nat_le n m) members)

-- the numbers below n
abbrev pub numbers_below : ℕ → List ℕ
numbers_below n = range_with_len 0 n

-- the places of the one bits of n, the least place 0; each is below n
abbrev pub one_bits : ℕ → List ℕ
one_bits n = filter (λ place. bit_at n place == 1) (numbers_below n)
