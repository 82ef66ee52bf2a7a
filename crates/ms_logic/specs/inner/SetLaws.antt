-- Laws of finite sets: each operation gives a set, with the members that its name says.
use Rattle.std.specs.Prelude.{◌≡◌, ℕ, ◌+◌, ◌<◌, ◌≤◌, ◌⊎◌, ◌↔◌, List}
use Rattle.std.specs.Int.{bit_at}
use Rattle.ms_logic.specs.Assignment.{Universe, IsWithin}
use Rattle.ms_logic.specs.FiniteSet.{IsRising, IsMember, IsSubset, set_of, union_of, intersection_of, difference_of, least, greatest, moved_up, moved_down, numbers_below, one_bits}
use Rattle.ms_logic.specs.Terms.{part_within}

-- a set whose members are the numbers with a property
pub record IsSetOf (Property : ℕ → Type 0) (members : List ℕ) : Type 0 where
  pub rising : IsRising members
  pub exactly : (n : ℕ) → IsMember n members ↔ Property n

-- two sets with the same members are equal
abbrev pub SetsAreTheirMembers : Type 0
SetsAreTheirMembers =
    (left right : List ℕ) → IsRising left → IsRising right → ((n : ℕ) → IsMember n left ↔ IsMember n right) → left ≡ right

abbrev pub SubsetLaw : Type 0
SubsetLaw = (left right : List ℕ) → IsSubset left right ↔ ((n : ℕ) → IsMember n left → IsMember n right)

abbrev pub ListedSet : Type 0
ListedSet = (listed : List ℕ) → IsSetOf (λ n. IsMember n listed) (set_of listed)

abbrev pub UnionLaw : Type 0
UnionLaw = (left right : List ℕ) → IsSetOf (λ n. IsMember n left ⊎ IsMember n right) (union_of left right)

abbrev pub IntersectionLaw : Type 0
IntersectionLaw =
    (left right : List ℕ) → IsRising left → IsSetOf (λ n. IsMember n left × IsMember n right) (intersection_of left right)

abbrev pub DifferenceLaw : Type 0
DifferenceLaw =
    (left right : List ℕ) → IsRising left → IsSetOf (λ n. IsMember n left × ¬ IsMember n right) (difference_of left right)

abbrev pub MovedUpLaw : Type 0
MovedUpLaw =
    (by : ℕ) (members : List ℕ) → IsRising members → IsSetOf (λ n. (m : ℕ) × IsMember m members × (n ≡ m + by)) (moved_up by members)

abbrev pub MovedDownLaw : Type 0
MovedDownLaw = (by : ℕ) (members : List ℕ) → IsRising members → IsSetOf (λ n. IsMember (n + by) members) (moved_down by members)

abbrev pub NumbersBelowLaw : Type 0
NumbersBelowLaw = (limit : ℕ) → IsSetOf (λ n. n < limit) (numbers_below limit)

abbrev pub OneBitsLaw : Type 0
OneBitsLaw = (number : ℕ) → IsSetOf (λ n. bit_at number n ≡ 1) (one_bits number)

abbrev pub PartWithinLaw : Type 0
PartWithinLaw =
    (universe : Universe) (members : List ℕ) → IsRising members
    → IsSetOf (λ n. IsMember n members × IsWithin universe n) (part_within universe members)

-- a set with a member has a least and a greatest one
abbrev pub LeastLaw : Type 0
LeastLaw = (n : ℕ) (members : List ℕ) → IsRising members → IsMember n members → IsMember (least members) members × (least members ≤ n)

abbrev pub GreatestLaw : Type 0
GreatestLaw =
    (n : ℕ) (members : List ℕ) → IsRising members → IsMember n members → IsMember (greatest members) members × (n ≤ greatest members)
