-- Members of finite sets.
use Rattle.std.proofs.Common.{◌≡◌, ℕ, ◌+◌, ◌-◌, ◌<◌, ◌≤◌, ◌==◌, zero, suc, Bool, true, false, cond, ◌||◌, ◌&&◌, ◌⊎◌, ◌↔◌, inl, inr, ⊎_elim, ltb, leb, List, [], ◌∷◌, ◌++◌, None, refl, sym, ◌∙◌, ap, arith}
use Rattle.std.specs.List.{range_with_len, filter}
use Rattle.std.proofs.lemmas.Bool.Decides.{nat_tests}
use Rattle.std.proofs.lemmas.List.Folds.{list_any-append}
use Rattle.std.proofs.lemmas.Bool.{eqb-true}
use Rattle.ms_logic.specs.Assignment.{AllWithin}
use Rattle.ms_logic.specs.Letters.{bound_of_set}
use Rattle.ms_logic.specs.FiniteSet.{is_member, IsMember, with_member, set_of, union_of, IsRising, IsBelowFirst, moved_up, moved_down}

-- a further member is the only new one
pub is_member-with_member : (k n : ℕ) (members : List ℕ) → is_member k (with_member n members) ≡ ((n == k) || is_member k members)
is_member-with_member k n [] = refl
is_member-with_member k n (first ∷ more) =
    let others = is_member-with_member k n more in grind (arith, nat_tests, others)

pub is_member-set_of : (k : ℕ) (numbers : List ℕ) → is_member k (set_of numbers) ≡ is_member k numbers
is_member-set_of k [] = refl
is_member-set_of k (first ∷ more) = is_member-with_member k first (set_of more) ∙ ap (λ b. (first == k) || b) (is_member-set_of k more)

pub is_member-union_of : (k : ℕ) (left right : List ℕ) → is_member k (union_of left right) ≡ (is_member k left || is_member k right)
is_member-union_of k left right = is_member-set_of k (left ++ right) ∙ list_any-append (λ m. m == k) left right

-- a filter by a test keeps the members that pass it
pub is_member-filter : (k : ℕ) (test : ℕ → Bool) (members : List ℕ) → is_member k (filter test members) ≡ (is_member k members && test k)
is_member-filter k test [] = refl
is_member-filter k test (first ∷ more) =
    let others = is_member-filter k test more in grind (arith, nat_tests, others)

-- the members moved up are found where they went
pub is_member-moved_up : (k by : ℕ) (members : List ℕ) → is_member (k + by) (moved_up by members) ≡ is_member k members
is_member-moved_up k by [] = refl
is_member-moved_up k by (first ∷ more) =
    let others = is_member-moved_up k by more in grind (arith, nat_tests, others)

-- and nowhere below
pub is_member-moved_up_below : (k by : ℕ) (members : List ℕ) → k < by → is_member k (moved_up by members) ≡ false
is_member-moved_up_below k by [] below = refl
is_member-moved_up_below k by (first ∷ more) below =
    let others = is_member-moved_up_below k by more below in grind (arith, nat_tests, others)

pub is_member-moved_down : (k by : ℕ) (members : List ℕ) → is_member k (moved_down by members) ≡ is_member (k + by) members
is_member-moved_down k by [] = refl
is_member-moved_down k by (first ∷ more) =
    let others = is_member-moved_down k by more in grind (arith, nat_tests, others)

pub is_member-range : (k start count : ℕ) → is_member k (range_with_len start count) ≡ (leb start k && ltb k (start + count))
is_member-range k start zero = grind (arith, nat_tests)
is_member-range k start (suc count) =
    let others = is_member-range k (start + 1) count in grind (arith, nat_tests, others)

-- a number below the first and below a new member is below the first of both
pub below_first-with_member : (low n : ℕ) (members : List ℕ) → low < n → IsBelowFirst low members → IsBelowFirst low (with_member n members)
below_first-with_member low n [] below below_first = below
below_first-with_member low n (first ∷ more) below below_first = grind (arith, nat_tests)

pub IsRising-with_member : (n : ℕ) (members : List ℕ) → IsRising members → IsRising (with_member n members)
IsRising-with_member n [] rises = (tt, tt)
IsRising-with_member n (first ∷ more) rises =
    let others = IsRising-with_member n more rises.1 in grind (arith, nat_tests, others, below_first-with_member)

pub IsRising-set_of : (numbers : List ℕ) → IsRising (set_of numbers)
IsRising-set_of [] = tt
IsRising-set_of (first ∷ more) = IsRising-with_member first (set_of more) (IsRising-set_of more)

-- a number below the first of a set is below each member
pub below_first-lower : (low high : ℕ) (members : List ℕ) → low ≤ high → IsBelowFirst high members → IsBelowFirst low members
below_first-lower low high [] at_most below = tt
below_first-lower low high (first ∷ more) at_most below = omega (arith, below)

pub below_first-filter : (low : ℕ) (test : ℕ → Bool) (members : List ℕ) → IsRising members → IsBelowFirst low members → IsBelowFirst low (filter test members)
below_first-filter low test [] rises below = tt
below_first-filter low test (first ∷ more) rises below =
    let others = below_first-filter low test more rises.1 (below_first-lower low first more (omega (arith, below)) rises.0) in
    elim (test first) as (λ b. IsBelowFirst low (cond b (first ∷ filter test more) (filter test more))) [ true ↦ below | false ↦ others ]

pub IsRising-filter : (test : ℕ → Bool) (members : List ℕ) → IsRising members → IsRising (filter test members)
IsRising-filter test [] rises = tt
IsRising-filter test (first ∷ more) rises =
    let others = IsRising-filter test more rises.1 in
    let below = below_first-filter first test more rises.1 rises.0 in
    elim (test first) as (λ b. IsRising (cond b (first ∷ filter test more) (filter test more))) [ true ↦ (below, others) | false ↦ others ]

below_first-moved_up : (low by : ℕ) (members : List ℕ) → IsBelowFirst low members → IsBelowFirst (low + by) (moved_up by members)
below_first-moved_up low by [] below = tt
below_first-moved_up low by (first ∷ more) below = omega (arith, below)

pub IsRising-moved_up : (by : ℕ) (members : List ℕ) → IsRising members → IsRising (moved_up by members)
IsRising-moved_up by [] rises = tt
IsRising-moved_up by (first ∷ more) rises = (below_first-moved_up first by more rises.0, IsRising-moved_up by more rises.1)

below_first-range : (start count : ℕ) → IsBelowFirst start (range_with_len (start + 1) count)
below_first-range start zero = tt
below_first-range start (suc count) = omega arith

pub IsRising-range : (start count : ℕ) → IsRising (range_with_len start count)
IsRising-range start zero = tt
IsRising-range start (suc count) = (below_first-range start count, IsRising-range (start + 1) count)

below_first-moved_down : (low by : ℕ) (members : List ℕ) → by ≤ low → IsBelowFirst low members → IsBelowFirst (low - by) (moved_down by members)
below_first-moved_down low by [] at_least below = tt
below_first-moved_down low by (first ∷ more) at_least below = grind (arith, nat_tests)

pub IsRising-moved_down : (by : ℕ) (members : List ℕ) → IsRising members → IsRising (moved_down by members)
IsRising-moved_down by [] rises = tt
IsRising-moved_down by (first ∷ more) rises =
    let others = IsRising-moved_down by more rises.1 in grind (arith, nat_tests, others, below_first-moved_down)

-- a number below the first of a set is below each member
pub below_first-below : (low n : ℕ) (members : List ℕ) → IsRising members → IsBelowFirst low members → IsMember n members → low < n
below_first-below low n [] rises below member = cc
below_first-below low n (first ∷ more) rises below member =
    let others = below_first-below first n more rises.1 rises.0 in grind (arith, nat_tests, others)

-- a test of two tests
pub both_true : (a b : Bool) → ((a && b) ≡ true) ↔ ((a ≡ true) × (b ≡ true))
both_true true b = (λ h. (refl, h), λ h. h.1)
both_true false b = (λ h. (h, cc), λ h. h.0)

pub either_true : (a b : Bool) → ((a || b) ≡ true) ↔ ((a ≡ true) ⊎ (b ≡ true))
either_true true b = (λ h. inl h, λ h. refl)
either_true false b = (λ h. inr h, λ h. ⊎_elim (λ first. absurd cc) (λ second. second) h)

-- equal tests mean the same
pub along : (a b : Bool) (P : Type 0) → a ≡ b → ((b ≡ true) ↔ P) → ((a ≡ true) ↔ P)
along a b P same means = (λ h. means.0 (sym same ∙ h), λ p. same ∙ means.1 p)

-- a member of a list is its first, or one of the others
pub member_cases : (n first : ℕ) (more : List ℕ) → is_member n (first ∷ more) ≡ true → (first ≡ n) ⊎ (is_member n more ≡ true)
member_cases n first more member =
    ⊎_elim (λ same. inl (eqb-true first n same)) (λ there. inr there) ((either_true (first == n) (is_member n more)).0 member)

-- a member is below the bound of its set
pub member_below_bound : (members : List ℕ) (n : ℕ) → is_member n members ≡ true → n < bound_of_set members
member_below_bound [] n member = let never : ⊥ = cc in absurd never
member_below_bound (first ∷ more) n member =
    ⊎_elim (λ same. omega (arith, same)) (λ there. omega (arith, member_below_bound more n there)) (member_cases n first more member)

-- from the bound of a set on there is no member
pub no_member_from_bound : (members : List ℕ) (n : ℕ) → bound_of_set members ≤ n → is_member n members ≡ false
no_member_from_bound members n above =
    (elim (is_member n members) as (λ test. is_member n members ≡ test → test ≡ false) [
      | true ↦ λ member. absurd (omega (arith, member_below_bound members n member, above))
      | false ↦ λ _. refl
    ]) refl

-- each set of natural numbers is within them
pub all_natural : (members : List ℕ) → AllWithin None members
all_natural [] = tt
all_natural (n ∷ more) = (tt, all_natural more)
