-- The laws of finite sets.
use Rattle.std.proofs.Common.{◌≡◌, ℕ, zero, suc, ◌+◌, ◌-◌, ◌/◌, ◌%◌, ◌^◌, ◌<◌, ◌≤◌, ◌==◌, Bool, true, false, not, ◌↔◌, inl, inr, ⊎_elim, List, [], ◌∷◌, ◌++◌, Some, None, refl, sym, ◌∙◌, ap, eq-eqb, arith}
use Rattle.std.specs.Int.{bit_at}
use Rattle.std.specs.List.{list_all}
use Rattle.std.proofs.lemmas.Bool.{false≢true, cases_lt}
use Rattle.std.proofs.lemmas.Bool.Decides.{nat_tests}
use Rattle.std.proofs.Math.Nat.{div-eq_of_lt, pow-suc}
use Rattle.ms_logic.specs.Assignment.{Universe, is_within, IsWithin}
use Rattle.ms_logic.specs.FiniteSet.{is_member, IsMember, greatest, IsRising, numbers_below, moved_up}
use Rattle.ms_logic.specs.inner.SetLaws.{SetsAreTheirMembers, SubsetLaw, ListedSet, UnionLaw, IntersectionLaw, DifferenceLaw, MovedUpLaw, MovedDownLaw, NumbersBelowLaw, OneBitsLaw, PartWithinLaw, LeastLaw, GreatestLaw}
use Rattle.ms_logic.proofs.Members.{is_member-set_of, is_member-union_of, is_member-filter, is_member-moved_up, is_member-moved_up_below, is_member-moved_down, is_member-range, IsRising-set_of, IsRising-filter, IsRising-moved_up, IsRising-moved_down, IsRising-range, below_first-below, both_true, either_true, along}

pub listed_set : ListedSet
listed_set listed = record { rising = IsRising-set_of listed; exactly = λ n. along _ _ _ (is_member-set_of n listed) (λ h. h, λ h. h) }

pub union_law : UnionLaw
union_law left right = record {
  rising = IsRising-set_of (left ++ right);
  exactly = λ n. along _ _ _ (is_member-union_of n left right) (either_true _ _);
}

pub intersection_law : IntersectionLaw
intersection_law left right rises = record {
  rising = IsRising-filter (λ n. is_member n right) left rises;
  exactly = λ n. along _ _ _ (is_member-filter n (λ m. is_member m right) left) (both_true _ _);
}

-- a failed test
not_true : (b : Bool) → (not b ≡ true) ↔ ¬ (b ≡ true)
not_true true = (λ h k. absurd cc, λ fails. absurd (fails refl))
not_true false = (λ h k. absurd cc, λ fails. refl)

pub difference_law : DifferenceLaw
difference_law left right rises = record {
  rising = IsRising-filter (λ n. not (is_member n right)) left rises;
  exactly = λ n. along _ _ _ (is_member-filter n (λ m. not (is_member m right)) left) (
      let two = both_true (is_member n left) (not (is_member n right)) in
      let other = not_true (is_member n right) in
      (λ h. ((two.0 h).0, other.0 (two.0 h).1), λ h. two.1 (h.0, other.1 h.1)));
}

-- where a member that was moved up came from
moved_up_from : (by n : ℕ) (members : List ℕ) → IsMember n (moved_up by members) → (m : ℕ) × IsMember m members × (n ≡ m + by)
moved_up_from by n members member =
    let below = is_member-moved_up_below n by members in
    let at_least : by ≤ n = grind (arith, nat_tests, below) in
    let there : n - by + by ≡ n = omega arith in
    (n - by, sym (is_member-moved_up (n - by) by members) ∙ ap (λ k. is_member k (moved_up by members)) there ∙ member, sym there)

pub moved_up_law : MovedUpLaw
moved_up_law by members rises = record {
  rising = IsRising-moved_up by members rises;
  exactly = λ n. (moved_up_from by n members, λ h. ap (λ k. is_member k (moved_up by members)) h.2 ∙ is_member-moved_up h.0 by members ∙ h.1);
}

pub moved_down_law : MovedDownLaw
moved_down_law by members rises = record {
  rising = IsRising-moved_down by members rises;
  exactly = λ n. along _ _ _ (is_member-moved_down n by members) (λ h. h, λ h. h);
}

pub numbers_below_law : NumbersBelowLaw
numbers_below_law limit = record {
  rising = IsRising-range 0 limit;
  exactly = λ n. along _ _ _ (is_member-range n 0 limit) (λ h. grind (arith, nat_tests), λ h. grind (arith, nat_tests));
}

pub part_within_law : PartWithinLaw
part_within_law universe members rises = record {
  rising = IsRising-filter (is_within universe) members rises;
  exactly = λ n. along _ _ _ (is_member-filter n (is_within universe) members) (
      let two = both_true (is_member n members) (is_within universe n) in
      let test = within_test universe n in
      (λ h. ((two.0 h).0, test.0 (two.0 h).1), λ h. two.1 (h.0, test.1 h.1)));
}
  where
    within_test : (universe : Universe) (n : ℕ) → (is_within universe n ≡ true) ↔ IsWithin universe n
    within_test None n = (λ h. tt, λ h. refl)
    within_test (Some size) n = (λ h. grind (arith, nat_tests), λ h. grind (arith, nat_tests))

-- a passed test of two numbers
passed_at : (a b : ℕ) → (a == b) ≡ true → a ≡ b
passed_at a b same = grind (arith, nat_tests)

-- a place is below the power of two that it stands for
place-lt-power : (k : ℕ) → k < 2 ^ k
place-lt-power zero = omega arith
place-lt-power (suc k) = let below = place-lt-power k in omega (arith, pow-suc 2 k, below)

-- a place with a one bit is below the number
one_bit-lt : (number k : ℕ) → bit_at number k ≡ 1 → k < number
one_bit-lt number k one =
    elim (cases_lt k number) as (λ _. k < number) [
      | inl below ↦ below
      | inr above ↦ (let small : number < 2 ^ k = omega (arith, place-lt-power k, above) in
          let gone : number / 2 ^ k ≡ 0 = div-eq_of_lt small in
          let none : bit_at number k ≡ 0 = ap (λ q. q % 2) gone in absurd (omega (arith, one, none)))
    ]

pub one_bits_law : OneBitsLaw
one_bits_law number = record {
  rising = IsRising-filter (λ k. bit_at number k == 1) (numbers_below number) (IsRising-range 0 number);
  exactly = λ n. along _ _ _ (is_member-filter n (λ k. bit_at number k == 1) (numbers_below number)) (
      let two = both_true (is_member n (numbers_below number)) (bit_at number n == 1) in
      (λ h. passed_at (bit_at number n) 1 (two.0 h).1, λ one. two.1 (((numbers_below_law number).exactly n).1 (one_bit-lt number n one), eq-eqb _ _ one)));
}

-- the first of a set is its least member
first-le : (n first : ℕ) (more : List ℕ) → IsRising (first ∷ more) → IsMember n (first ∷ more) → first ≤ n
first-le n first more rises member =
    let below = below_first-below first n more rises.1 rises.0 in grind (arith, nat_tests, below)

pub least_law : LeastLaw
least_law n [] rises member = cc
least_law n (first ∷ more) rises member = (grind (arith, nat_tests), first-le n first more rises member)

-- a member of the others is a member
later : (n first : ℕ) (more : List ℕ) → IsMember n more → IsMember n (first ∷ more)
later n first more member = (either_true (first == n) (is_member n more)).1 (inr member)

first_member : (first : ℕ) (more : List ℕ) → IsMember first (first ∷ more)
first_member first more = grind (arith, nat_tests)

pub greatest_law : GreatestLaw
greatest_law n [] rises member = cc
greatest_law n (only ∷ []) rises member = (grind (arith, nat_tests), grind (arith, nat_tests))
greatest_law n (first ∷ second ∷ more) rises member =
    let others = greatest_law second (second ∷ more) rises.1 (first_member second more) in
    (later (greatest (second ∷ more)) first (second ∷ more) others.0, ⊎_elim (λ is_first. omega (arith, others.1, rises.0, passed_at first n is_first)) (λ further. (greatest_law n (second ∷ more) rises.1 further).1) ((either_true (first == n) (is_member n (second ∷ more))).0 member))

-- a member of a longer set that is not its first is one of the others
not_first : (n first : ℕ) (more : List ℕ) → first < n → IsMember n (first ∷ more) → IsMember n more
not_first n first more above member = grind (arith, nat_tests)

pub sets_are_their_members : SetsAreTheirMembers
sets_are_their_members [] [] rises_left rises_right same = refl
sets_are_their_members [] (first ∷ more) rises_left rises_right same = absurd (false≢true ((same first).1 (first_member first more)))
sets_are_their_members (first ∷ more) [] rises_left rises_right same = absurd (false≢true ((same first).0 (first_member first more)))
sets_are_their_members (a ∷ left) (b ∷ right) rises_left rises_right same =
    let first : a ≡ b = omega (arith, first-le a b right rises_right ((same a).0 (first_member a left)), first-le b a left rises_left ((same b).1 (first_member b right))) in
    let others = sets_are_their_members left right rises_left.1 rises_right.1 (λ n.
    (λ member. let above = below_first-below a n left rises_left.1 rises_left.0 member in not_first n b right (omega (arith, above, first)) ((same n).0 (later n a left member)), λ member. let above = below_first-below b n right rises_right.1 rises_right.0 member in not_first n a left (omega (arith, above, first)) ((same n).1 (later n b right member)))) in
    cc

-- a test of each member means that each member passes
each_passes : (test : ℕ → Bool) (members : List ℕ) → list_all test members ≡ true → (n : ℕ) → IsMember n members → test n ≡ true
each_passes test [] all n member = absurd (false≢true member)
each_passes test (first ∷ more) all n member =
    let both = (both_true (test first) (list_all test more)).0 all in
    ⊎_elim (λ here. ap test (sym (passed_at first n here)) ∙ both.0) (λ later_member. each_passes test more both.1 n later_member) ((either_true (first == n) (is_member n more)).0 member)

all_pass : (test : ℕ → Bool) (members : List ℕ) → ((n : ℕ) → IsMember n members → test n ≡ true) → list_all test members ≡ true
all_pass test [] each = refl
all_pass test (first ∷ more) each =
    (both_true (test first) (list_all test more)).1 (each first (first_member first more), all_pass test more (λ n member. each n (later n first more member)))

pub subset_law : SubsetLaw
subset_law left right = (each_passes (λ n. is_member n right) left, all_pass (λ n. is_member n right) left)
