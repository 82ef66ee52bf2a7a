-- The binary digits of the number of a set, from its greatest member down.
use Rattle.std.proofs.Common.{◌≡◌, ℕ, zero, suc, ◌+◌, ◌-◌, ◌*◌, ◌/◌, ◌%◌, ◌^◌, ◌<◌, ◌≤◌, List, [], ◌∷◌, ◌++◌, length, map, drop, get_or, replicate, refl, sym, ap, ◌∙◌, add-one, arith}
use Rattle.std.specs.List.{sum_by}
use Rattle.std.specs.Int.Digits.{digits_of}
use Rattle.std.proofs.lemmas.Int.Digits.{digits_of_step}
use Rattle.std.proofs.lemmas.List.{append_assoc, append-nil, drop_all, map_push, replicate_more}
use Rattle.std.proofs.lemmas.List.Sums.{sum_by-cons, sum_by-drop_more, sum_by-le-sum_by}
use Rattle.std.proofs.lemmas.Nat.{mul-le, pow-add, pow_pos}
use Rattle.std.proofs.Math.Nat.{mul-add, mul_assoc, mul_comm, pow-suc}
use Rattle.ms_logic.specs.FiniteSet.{IsBelowFirst, IsRising}
use Rattle.ms_report.specs.Numbers.{binary, number_of_set}

-- the digits of a number that is not 0
abbrev pub spelled : ℕ → List ℕ
spelled n = map (λ digit. 48 + digit) (digits_of 2 n)

pub binary-spelled : (n : ℕ) → 0 < n → binary n ≡ spelled n
binary-spelled zero some = absurd (omega (arith, some))
binary-spelled (suc n) some = refl

-- one digit more
one-more : (n digit : ℕ) → digit < 2 → 0 < n * 2 + digit → spelled (n * 2 + digit) ≡ spelled n ++ ((48 + digit) ∷ [])
one-more n digit small some =
    let front : (n * 2 + digit) / 2 ≡ n = omega (arith, small) in
    let last : (n * 2 + digit) % 2 ≡ digit = omega (arith, small) in
    ap (map (λ d. 48 + d)) (digits_of_step 2 (n * 2 + digit) (omega arith) some)
    ∙ map_push (λ d. 48 + d) (digits_of 2 ((n * 2 + digit) / 2)) ((n * 2 + digit) % 2)
    ∙ ap (λ m. spelled m ++ ((48 + (n * 2 + digit) % 2) ∷ [])) front
    ∙ ap (λ d. spelled n ++ ((48 + d) ∷ [])) last

twice : (k n : ℕ) → 2 ^ suc k * n ≡ 2 ^ k * n * 2
twice k n = ap (λ m. m * n) (pow-suc 2 k) ∙ mul_assoc (2 ^ k) 2 n ∙ ap (λ m. 2 ^ k * m) (mul_comm 2 n) ∙ sym (mul_assoc (2 ^ k) n 2)

positive : (k n : ℕ) → 0 < n → 0 < 2 ^ k * n
positive k n some = omega (arith, mul-le 1 1 (2 ^ k) n (pow_pos k) some)

-- zeros behind a number
pub with-zeros : (n k : ℕ) → 0 < n → spelled (2 ^ k * n) ≡ spelled n ++ replicate k 48
with-zeros n zero some =
    let same : 2 ^ 0 * n ≡ n = omega arith in
    ap spelled same ∙ sym (append-nil (spelled n))
with-zeros n (suc k) some =
    let even : 2 ^ suc k * n ≡ 2 ^ k * n * 2 + 0 = omega (arith, twice k n) in
    ap spelled even ∙ one-more (2 ^ k * n) 0 (omega arith) (omega (arith, positive k n some))
    ∙ ap (λ digits. digits ++ (48 ∷ [])) (with-zeros n k some)
    ∙ append_assoc (spelled n) (replicate k 48) (48 ∷ [])
    ∙ ap (λ zeros. spelled n ++ zeros) (replicate_more k 48 ∙ ap (λ m. replicate m 48) (add-one k))

-- zeros and a one behind a number
pub with-one : (n k : ℕ) → 0 < n → 0 < k → spelled (1 + 2 ^ k * n) ≡ (spelled n ++ replicate (k - 1) 48) ++ (49 ∷ [])
with-one n zero some far = absurd (omega (arith, far))
with-one n (suc k) some far =
    let odd : 1 + 2 ^ suc k * n ≡ 2 ^ k * n * 2 + 1 = omega (arith, twice k n) in
    let fewer : k ≡ suc k - 1 = omega arith in
    ap spelled odd ∙ one-more (2 ^ k * n) 1 (omega arith) (omega arith)
    ∙ ap (λ digits. digits ++ (49 ∷ [])) (with-zeros n k some ∙ ap (λ m. spelled n ++ replicate m 48) fewer)

-- the number of a set whose places are counted from p
abbrev pub number_from : ℕ → List ℕ → ℕ
number_from p members = sum_by (λ i. 2 ^ (i - p)) members

-- no member of a set that rises is below q, if the first is not
abbrev pub IsFrom : ℕ → List ℕ → Type 0
IsFrom q [] = Unit {0}
IsFrom q (i ∷ more) = q ≤ i

pub from-none : (members : List ℕ) → IsFrom 0 members
from-none [] = tt
from-none (i ∷ more) = omega arith

pub from-behind : (q i : ℕ) (more : List ℕ) → q ≤ i + 1 → IsBelowFirst i more → IsFrom q more
from-behind q i [] low below = tt
from-behind q i (j ∷ more) low below = omega (arith, low, below)

-- counted from a lower place
moved : (p q : ℕ) (members : List ℕ) → p ≤ q → IsRising members → IsFrom q members → number_from p members ≡ 2 ^ (q - p) * number_from q members
moved p q [] low rises from = omega arith
moved p q (i ∷ more) low rises from =
    let far : (i - p) ≡ (q - p) + (i - q) = omega (arith, low, from) in
    sum_by-cons (λ j. 2 ^ (j - p)) i more
    ∙ ap (λ n. n + number_from p more) (ap (λ n. 2 ^ n) far ∙ pow-add 2 (q - p) (i - q))
    ∙ ap (λ n. 2 ^ (q - p) * 2 ^ (i - q) + n) (moved p q more low rises.1 (from-behind q i more (omega (arith, from)) rises.0))
    ∙ sym (mul-add (2 ^ (q - p)) (2 ^ (i - q)) (number_from q more))
    ∙ ap (λ n. 2 ^ (q - p) * n) (sym (sum_by-cons (λ j. 2 ^ (j - q)) i more))

-- the members from the one at an index on
rising-from : (members : List ℕ) (i : ℕ) → IsRising members → IsRising (drop i members)
rising-from members zero rises = rises
rising-from [] (suc i) rises = tt
rising-from (m ∷ more) (suc i) rises = rising-from more i rises.1

from-itself : (members : List ℕ) (i : ℕ) → IsFrom (get_or members i 0) (drop i members)
from-itself [] zero = tt
from-itself (m ∷ more) zero = omega arith
from-itself [] (suc i) = tt
from-itself (m ∷ more) (suc i) = from-itself more i

next-above : (members : List ℕ) (i : ℕ) → IsRising members → suc i < length members → get_or members i 0 < get_or members (suc i) 0
next-above [] i rises within = absurd (omega (arith, within))
next-above (m ∷ []) i rises within = absurd (omega (arith, within))
next-above (m ∷ n ∷ more) zero rises within = rises.0
next-above (m ∷ n ∷ more) (suc i) rises within = next-above (n ∷ more) i rises.1 (omega (arith, within))

pub above : (members : List ℕ) (i : ℕ) → IsRising members → i + 1 < length members → get_or members i 0 < get_or members (i + 1) 0
above members i rises within = rw (add-one) (next-above members i rises (omega (arith, within)))

-- the number from a member on, counted from it
abbrev pub from_member : List ℕ → ℕ → ℕ
from_member members i = number_from (get_or members i 0) (drop i members)

power-itself : (p : ℕ) → 2 ^ (p - p) ≡ 1
power-itself p = let none : p - p ≡ 0 = omega arith in ap (λ n. 2 ^ n) none

pub from-member-positive : (members : List ℕ) (i : ℕ) → i < length members → 0 < from_member members i
from-member-positive members i within =
    let first = get_or members i 0 in
    omega (arith, sum_by-drop_more (λ j. 2 ^ (j - first)) members i 0 within, power-itself first)

pub from-member-last : (members : List ℕ) (i : ℕ) → i + 1 ≡ length members → from_member members i ≡ 1
from-member-last members i last =
    let first = get_or members i 0 in
    let none : drop (i + 1) members ≡ [] = drop_all (i + 1) members (omega (arith, last)) in
    omega (
      arith,
      sum_by-drop_more (λ j. 2 ^ (j - first)) members i 0 (omega (arith, last)),
      power-itself first,
      ap (number_from first) none,
    )

pub from-member-step : (members : List ℕ) (i : ℕ) → IsRising members → i + 1 < length members
    → from_member members i ≡ 1 + 2 ^ (get_or members (i + 1) 0 - get_or members i 0) * from_member members (i + 1)
from-member-step members i rises within =
    let p = get_or members i 0 in
    let q = get_or members (i + 1) 0 in
    let low = above members i rises within in
    sum_by-drop_more (λ j. 2 ^ (j - p)) members i 0 (omega (arith, within))
    ∙ ap (λ n. n + number_from p (drop (i + 1) members)) (power-itself p)
    ∙ ap (λ n. 1 + n) (moved p q (drop (i + 1) members) (omega (arith, low)) (rising-from members (i + 1) rises) (from-itself members (i + 1)))

-- one member more, downwards
pub digits-step : (members : List ℕ) (i : ℕ) → IsRising members → i + 1 < length members
    → spelled (from_member members i) ≡ (spelled (from_member members (i + 1)) ++ replicate (get_or members (i + 1) 0 - get_or members i 0 - 1) 48) ++ (49 ∷ [])
digits-step members i rises within =
    ap spelled (from-member-step members i rises within)
    ∙ with-one (from_member members (i + 1)) (get_or members (i + 1) 0 - get_or members i 0) (from-member-positive members (i + 1) within) (omega (arith, above members i rises within))

-- the whole number
from-zero : (members : List ℕ) → number_of_set members ≡ number_from 0 members
from-zero members =
    omega (
      arith,
      sum_by-le-sum_by (λ i. 2 ^ i) (λ i. 2 ^ (i - 0)) members (λ i. omega (arith, same i)),
      sum_by-le-sum_by (λ i. 2 ^ (i - 0)) (λ i. 2 ^ i) members (λ i. omega (arith, same i)),
    )
  where
    same : (i : ℕ) → 2 ^ (i - 0) ≡ 2 ^ i
    same i = let none : i - 0 ≡ i = omega arith in ap (λ n. 2 ^ n) none

pub number-whole : (members : List ℕ) → IsRising members → number_of_set members ≡ 2 ^ get_or members 0 0 * from_member members 0
number-whole members rises =
    let first = get_or members 0 0 in
    let far : first - 0 ≡ first = omega arith in
    from-zero members ∙ moved 0 first members (omega arith) rises (from-itself members 0) ∙ ap (λ n. 2 ^ n * from_member members 0) far

pub digits-whole : (members : List ℕ) → IsRising members → 0 < length members
    → binary (number_of_set members) ≡ spelled (from_member members 0) ++ replicate (get_or members 0 0) 48
digits-whole members rises some =
    let first = get_or members 0 0 in
    let number = from_member members 0 in
    let more = from-member-positive members 0 some in
    ap binary (number-whole members rises) ∙ binary-spelled (2 ^ first * number) (positive first number more) ∙ with-zeros number first more
