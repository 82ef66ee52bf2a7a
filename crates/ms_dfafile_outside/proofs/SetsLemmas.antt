-- The sets of the numbers before each variable.
use Rattle.std.proofs.Common.{◌≡◌, ◌↔◌, ℕ, ◌+◌, ◌*◌, ◌^◌, ◌<◌, ◌≤◌, ⊎_elim, List, [], ◌∷◌, ◌++◌, length, slice_get, get_or, Some, refl, sym, ap, ◌∙◌, arith, length-append}
use Rattle.std.proofs.lemmas.Bool.{cases_lt}
use Rattle.std.proofs.lemmas.Nat.{pow_below}
use Rattle.std.proofs.lemmas.Option.{slice_get_within, slice_get-get_or}
use Rattle.std.proofs.Math.Nat.{pow-le-pow_right}
use Rattle.ms_arena.proofs.Lists.{slice_get-pushed}
use Rattle.ms_logic.specs.declared.mode.Order.{Order}
use Rattle.ms_logic.specs.declared.mode.Order.TheVariants.{Zero, One, Two}
use Rattle.ms_dfafile_outside.specs.inner.Numbers.{AreSetsBefore, IsNumberAt, full_set, numbers_in, rank, with_order}
use Rattle.ms_dfafile_outside.proofs.ShortLists.{at_one}
use Rattle.ms_dfafile_outside.proofs.NumbersLemmas.{full_set-is, power-more, rank-next, rank-none, rank-other, rank-rising}

-- the sets before the first so many variables and behind them, where there are few numbers so far
pub record AreSetsSoFar (orders : List Order) (sets : List ℕ) (count before : ℕ) : Type 0 where
  pub long : length sets ≡ count + 1
  pub each : (place set : ℕ) → slice_get sets place ≡ Some set → set + 1 ≡ 2 ^ rank orders place
  pub last : before + 1 ≡ 2 ^ rank orders count
  pub few : before < 2 ^ 31

pub sets-none : (orders : List Order) → AreSetsSoFar orders (0 ∷ []) 0 0
sets-none orders =
    let first : 0 + 1 ≡ 2 ^ rank orders 0 = sym (ap (λ n. 2 ^ n) (rank-none orders)) in
    record {
      long = refl;
      each = at_one (λ place set. set + 1 ≡ 2 ^ rank orders place) 0 first;
      last = first;
      few = omega arith;
    }

sets-more : (orders : List Order) (sets : List ℕ) (count before next : ℕ) → AreSetsSoFar orders sets count before → next + 1 ≡ 2 ^ rank orders (count + 1) → next < 2 ^ 31
    → AreSetsSoFar orders (sets ++ next ∷ []) (count + 1) next
sets-more orders sets count before next are is few = record {
  long = length-append sets (next ∷ []) ∙ ap (λ n. n + 1) are.long;
  each = λ place set held. ⊎_elim (λ was. are.each place set was)
      (λ here. ap (λ n. n + 1) (sym here.1) ∙ is ∙ ap (λ n. 2 ^ rank orders n) (sym (here.0 ∙ are.long)))
      (slice_get-pushed sets next place set held);
  last = is;
  few = few;
}

-- a number more
pub sets-number : (orders : List Order) (sets : List ℕ) (count before : ℕ) → AreSetsSoFar orders sets count before → IsNumberAt orders count → before < 2147483647
    → AreSetsSoFar orders (sets ++ (2 * before + 1) ∷ []) (count + 1) (2 * before + 1)
sets-number orders sets count before are number few =
    sets-more orders sets count before (2 * before + 1) are
    (let power = power-more (rank orders count) in let double : 2 * before + 1 + 1 ≡ 2 ^ (rank orders count + 1) = omega (arith, are.last, power) in double ∙ ap (λ n. 2 ^ n) (sym (rank-next orders count number)))
    (let power = power-more (rank orders count) in
    let next : 2 ^ (rank orders count + 1) ≤ 2 ^ 31 = pow-le-pow_right (omega arith) small in
    omega (arith, are.last, power, next))
  where
    small : rank orders count + 1 ≤ 31
    small = ⊎_elim (λ less. omega (arith, less)) (λ more. let large : 2 ^ 31 ≤ 2 ^ rank orders count = pow-le-pow_right (omega arith) more in absurd (omega (arith, large, are.last, few))) (cases_lt (rank orders count) 31)

-- another variable more
pub sets-other : (orders : List Order) (sets : List ℕ) (count before : ℕ) (order : Order) → AreSetsSoFar orders sets count before → slice_get orders count ≡ Some order → (order ≡ One → ⊥)
    → AreSetsSoFar orders (sets ++ before ∷ []) (count + 1) before
sets-other orders sets count before order are held other =
    sets-more orders sets count before before are (are.last ∙ ap (λ n. 2 ^ n) (sym (rank-other orders count order held (no_number order other)))) are.few
  where
    no_number : (o : Order) → (o ≡ One → ⊥) → with_order o 0 ≡ 0
    no_number Zero differ = refl
    no_number One differ = absurd (differ refl)
    no_number Two differ = refl

-- too many
pub sets-many : (orders : List Order) (sets : List ℕ) (count before : ℕ) → AreSetsSoFar orders sets count before → IsNumberAt orders count → 2147483647 ≤ before → 32 ≤ numbers_in orders
sets-many orders sets count before are number many = ⊎_elim
    (λ few.
    let within = slice_get_within orders count One number in
    let next = rank-next orders count number in
    let rising = rank-rising orders (count + 1) (length orders) (omega (arith, within)) in
    let small : rank orders count < 31 = omega (arith, next, rising, few) in
    let power : 2 ^ rank orders count < 2 ^ 31 = pow_below (rank orders count) 31 small in
    absurd (omega (arith, power, are.last, many)))
    (λ many_numbers. many_numbers)
    (cases_lt (numbers_in orders) 32)

-- all
pub sets-all : (orders : List Order) (sets : List ℕ) (before : ℕ) → AreSetsSoFar orders sets (length orders) before → AreSetsBefore orders sets
sets-all orders sets before are = record {
  long = are.long;
  each = are.each;
  few = ⊎_elim (λ few. few)
      (λ many. let power : 2 ^ 32 ≤ 2 ^ numbers_in orders = pow-le-pow_right (omega arith) many in absurd (omega (arith, power, are.last, are.few)))
      (cases_lt (numbers_in orders) 32);
}

-- the set before a place, of a list of sets
pub set-at : (orders : List Order) (sets : List ℕ) (place : ℕ) → AreSetsBefore orders sets → place ≤ length orders → get_or sets place 0 + 1 ≡ 2 ^ rank orders place
set-at orders sets place are within = are.each place (get_or sets place 0) (slice_get-get_or sets place 0 (omega (arith, are.long, within)))

pub set-small : (orders : List Order) (sets : List ℕ) (place : ℕ) → AreSetsBefore orders sets → place ≤ length orders → get_or sets place 0 < 2 ^ 31
set-small orders sets place are within =
    let rising = rank-rising orders place (length orders) within in
    let less : rank orders place ≤ 31 = omega (arith, rising, are.few) in
    let power : 2 ^ rank orders place ≤ 2 ^ 31 = pow-le-pow_right (omega arith) less in
    omega (arith, set-at orders sets place are within, power)

-- sets before places compare as the numbers before them do
pub set-ranks : (orders : List Order) (sets : List ℕ) (one two : ℕ) → AreSetsBefore orders sets → one ≤ length orders → two ≤ length orders → (get_or sets one 0 ≤ get_or sets two 0) ↔ (rank orders one ≤ rank orders two)
set-ranks orders sets one two are within_one within_two =
    let first = set-at orders sets one are within_one in
    let second = set-at orders sets two are within_two in (
      λ below. ⊎_elim (λ above. let power : 2 ^ rank orders two < 2 ^ rank orders one = pow_below (rank orders two) (rank orders one) above in absurd (omega (arith, below, first, second, power))) (λ least. least) (cases_lt (rank orders two) (rank orders one)),
      λ least. let power : 2 ^ rank orders one ≤ 2 ^ rank orders two = pow-le-pow_right (omega arith) least in omega (arith, first, second, power),
    )

-- the last set is that of all numbers
pub set-full : (orders : List Order) (sets : List ℕ) → AreSetsBefore orders sets → get_or sets (length orders) 0 ≡ full_set orders
set-full orders sets are = let all = set-at orders sets (length orders) are (omega arith) in let full = full_set-is orders in omega (arith, all, full)
