-- Sets of numbers as numbers.
use Rattle.std.proofs.Common.{◌≡◌, ℕ, zero, suc, ◌+◌, ◌*◌, ◌^◌, ◌/◌, ◌%◌, ◌<◌, ◌≤◌, List, [], ◌∷◌, length, slice_get, Some, refl, sym, ap, ◌∙◌, arith}
use Rattle.std.proofs.lemmas.Option.{none-some, same_Some}
use Rattle.std.proofs.Math.Nat.{div-div-eq-div-mul, div-one}
use Rattle.std.proofs.lemmas.Nat.{div-mul-add}
use Rattle.ms_logic.specs.declared.mode.Order.{Order}
use Rattle.ms_logic.specs.declared.mode.Order.TheVariants.{Zero, One, Two}
use Rattle.ms_dfafile_outside.specs.inner.Numbers.{IsNumberAt, full_set, numbers_in, one_more, rank, set_of, with_order}

-- counts that agree at each number
abbrev pub AgreeAt : List Order → (ℕ → ℕ) → (ℕ → ℕ) → Type 0
AgreeAt orders one two = (place : ℕ) → IsNumberAt orders place → one place ≡ two place

-- each number is counted once at most
abbrev pub AreOnce : List Order → (ℕ → ℕ) → Type 0
AreOnce orders count = (place : ℕ) → IsNumberAt orders place → count place ≤ 1

pub zero-one : Some Zero ≡ Some One → ⊥
zero-one same = let zero_is : Zero ≡ One = same_Some Zero One same in cc

pub two-one : Some Two ≡ Some One → ⊥
two-one same = let two_is : Two ≡ One = same_Some Two One same in cc

-- counts that agree at each number make one set
pub set_of-same : (orders : List Order) (one two : ℕ → ℕ) → AgreeAt orders one two → set_of orders one ≡ set_of orders two
set_of-same [] one two agree = refl
set_of-same (Zero ∷ orders) one two agree = set_of-same orders (λ p. one (suc p)) (λ p. two (suc p)) (λ p is. agree (suc p) is)
set_of-same (One ∷ orders) one two agree =
    let rest = set_of-same orders (λ p. one (suc p)) (λ p. two (suc p)) (λ p is. agree (suc p) is) in
    let first : one 0 ≡ two 0 = agree 0 refl in omega (arith, rest, first)
set_of-same (Two ∷ orders) one two agree = set_of-same orders (λ p. one (suc p)) (λ p. two (suc p)) (λ p is. agree (suc p) is)

pub power-more : (n : ℕ) → 2 ^ (n + 1) ≡ 2 * 2 ^ n
power-more n = let same : n + 1 ≡ suc n = omega arith in ap (λ k. 2 ^ k) same ∙ grind arith

-- a set of numbers, each of which is in it once at most, is less than the power of two for all of them
pub set_of-bound : (orders : List Order) (count : ℕ → ℕ) → AreOnce orders count → set_of orders count < 2 ^ numbers_in orders
set_of-bound [] count once = omega arith
set_of-bound (Zero ∷ orders) count once = set_of-bound orders (λ p. count (suc p)) (λ p is. once (suc p) is)
set_of-bound (One ∷ orders) count once =
    let rest = set_of-bound orders (λ p. count (suc p)) (λ p is. once (suc p) is) in
    let first : count 0 ≤ 1 = once 0 refl in
    omega (arith, rest, first, power-more (rank orders (length orders)))
set_of-bound (Two ∷ orders) count once = set_of-bound orders (λ p. count (suc p)) (λ p is. once (suc p) is)

pub full_set-is : (orders : List Order) → full_set orders + 1 ≡ 2 ^ numbers_in orders
full_set-is [] = refl
full_set-is (Zero ∷ orders) = full_set-is orders
full_set-is (One ∷ orders) = omega (arith, full_set-is orders, power-more (rank orders (length orders)))
full_set-is (Two ∷ orders) = full_set-is orders

-- one number more in the set
pub set_of-more : (orders : List Order) (count : ℕ → ℕ) (place : ℕ) → IsNumberAt orders place → set_of orders (one_more count place) ≡ set_of orders count + 2 ^ rank orders place
set_of-more [] count place is = absurd (none-some One is)
set_of-more (Zero ∷ orders) count zero is = absurd (zero-one is)
set_of-more (One ∷ orders) count zero is =
    let rest = set_of-same orders (λ p. one_more count 0 (suc p)) (λ p. count (suc p)) (λ p is_number. refl) in
    omega (arith, rest)
set_of-more (Two ∷ orders) count zero is = absurd (two-one is)
set_of-more (Zero ∷ orders) count (suc place) is =
    set_of-more orders (λ p. count (suc p)) place is
set_of-more (One ∷ orders) count (suc place) is =
    let rest = set_of-more orders (λ p. count (suc p)) place is in
    omega (arith, rest, power-more (rank orders place))
set_of-more (Two ∷ orders) count (suc place) is = set_of-more orders (λ p. count (suc p)) place is

-- the set without its first number
halved : (first more : ℕ) → first ≤ 1 → (first + 2 * more) / 2 ≡ more
halved first more once = let same : first + 2 * more ≡ more * 2 + first = omega arith in ap (λ n. n / 2) same ∙ div-mul-add more 2 first (omega arith)

lowest : (first more : ℕ) → first ≤ 1 → (first + 2 * more) % 2 ≡ first
lowest first more once = let half = halved first more once in omega (arith, half)

-- whether a number is in the set
pub set_of-bit : (orders : List Order) (count : ℕ → ℕ) (place : ℕ) → AreOnce orders count → IsNumberAt orders place → set_of orders count / 2 ^ rank orders place % 2 ≡ count place
set_of-bit [] count place once is = absurd (none-some One is)
set_of-bit (Zero ∷ orders) count zero once is = absurd (zero-one is)
set_of-bit (One ∷ orders) count zero once is =
    let more = set_of orders (λ p. count (suc p)) in
    ap (λ n. n % 2) (div-one (count 0 + 2 * more)) ∙ lowest (count 0) more (once 0 refl)
set_of-bit (Two ∷ orders) count zero once is = absurd (two-one is)
set_of-bit (Zero ∷ orders) count (suc place) once is = set_of-bit orders (λ p. count (suc p)) place (λ p number. once (suc p) number) is
set_of-bit (One ∷ orders) count (suc place) once is =
    let more = set_of orders (λ p. count (suc p)) in
    ap (λ w. (count 0 + 2 * more) / w % 2) (power-more (rank orders place))
    ∙ ap (λ n. n % 2) (sym (div-div-eq-div-mul (count 0 + 2 * more) 2 (2 ^ rank orders place)))
    ∙ ap (λ n. n / 2 ^ rank orders place % 2) (halved (count 0) more (once 0 refl))
    ∙ set_of-bit orders (λ p. count (suc p)) place (λ p number. once (suc p) number) is
set_of-bit (Two ∷ orders) count (suc place) once is = set_of-bit orders (λ p. count (suc p)) place (λ p number. once (suc p) number) is

-- equal sets have the same numbers
pub set_of-apart : (orders : List Order) (one two : ℕ → ℕ) → AreOnce orders one → AreOnce orders two → set_of orders one ≡ set_of orders two → AgreeAt orders one two
set_of-apart orders one two once_one once_two same place is =
    sym (set_of-bit orders one place once_one is) ∙ ap (λ set. set / 2 ^ rank orders place % 2) same ∙ set_of-bit orders two place once_two is

-- no number is before the first place
pub rank-none : (orders : List Order) → rank orders 0 ≡ 0
rank-none [] = refl
rank-none (order ∷ orders) = refl

-- more places have no fewer numbers before them
pub rank-rising : (orders : List Order) (one two : ℕ) → one ≤ two → rank orders one ≤ rank orders two
rank-rising [] one two less = omega arith
rank-rising (order ∷ orders) zero two less = omega arith
rank-rising (order ∷ orders) (suc one) zero less = absurd (omega (arith, less))
rank-rising (Zero ∷ orders) (suc one) (suc two) less = rank-rising orders one two (omega (arith, less))
rank-rising (One ∷ orders) (suc one) (suc two) less = let rest = rank-rising orders one two (omega (arith, less)) in omega (arith, rest)
rank-rising (Two ∷ orders) (suc one) (suc two) less = rank-rising orders one two (omega (arith, less))

-- a number is before the next place
pub rank-next : (orders : List Order) (place : ℕ) → IsNumberAt orders place → rank orders (place + 1) ≡ rank orders place + 1
rank-next [] place is = absurd (none-some One is)
rank-next (Zero ∷ orders) zero is = absurd (zero-one is)
rank-next (One ∷ orders) zero is = let none : rank orders 0 ≡ 0 = rank-none orders in let next : 0 + 1 ≡ suc 0 = omega arith in ap (λ k. rank (One ∷ orders) k) next ∙ omega (arith, none)
rank-next (Two ∷ orders) zero is = absurd (two-one is)
rank-next (Zero ∷ orders) (suc place) is = let next : suc place + 1 ≡ suc (place + 1) = omega arith in ap (λ k. rank (Zero ∷ orders) k) next ∙ rank-next orders place is
rank-next (One ∷ orders) (suc place) is =
    let next : suc place + 1 ≡ suc (place + 1) = omega arith in
    let rest = rank-next orders place is in ap (λ k. rank (One ∷ orders) k) next ∙ omega (arith, rest)
rank-next (Two ∷ orders) (suc place) is = let next : suc place + 1 ≡ suc (place + 1) = omega arith in ap (λ k. rank (Two ∷ orders) k) next ∙ rank-next orders place is

-- what is no number is not counted before the next place
pub rank-other : (orders : List Order) (place : ℕ) (order : Order) → slice_get orders place ≡ Some order → with_order order 0 ≡ 0 → rank orders (place + 1) ≡ rank orders place
rank-other [] place order held is = absurd (none-some order held)
rank-other (first ∷ orders) zero order held is =
    let next : 0 + 1 ≡ suc 0 = omega arith in
    let none : rank orders 0 ≡ 0 = rank-none orders in
    ap (λ k. rank (first ∷ orders) k) next ∙ ap (λ (o : Order). with_order o (rank orders 0)) (same_Some first order held) ∙ ap (with_order order) none ∙ is
rank-other (first ∷ orders) (suc place) order held is =
    let next : suc place + 1 ≡ suc (place + 1) = omega arith in
    ap (λ k. rank (first ∷ orders) k) next ∙ ap (with_order first) (rank-other orders place order held is)

-- each number from a place on that is before another has it between them
pub rank-gap : (orders : List Order) (level next place : ℕ) → rank orders next ≤ rank orders level → IsNumberAt orders place → level ≤ place → place < next → ⊥
rank-gap orders level next place gap is from before =
    let low = rank-rising orders level place from in
    let own = rank-next orders place is in
    let high = rank-rising orders (place + 1) next (omega (arith, before)) in
    omega (arith, gap, low, own, high)
