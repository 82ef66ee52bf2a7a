-- The halves of a list of summands.
use Rattle.std.proofs.Common.{◌≡◌, ℕ, ◌+◌, ◌-◌, ◌/◌, ◌%◌, ◌^◌, ◌<◌, ◌≤◌, ◌==◌, zero, suc, Bool, true, false, List, [], ◌∷◌, length, take, drop, refl, sym, ◌∙◌, ap, subst, arith}
use Rattle.std.proofs.Math.Nat.{pow-suc}
use Rattle.ms_presburger.specs.declared.summand.Summand.{Summand}
use Rattle.ms_presburger.specs.Sets.{adds, half, some_set, sum_is}
use Rattle.ms_presburger.proofs.Totals.{take-fits, drop-fits}

-- half of few is half as many
pub halved : (levels n : ℕ) → n ≤ 2 ^ levels → 1 < n → (0 < levels) × (n / 2 + n % 2 ≤ 2 ^ (levels - 1)) × (n - (n / 2 + n % 2) ≤ 2 ^ (levels - 1))
halved zero n few more = absurd (omega (arith, few, more))
halved (suc k) n few more =
    let same : suc k - 1 ≡ k = omega arith in
    let P : ℕ → Type 0 = λ j. (0 < suc k) × (n / 2 + n % 2 ≤ 2 ^ j) × (n - (n / 2 + n % 2) ≤ 2 ^ j) in
    subst P (sym same) (omega arith, omega (arith, few, pow-suc 2 k), omega (arith, few, pow-suc 2 k))

take-whole : (s : List Summand) → take (length s) s ≡ s
take-whole [] = refl
take-whole (t ∷ more) = ap (λ (l : List Summand). t ∷ l) (take-whole more)

-- the rest behind a place, to the end
pub rest-whole : (h : ℕ) (s : List Summand) → take (length s - h) (drop h s) ≡ drop h s
rest-whole zero s = let same : length s - 0 ≡ length s = omega arith in ap (λ n. take n s) same ∙ take-whole s
rest-whole (suc h) [] = let none : 0 - suc h ≡ 0 = omega arith in ap (λ n. take {A = Summand} n []) none
rest-whole (suc h) (t ∷ more) = let same : suc (length more) - suc h ≡ length more - h = omega arith in ap (λ n. take n (drop h more)) same ∙ rest-whole h more

pub length-front : (h : ℕ) (s : List Summand) → length (take h s) ≤ h
length-front zero s = omega arith
length-front (suc h) [] = omega arith
length-front (suc h) (t ∷ more) = omega (arith, length-front h more)

pub length-rest : (h k : ℕ) (s : List Summand) → length s - h ≤ k → length (drop h s) ≤ k
length-rest zero k s short = omega (arith, short)
length-rest (suc h) k [] short = omega arith
length-rest (suc h) k (t ∷ more) short = length-rest h k more (omega (arith, short))

-- a sum of two and more is that of its halves
pub sum-split : (limit h : ℕ) (s rest : List Summand) (y x : ℕ) → 1 < length s → length s ≤ suc limit → h ≡ half s → rest ≡ drop h s →
    (n : ℕ) × (length (take h s) ≤ suc n) × (length rest ≤ suc n) × (some_set x (sum_is n (take h s) x (x + 2)) (some_set (x + 2) (sum_is n rest (x + 2) (x + 4)) (adds y x (x + 2) (x + 4))) ≡ sum_is limit s y x)
sum-split limit h [] rest y x more fits is is' = absurd (omega (arith, more))
sum-split limit h (t ∷ []) rest y x more fits is is' = absurd (omega (arith, more))
sum-split zero h (t ∷ (s ∷ others)) rest y x more fits is is' = absurd (omega (arith, fits))
sum-split (suc n) h (t ∷ (s ∷ others)) rest y x more fits is is' =
    let terms : List Summand = t ∷ (s ∷ others) in
    let behind : rest ≡ drop (half terms) terms = is' ∙ ap (λ k. drop k terms) is in
    let Fits : ℕ → Type 0 = λ k. length (take k terms) ≤ suc n in
    let RestFits : List Summand → Type 0 = λ l. length l ≤ suc n in (
      n,
      subst Fits (sym is) (take-fits n t s others fits),
      subst RestFits (sym behind) (drop-fits n t s others fits),
      ap (λ (l : List Summand). some_set x (sum_is n (take h terms) x (x + 2)) (some_set (x + 2) (sum_is n l (x + 2) (x + 4)) (adds y x (x + 2) (x + 4)))) behind
          ∙ ap (λ (k : ℕ). some_set x (sum_is n (take k terms) x (x + 2)) (some_set (x + 2) (sum_is n (drop (half terms) terms) (x + 2) (x + 4)) (adds y x (x + 2) (x + 4)))) is,
    )

-- neither empty nor of one
pub more-than-one : (n : ℕ) (empty : Bool) → empty ≡ false → empty ≡ (n == 0) → (n ≡ 1 → ⊥) → 1 < n
more-than-one zero empty fails is other = let never : false ≡ true = sym fails ∙ is in absurd cc
more-than-one (suc zero) empty fails is other = absurd (other refl)
more-than-one (suc (suc n)) empty fails is other = omega arith
