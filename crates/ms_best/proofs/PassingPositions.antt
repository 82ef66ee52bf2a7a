-- The positions that pass a test, as loops over the positions find them.
use Rattle.std.proofs.Common.{◌≡◌, ℕ, zero, suc, ◌+◌, ◌<◌, ◌≤◌, Bool, true, false, inl, inr, [], ◌∷◌, ◌++◌, refl, sym, ap, subst, ◌∙◌, arith, add-zero}
use Rattle.std.specs.List.{filter, range_with_len}
use Rattle.std.proofs.lemmas.Bool.{cases_lt}
use Rattle.std.proofs.lemmas.List.Elements.{filter-append}
use Rattle.ms_logic.specs.FiniteSet.{least, numbers_below}

-- one number more
range_more : (start n : ℕ) → range_with_len start (suc n) ≡ range_with_len start n ++ (start + n) ∷ []
range_more start zero = rw add-zero refl
range_more start (suc n) =
    let same : start + 1 + n ≡ start + suc n = omega arith in
    ap (λ l. start ∷ l) (range_more (start + 1) n ∙ ap (λ k. range_with_len (start + 1) n ++ k ∷ []) same)

pub filter_more_numbers : (test : ℕ → Bool) (n : ℕ) → filter test (numbers_below (n + 1)) ≡ filter test (numbers_below n) ++ filter test (n ∷ [])
filter_more_numbers test n =
    let one : n + 1 ≡ suc n = omega arith in
    let last : 0 + n ≡ n = omega arith in
    ap (λ k. filter test (range_with_len 0 k)) one ∙ ap (filter test) (range_more 0 n) ∙ filter-append test (range_with_len 0 n) ((0 + n) ∷ [])
    ∙ ap (λ k. filter test (numbers_below n) ++ filter test (k ∷ [])) last

-- the first number of a range that passes is the least of those that do
pub least_passing : (test : ℕ → Bool) (start n p : ℕ) → start ≤ p → p < start + n → ((q : ℕ) → start ≤ q → q < p → test q ≡ false) → test p ≡ true
    → least (filter test (range_with_len start n)) ≡ p
least_passing test start zero p from to before passes = absurd (omega arith)
least_passing test start (suc n) p from to before passes =
    elim (cases_lt start p) [
      | inl below ↦ rw (before start (omega arith) below) (least_passing test (start + 1) n p (omega (arith, below)) (omega arith) (λ q at_least less. before q (omega (arith, at_least)) less) passes)
      | inr here ↦ (let same : p ≡ start = omega (arith, here, from) in let first : test start ≡ true = subst (λ (k : ℕ). test k ≡ true) same passes in rw first (sym same))
    ]

-- where none passes, none is left
pub none_passing : (test : ℕ → Bool) (start n : ℕ) → ((q : ℕ) → start ≤ q → q < start + n → test q ≡ false) → filter test (range_with_len start n) ≡ []
none_passing test start zero fails = refl
none_passing test start (suc n) fails = rw (fails start (omega arith) (omega arith)) (none_passing test (start + 1) n (λ q from to. fails q (omega (arith, from)) (omega (arith, to))))
