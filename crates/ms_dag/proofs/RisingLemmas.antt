-- Rising lists, and places in lists.
use Rattle.std.proofs.Common.{◌≡◌, ℕ, zero, suc, ◌<◌, ◌≤◌, List, length, get_or, Contains, ◌∙◌, ap, ⊎_elim, arith}
use Rattle.std.proofs.lemmas.Bool.{cases_eq, cases_lt}
use Rattle.std.proofs.lemmas.List.{get_or_default}
use Rattle.std.proofs.lemmas.List.Kept.{AllPairs-from_increasing}
use Rattle.std.specs.List.Sorted.{IsStrictlyIncreasing}

-- a number of a rising list is at least its place
pub rising_at_least : (xs : List ℕ) (i : ℕ) → IsStrictlyIncreasing xs → i < length xs → i ≤ get_or xs i 0
rising_at_least xs zero rising below = omega arith
rising_at_least xs (suc i) rising below =
    let before = rising_at_least xs i rising (omega arith) in
    let next : get_or xs i 0 < get_or xs (suc i) 0 = AllPairs-from_increasing xs rising i (suc i) 0 (omega arith) below in
    omega arith

pub rising_not_down : (xs : List ℕ) → IsStrictlyIncreasing xs → (i j : ℕ) → i ≤ j → j < length xs → get_or xs i 0 ≤ get_or xs j 0
rising_not_down xs rising i j le below =
    ⊎_elim (λ same. let equal = ap (λ k. get_or xs k 0) same in omega (arith, equal))
    (λ other. let less : get_or xs i 0 < get_or xs j 0 = AllPairs-from_increasing xs rising i j 0 (omega (arith, other)) below in omega arith) (cases_eq i j)

-- no number of a list lies between those before a place and those from it on
pub not_between : (xs : List ℕ) (n i : ℕ) → ((k : ℕ) → k < i → get_or xs k 0 < n) → ((k : ℕ) → i ≤ k → k < length xs → n < get_or xs k 0) → Contains xs n → ⊥
not_between xs n i before after there =
    let at : get_or xs there.0 0 ≡ n = get_or_default xs there.0 0 n there.1 ∙ there.2 in
    ⊎_elim (λ (below : there.0 < i). let less = before there.0 below in omega arith) (λ (above : i ≤ there.0). let more = after there.0 above there.1 in omega arith) (cases_lt there.0 i)
