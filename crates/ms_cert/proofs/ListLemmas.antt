-- The item of a turn of a loop, and what is left of the list there.
use Rattle.std.proofs.Common.{◌≡◌, ℕ, zero, suc, ◌+◌, ◌<◌, ◌≤◌, List, [], ◌∷◌, ◌++◌, drop, drop-cons, length, slice_get, slice_index_or, Some, refl, sym, ap, subst, ◌∙◌, arith, ⊎_elim}
use Rattle.std.proofs.lemmas.Bool.{cases_lt}
use Rattle.std.proofs.lemmas.Option.{none-some, same_Some}
use Rattle.std.specs.List.{AllByRecursion, range_with_len}
use Rattle.ms_logic.specs.FiniteSet.{numbers_below}

-- the item at a place is in front of what is left there
pub drop-item : {X : Type 0} (xs : List X) (i : ℕ) (x : X) → i < length xs → x ≡ slice_index_or xs i x → drop i xs ≡ x ∷ drop (i + 1) xs
drop-item xs i x within is =
    let up : suc i ≡ i + 1 = omega arith in
    drop-cons xs i x within ∙ ap (λ y. y ∷ drop (suc i) xs) (sym is) ∙ ap (λ (n : ℕ). x ∷ drop n xs) up

pub drop-past : {X : Type 0} (xs : List X) (i : ℕ) → length xs ≤ i → drop i xs ≡ []
drop-past [] zero past = refl
drop-past [] (suc i) past = refl
drop-past (x ∷ xs) zero past = absurd (omega arith)
drop-past (x ∷ xs) (suc i) past = drop-past xs i (omega arith)

pub get-item : {X : Type 0} (xs : List X) (i : ℕ) (x : X) → i < length xs → x ≡ slice_index_or xs i x → slice_get xs i ≡ Some x
get-item [] i x within is = absurd (omega arith)
get-item (y ∷ xs) zero x within is = ap Some (sym is)
get-item (y ∷ xs) (suc i) x within is = get-item xs i x (omega arith) is

-- what holds of each item holds of the one at a place
pub all-item : {X : Type 0} (P : X → Type 0) (xs : List X) (i : ℕ) (x : X) → i < length xs → x ≡ slice_index_or xs i x → AllByRecursion P xs → P x
all-item P [] i x within is all = absurd (omega arith)
all-item P (y ∷ xs) zero x within is all = subst P (sym is) all.0
all-item P (y ∷ xs) (suc i) x within is all = all-item P xs i x (omega arith) is all.1

-- one number more
range-more : (a n : ℕ) → range_with_len a (suc n) ≡ range_with_len a n ++ (a + n) ∷ []
range-more a zero = let same : a ≡ a + 0 = omega arith in ap (λ (k : ℕ). k ∷ []) same
range-more a (suc n) =
    let same : a + 1 + n ≡ a + suc n = omega arith in
    ap (λ (xs : List ℕ). a ∷ xs) (range-more (a + 1) n) ∙ ap (λ (k : ℕ). a ∷ (range_with_len (a + 1) n ++ k ∷ [])) same

pub numbers-more : (n : ℕ) → numbers_below (n + 1) ≡ numbers_below n ++ n ∷ []
numbers-more n =
    let up : n + 1 ≡ suc n = omega arith in
    let same : 0 + n ≡ n = omega arith in
    ap numbers_below up ∙ range-more 0 n ∙ ap (λ (k : ℕ). numbers_below n ++ k ∷ []) same

-- what holds of the items so far, and of one more
pub held-more : {X : Type 0} (P : X → Type 0) (xs : List X) (i : ℕ) (x : X) → i < length xs → x ≡ slice_index_or xs i x → ((k : ℕ) (y : X) → k < i → slice_get xs k ≡ Some y → P y) → P x
    → (k : ℕ) (y : X) → k < i + 1 → slice_get xs k ≡ Some y → P y
held-more P xs i x within is so_far own k y less held = ⊎_elim
    (λ before. so_far k y before held)
    (λ past.
    let here : k ≡ i = omega arith in
    subst P (same_Some x y (sym (get-item xs i x within is) ∙ ap (slice_get xs) (sym here) ∙ held)) own)
    (cases_lt k i)

-- what holds of all items holds of each
pub all-held : {X : Type 0} (P : X → Type 0) (xs : List X) → AllByRecursion P xs → (i : ℕ) (x : X) → slice_get xs i ≡ Some x → P x
all-held P [] all i x held = absurd (none-some x held)
all-held P (y ∷ xs) all zero x held = subst P (same_Some y x held) all.0
all-held P (y ∷ xs) all (suc i) x held = all-held P xs all.1 i x held
