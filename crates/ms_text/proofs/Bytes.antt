-- Lists of bytes that are cut in two.
use Rattle.std.proofs.Common.{◌≡◌, ℕ, suc, ◌+◌, ◌≤◌, Bool, true, false, cond, ◌&&◌, List, [], ◌∷◌, ◌++◌, length, take, drop, sym, refl, ◌∙◌, subst, arith}
use Rattle.std.proofs.lemmas.Bool.{false≢true}
use Rattle.std.specs.List.{list_all, prefix_len}

-- a run of bytes that pass the test ends here: nothing follows, or a byte that does not pass
abbrev pub Stops : (ℕ → Bool) → List ℕ → Type 0
Stops p [] = Unit {0}
Stops p (b ∷ bs) = p b ≡ false

pub and_both : (a b : Bool) → (a && b) ≡ true → (a ≡ true) × (b ≡ true)
and_both true b e = (refl, e)
and_both false b e = absurd (false≢true e)

-- a list is cut in one way into a run and what stops it
pub one_run : (p : ℕ → Bool) (xs ys : List ℕ) (after behind : List ℕ) → list_all p xs ≡ true → list_all p ys ≡ true → Stops p after → Stops p behind → xs ++ after ≡ ys ++ behind → (xs ≡ ys) × (after ≡ behind)
one_run p [] [] after behind px py sx sy e = (refl, e)
one_run p [] (y ∷ ys) after behind px py sx sy e =
    absurd (false≢true (sym (subst (Stops p) e sx) ∙ (and_both (p y) (list_all p ys) py).0))
one_run p (x ∷ xs) [] after behind px py sx sy e =
    absurd (false≢true (sym (subst (Stops p) (sym e) sy) ∙ (and_both (p x) (list_all p xs) px).0))
one_run p (x ∷ xs) (y ∷ ys) after behind px py sx sy e =
    let head : x ≡ y = cc in
    let tail : xs ++ after ≡ ys ++ behind = cc in
    let rest = one_run p xs ys after behind (and_both (p x) (list_all p xs) px).1 (and_both (p y) (list_all p ys) py).1 sx sy tail in
    ((λ i. head i ∷ rest.0 i), rest.1)

-- no front that passes is longer than a run that is stopped
pub longest_run : (p : ℕ → Bool) (front more run behind : List ℕ) → list_all p front ≡ true → Stops p behind → front ++ more ≡ run ++ behind → length front ≤ length run
longest_run p [] more run behind passes stops e = omega arith
longest_run p (x ∷ xs) more [] behind passes stops e =
    absurd (false≢true (sym (subst (Stops p) (sym e) stops) ∙ (and_both (p x) (list_all p xs) passes).0))
longest_run p (x ∷ xs) more (y ∷ ys) behind passes stops e =
    let tail : xs ++ more ≡ ys ++ behind = cc in
    omega (arith, longest_run p xs more ys behind (and_both (p x) (list_all p xs) passes).1 stops tail)

prefix_passes_more : (p : ℕ → Bool) (x n : ℕ) (xs : List ℕ) (v : Bool) → p x ≡ v → list_all p (take n xs) ≡ true → list_all p (take (cond v (1 + n) 0) (x ∷ xs)) ≡ true
prefix_passes_more p x n xs true px h = let one : 1 + n ≡ suc n = omega arith in rw (one, px) h
prefix_passes_more p x n xs false px h = refl

-- the longest front that passes passes
pub prefix_passes : (p : ℕ → Bool) (xs : List ℕ) → list_all p (take (prefix_len p xs) xs) ≡ true
prefix_passes p [] = refl
prefix_passes p (x ∷ xs) = prefix_passes_more p x (prefix_len p xs) xs (p x) refl (prefix_passes p xs)

prefix_stops_more : (p : ℕ → Bool) (x n : ℕ) (xs : List ℕ) (v : Bool) → p x ≡ v → Stops p (drop n xs) → Stops p (drop (cond v (1 + n) 0) (x ∷ xs))
prefix_stops_more p x n xs true px h = let one : 1 + n ≡ suc n = omega arith in rw one h
prefix_stops_more p x n xs false px h = px

-- what stands behind it stops it
pub prefix_stops : (p : ℕ → Bool) (xs : List ℕ) → Stops p (drop (prefix_len p xs) xs)
prefix_stops p [] = tt
prefix_stops p (x ∷ xs) = prefix_stops_more p x (prefix_len p xs) xs (p x) refl (prefix_stops p xs)

-- two fronts of one length are one
pub same_front : (xs ys after behind : List ℕ) → length xs ≡ length ys → xs ++ after ≡ ys ++ behind → (xs ≡ ys) × (after ≡ behind)
same_front [] [] after behind h e = (refl, e)
same_front [] (y ∷ ys) after behind h e = absurd (omega arith)
same_front (x ∷ xs) [] after behind h e = absurd (omega arith)
same_front (x ∷ xs) (y ∷ ys) after behind h e =
    let head : x ≡ y = cc in
    let tail : xs ++ after ≡ ys ++ behind = cc in
    let rest = same_front xs ys after behind (omega arith) tail in
    ((λ i. head i ∷ rest.0 i), rest.1)

-- of two fronts of one list the longer goes on where the shorter ends
pub goes_on : (xs ys after behind : List ℕ) → length xs ≤ length ys → xs ++ after ≡ ys ++ behind → (more : List ℕ) × (ys ≡ xs ++ more) × (after ≡ more ++ behind)
goes_on [] ys after behind h e = (ys, refl, e)
goes_on (x ∷ xs) [] after behind h e = absurd (omega arith)
goes_on (x ∷ xs) (y ∷ ys) after behind h e =
    let head : y ≡ x = cc in
    let tail : xs ++ after ≡ ys ++ behind = cc in
    let rest = goes_on xs ys after behind (omega arith) tail in
    (rest.0, (λ i. head i ∷ rest.1 i), rest.2)
