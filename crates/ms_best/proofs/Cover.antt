-- A list that has each number below n has at least n items.
use Rattle.std.proofs.Common.{◌≡◌, ◌≢◌, ℕ, zero, suc, ◌<◌, ◌≤◌, ◌==◌, Bool, true, false, not, cond, ◌||◌, List, [], ◌∷◌, length, refl, ◌∙◌, arith}
use Rattle.std.specs.List.{filter}
use Rattle.std.proofs.lemmas.Bool.{ne_eqb}
use Rattle.std.proofs.lemmas.List.Sums.{length-filter, count_by-le-length}
use Rattle.ms_logic.specs.FiniteSet.{is_member}
use Rattle.ms_logic.proofs.Members.{is_member-filter}

-- what is not m
abbrev others_than : ℕ → ℕ → Bool
others_than m n = not (n == m)

fewer_or_same : (m : ℕ) (xs : List ℕ) → length (filter (others_than m) xs) ≤ length xs
fewer_or_same m xs = omega (arith, length-filter (others_than m) xs, count_by-le-length (others_than m) xs)

-- without a member there are fewer items
fewer : (m : ℕ) (xs : List ℕ) → is_member m xs ≡ true → length (filter (others_than m) xs) < length xs
fewer m [] member = let never : ⊥ = cc in absurd never
fewer m (x ∷ xs) member =
    (elim (x == m) as (λ test. (test || is_member m xs) ≡ true → length (cond (not test) (x ∷ filter (others_than m) xs) (filter (others_than m) xs)) < length (x ∷ xs)) [
      | true ↦ λ _. omega (arith, fewer_or_same m xs)
      | false ↦ λ later. omega (arith, fewer m xs later)
    ]) member

pub covered : (n : ℕ) (xs : List ℕ) → ((j : ℕ) → j < n → is_member j xs ≡ true) → n ≤ length xs
covered zero xs all = omega arith
covered (suc m) xs all =
    let rest : m ≤ length (filter (others_than m) xs) =
    covered m (filter (others_than m) xs) (λ j below.
    let differ : j ≢ m = omega (arith, below) in
    is_member-filter j (others_than m) xs ∙ rw (all j (omega (arith, below)), ne_eqb j m differ) refl) in
    omega (arith, rest, fewer m xs (all m (omega arith)))
