-- Finite lists of all numbers below one, and of all lists of so many bits or of fewer.
use Rattle.std.proofs.Common.{◌≡◌, ℕ, zero, suc, ◌<◌, inl, inr, ⊎_elim, Bool, true, false, List, [], ◌∷◌, ◌++◌, length, map, refl, subst, arith}
use Rattle.std.proofs.lemmas.Bool.{cases_lt, cases_order}
use Rattle.ms_logic_machines.proofs.Choices.{Among, among-left, among-right, among-map}
use Rattle.ms_logic_machines.specs.Machine.{IsTested}

pub numbers-tested : IsTested ℕ
numbers-tested one other =
    ⊎_elim (λ same. inl same)
    (λ apart. inr (λ same. ⊎_elim (λ less. absurd (omega (arith, less, same))) (λ more. absurd (omega (arith, more, same))) apart))
    (cases_order one other)

-- the numbers below n
pub below : ℕ → List ℕ
below zero = []
below (suc n) = n ∷ below n

pub among-below : (n m : ℕ) → m < n → Among m (below n)
unfolding below
among-below zero m less = absurd (omega (arith, less))
among-below (suc n) m less = ⊎_elim (λ earlier. inr (among-below n m earlier)) (λ past. inl (omega (arith, less, past))) (cases_lt m n)

-- the lists of n bits
pub lists_of : ℕ → List (List Bool)
lists_of zero = [] ∷ []
lists_of (suc n) = map (λ bits. true ∷ bits) (lists_of n) ++ map (λ bits. false ∷ bits) (lists_of n)

all_listed : (bits : List Bool) → Among bits (lists_of (length bits))
unfolding lists_of
all_listed [] = inl refl
all_listed (true ∷ bits) =
    among-left (true ∷ bits) (map (λ more. true ∷ more) (lists_of (length bits))) (map (λ more. false ∷ more) (lists_of (length bits)))
    (among-map (λ (more : List Bool). true ∷ more) bits (lists_of (length bits)) (all_listed bits))
all_listed (false ∷ bits) =
    among-right (false ∷ bits) (map (λ more. true ∷ more) (lists_of (length bits))) (map (λ more. false ∷ more) (lists_of (length bits)))
    (among-map (λ (more : List Bool). false ∷ more) bits (lists_of (length bits)) (all_listed bits))

pub among-lists_of : (n : ℕ) (bits : List Bool) → length bits ≡ n → Among bits (lists_of n)
among-lists_of n bits long = subst (λ m. Among bits (lists_of m)) long (all_listed bits)

-- the lists of fewer than n bits
pub lists_below : ℕ → List (List Bool)
lists_below zero = []
lists_below (suc n) = lists_of n ++ lists_below n

pub among-lists_below : (n : ℕ) (bits : List Bool) → length bits < n → Among bits (lists_below n)
unfolding lists_below
among-lists_below zero bits short = absurd (omega (arith, short))
among-lists_below (suc n) bits short =
    ⊎_elim (λ shorter. among-right bits (lists_of n) (lists_below n) (among-lists_below n bits shorter))
    (λ past. among-left bits (lists_of n) (lists_below n) (among-lists_of n bits (omega (arith, short, past)))) (cases_lt (length bits) n)
