-- The first numbers among some variables.
use Rattle.std.proofs.Common.{◌≡◌, ℕ, zero, suc, ◌+◌, ◌<◌, ◌≤◌, ◌⊎◌, inl, inr, ⊎_elim, Bool, true, false, if◌then◌else◌, List, [], ◌∷◌, length, map, refl, sym, ◌∙◌, arith}
use Rattle.ms_dfa_explore.proofs.TracksLemmas.{above-first, among-above}
use Rattle.ms_logic.specs.Assignment.{Variable}
use Rattle.ms_logic.specs.Lists.{AreRising, IsAmong, IsBelowFirst}
use Rattle.ms_logic.specs.declared.mode.Order.{Order}
use Rattle.ms_logic.specs.declared.mode.Order.TheVariants.{Zero, One, Two}
use Rattle.ms_logic_words.specs.Content.{count_of}

abbrev pub is_number : Order → Bool
is_number Zero = false
is_number One = true
is_number Two = false

number_is : (o : Order) → is_number o ≡ true → o ≡ One
number_is Zero is = let never : ⊥ = cc in absurd never
number_is One is = refl
number_is Two is = let never : ⊥ = cc in absurd never

abbrev pub first_numbers : ℕ → List Variable → List Variable
first_numbers zero ws = []
first_numbers (suc k) [] = []
first_numbers (suc k) (w ∷ ws) = if is_number w.order then w ∷ first_numbers k ws else first_numbers (suc k) ws

-- they are among these
pub among_all : (k : ℕ) (ws : List Variable) (v : Variable) → IsAmong (first_numbers k ws) v → IsAmong ws v
among_all zero ws v there = absurd there
among_all (suc k) [] v there = there
among_all (suc k) (w ∷ ws) v there = by (is_number w.order) (among_all k ws v) (among_all (suc k) ws v) there
  where
    by : (test : Bool) → (IsAmong (first_numbers k ws) v → IsAmong ws v) → (IsAmong (first_numbers (suc k) ws) v → IsAmong ws v)
        → IsAmong (if test then w ∷ first_numbers k ws else first_numbers (suc k) ws) v → (w ≡ v) ⊎ IsAmong ws v
    by true fewer others is = ⊎_elim (λ here. inl here) (λ later. inr (fewer later)) is
    by false fewer others is = inr (others is)

below_first : (n : ℕ) (xs : List Variable) → ((v : Variable) → IsAmong xs v → n < v.name) → IsBelowFirst n xs
below_first n [] all = tt
below_first n (x ∷ xs) all = all x (inl refl)

-- and rise as these do
pub numbers_rise : (k : ℕ) (ws : List Variable) → AreRising ws → AreRising (first_numbers k ws)
numbers_rise zero ws rising = tt
numbers_rise (suc k) [] rising = tt
numbers_rise (suc k) (w ∷ ws) rising = by (is_number w.order) (numbers_rise k ws rising.1) (numbers_rise (suc k) ws rising.1)
  where
    by : (test : Bool) → AreRising (first_numbers k ws) → AreRising (first_numbers (suc k) ws) → AreRising (if test then w ∷ first_numbers k ws else first_numbers (suc k) ws)
    by true one other = (below_first w.name (first_numbers k ws) (λ v there. among-above w ws v (above-first w ws rising) (among_all k ws v there)), one)
    by false one other = other

-- where these have enough, they have the orders of so many numbers
pub as_many_orders : (vs ws : List Variable) → ((v : Variable) → IsAmong vs v → v.order ≡ One) → length vs ≤ count_of is_number ws
    → map (λ (v : Variable). v.order) (first_numbers (length vs) ws) ≡ map (λ (v : Variable). v.order) vs
as_many_orders [] ws only enough = refl
as_many_orders (v ∷ vs) [] only enough = absurd (omega (arith, enough))
as_many_orders (v ∷ vs) (w ∷ ws) only enough =
    by (is_number w.order) refl (λ few. as_many_orders vs ws (λ u there. only u (inr there)) few) (λ few. as_many_orders (v ∷ vs) ws only few) enough
  where
    by : (test : Bool) → is_number w.order ≡ test
        → (length vs ≤ count_of is_number ws → map (λ (u : Variable). u.order) (first_numbers (length vs) ws) ≡ map (λ (u : Variable). u.order) vs)
        → (suc (length vs) ≤ count_of is_number ws → map (λ (u : Variable). u.order) (first_numbers (suc (length vs)) ws) ≡ v.order ∷ map (λ (u : Variable). u.order) vs)
        → suc (length vs) ≤ (if test then count_of is_number ws + 1 else count_of is_number ws)
        → map (λ (v : Variable). v.order) (if test then w ∷ first_numbers (length vs) ws else first_numbers (suc (length vs)) ws) ≡ v.order ∷ map (λ (v : Variable). v.order) vs
    by true is fewer others few =
        let first : w.order ≡ v.order = number_is w.order is ∙ sym (only v (inl refl)) in
        let more = fewer (omega (arith, few)) in
        λ i. first i ∷ more i
    by false is fewer others few = others few
