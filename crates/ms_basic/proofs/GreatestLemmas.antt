-- The machine of x = max S decides it.
use Rattle.std.proofs.Common.{◌≡◌, ◌≢◌, ℕ, zero, suc, ◌<◌, ◌≤◌, ◌⊎◌, inl, inr, ⊎_elim, Bool, true, false, List, [], ◌∷◌, refl, sym, subst, ◌∙◌, arith}
use Rattle.std.proofs.lemmas.Bool.{cases_lt, false≢true}
use Rattle.ms_logic_core.specs.declared.core_formula.Basic.TheVariants.{Max}
use Rattle.ms_logic.specs.declared.mode.Mode.{Mode}
use Rattle.ms_logic.specs.FiniteSet.{IsRising, is_member, greatest}
use Rattle.ms_logic.specs.Letters.{bound_of_set}
use Rattle.ms_logic.proofs.Members.{member_below_bound}
use Rattle.ms_logic.proofs.SetLaws.{greatest_law}
use Rattle.ms_basic.specs.inner.Greatest.{greatest_step, greatest_table}
use Rattle.ms_logic_core.specs.Operands.{variables_of_basic}
use Rattle.ms_basic.specs.inner.Relation.{DecidesRelation, IsRight}
use Rattle.ms_basic.specs.inner.Tally.{IsTally}
use Rattle.ms_basic.specs.Verdict.{sign_by_verdict}
use Rattle.ms_basic.proofs.BitLemmas.{Tells, told}
use Rattle.ms_basic.proofs.ReadingLemmas.{kept}
use Rattle.ms_basic.proofs.SetLemmas.{other_than, at_number, first_is_member}
use Rattle.ms_basic.proofs.VerdictLemmas.{IsCounted, count_met, tally_by_verdict}

-- no member is behind a number and below another
abbrev NoneBetween : List ℕ → ℕ → ℕ → Type 0
NoneBetween members x position = (k : ℕ) → x < k → k < position → is_member k members ≡ false

none_more : (members : List ℕ) (x position : ℕ) → NoneBetween members x position → is_member position members ≡ false → NoneBetween members x (suc position)
none_more members x position none here k above below =
    ⊎_elim (λ less. none k above less) (λ at_least. (let same : position ≡ k = omega (arith, at_least, below) in subst (λ n. is_member n members ≡ false) same here)) (cases_lt k position)

-- a member, or 0, that none is behind is the greatest
greatest_if : (members : List ℕ) (x count : ℕ) → IsRising members → bound_of_set members ≤ count → (is_member x members ≡ true) ⊎ (x ≡ 0) → NoneBetween members x count
    → x ≡ greatest members
greatest_if [] x count rising bound (inl member) none = let never : ⊥ = cc in absurd never
greatest_if [] x count rising bound (inr is) none = is
greatest_if (first ∷ more) x count rising bound either none =
    let members = first ∷ more in
    let law = greatest_law first (first ∷ more) rising (first_is_member first more) in
    let below = member_below_bound (first ∷ more) (greatest (first ∷ more)) law.0 in
    let no_greater : greatest (first ∷ more) ≤ x = ⊎_elim
    (λ less. absurd (false≢true (sym (none (greatest (first ∷ more)) less (omega (arith, below, bound))) ∙ law.0))) (λ at_least. at_least) (cases_lt x (greatest (first ∷ more))) in
    ⊎_elim (λ member. (let own = greatest_law x (first ∷ more) rising member in omega (arith, own.1, no_greater))) (λ is. omega (arith, is, no_greater)) either

-- a number below a member is not the greatest
below_greatest : (members : List ℕ) (x k : ℕ) → IsRising members → is_member k members ≡ true → x < k → x ≢ greatest members
below_greatest members x k rising member less = let law = greatest_law k members rising member in omega (arith, law.1, less)

other_greatest : (members : List ℕ) (x : ℕ) → IsRising members → is_member x members ≡ false → 0 < x → x ≢ greatest members
other_greatest = other_than greatest refl (λ x members rising member. (greatest_law x members rising member).0)

-- what a state says behind the positions so far
abbrev GreatestAt : ℕ → List ℕ → ℕ → ℕ → Type 0
GreatestAt x members position zero = ⊥
GreatestAt x members position (suc zero) = (x < position) × ((is_member x members ≡ true) ⊎ (x ≡ 0)) × NoneBetween members x position
GreatestAt x members position (suc (suc zero)) = (x < position) × (x ≢ greatest members)
GreatestAt x members position (suc (suc (suc zero))) = position ≡ 0
GreatestAt x members position (suc (suc (suc (suc more)))) = (0 < position) × (position ≤ x)

module _ (x : ℕ) (members : List ℕ) (rising : IsRising members) (position : ℕ) where
  none_yet : x ≡ position → NoneBetween members x (suc position)
  none_yet same k above below = absurd (omega (arith, same, above, below))

  greatest_next : (state : ℕ) (a b : Bool) → Tells a x position → is_member position members ≡ b → GreatestAt x members position state
      → GreatestAt x members (suc position) (greatest_step state a b)
  greatest_next zero a b first second at = absurd at
  greatest_next (suc zero) true b first second at = (let never : ⊥ = omega (arith, at.0, first) in absurd never)
  greatest_next (suc zero) false true first second at = (omega (arith, at.0), below_greatest members x position rising second at.0)
  greatest_next (suc zero) false false first second at = (omega (arith, at.0), at.1, none_more members x position at.2 second)
  greatest_next (suc (suc zero)) true b first second at = absurd (omega arith)
  greatest_next (suc (suc zero)) false b first second at = (omega arith, at.1)
  greatest_next (suc (suc (suc zero))) true b first second at = (omega (arith, first), inr (omega (arith, first, at)), none_yet first)
  greatest_next (suc (suc (suc zero))) false b first second at = (omega arith, omega (arith, first, at))
  greatest_next (suc (suc (suc (suc more)))) true true first second at = (omega (arith, first), inl (at_number x position members true first second), none_yet first)
  greatest_next (suc (suc (suc (suc more)))) true false first second at =
      (omega (arith, first), other_greatest members x rising (at_number x position members false first second) (omega (arith, first, at.0)))
  greatest_next (suc (suc (suc (suc more)))) false b first second at = (omega arith, omega (arith, first, at.1))

greatest_right : (x : ℕ) (members : List ℕ) (count state : ℕ) → IsRising members → GreatestAt x members count state → x < count → bound_of_set members ≤ count
    → IsRight (x ≡ greatest members) (sign_by_verdict state)
greatest_right x members count zero rising at within bound = at
greatest_right x members count (suc zero) rising at within bound = greatest_if members x count rising bound at.1 at.2
greatest_right x members count (suc (suc zero)) rising at within bound = at.1
greatest_right x members count (suc (suc (suc zero))) rising at within bound = omega (arith, at, within)
greatest_right x members count (suc (suc (suc (suc more)))) rising at within bound = omega (arith, at.1, within)

-- each step leads to one of the states, and counts the ones of the number
greatest_steps : (state : ℕ) (a b : Bool) → (greatest_step state a b < 5) × IsCounted count_met a state (greatest_step state a b)
greatest_steps zero a b = (grind arith, grind arith)
greatest_steps (suc zero) a b = (grind arith, grind arith)
greatest_steps (suc (suc zero)) a b = (grind arith, grind arith)
greatest_steps (suc (suc (suc zero))) a b = (grind arith, grind arith)
greatest_steps (suc (suc (suc (suc more)))) a b = (grind arith, grind arith)

greatest_tally : IsTally greatest_table 0 count_met
greatest_tally = tally_by_verdict greatest_table 0 count_met refl refl refl (λ bits. refl) (λ bits. refl) (λ state bits. (greatest_steps state bits.first bits.second).1)

pub decides_max : (mode : Mode) (x s : ℕ) → DecidesRelation mode (variables_of_basic (Max x s)) (Max x s) greatest_table
decides_max mode x s = record {
  closed = record { start = λ bits. omega arith; step = λ state bits small. (greatest_steps state bits.first bits.second).0 };
  tallies = ((count_met, greatest_tally), (tt, tt));
  right = λ e count assigned room string.
      greatest_right (e.number x) (e.set s) count _ assigned.values.1.0.0
      (kept greatest_table (variables_of_basic (Max x s)) e count (GreatestAt (e.number x) (e.set s)) refl
      (λ position state at. greatest_next (e.number x) (e.set s) assigned.values.1.0.0 position state _ _ (told (e.number x) position) refl at))
      (omega (arith, room)) (omega (arith, room));
}
