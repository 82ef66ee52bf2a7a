-- The machine of x = min S decides it.
use Rattle.std.proofs.Common.{◌≡◌, ◌≢◌, ℕ, zero, suc, ◌<◌, ◌≤◌, ⊎_elim, Bool, true, false, List, refl, sym, ap, subst, ◌∙◌, arith}
use Rattle.std.proofs.lemmas.Bool.{cases_lt, false≢true}
use Rattle.ms_logic_core.specs.declared.core_formula.Basic.TheVariants.{Min}
use Rattle.ms_logic.specs.declared.mode.Mode.{Mode}
use Rattle.ms_logic_words.specs.declared.sign.Sign.TheVariants.{Outside}
use Rattle.ms_logic.specs.FiniteSet.{IsRising, is_member, least}
use Rattle.ms_logic.specs.Letters.{bound_of_set}
use Rattle.ms_logic.proofs.SetLaws.{least_law}
use Rattle.ms_basic.specs.inner.Least.{least_sign, least_step, least_table}
use Rattle.ms_logic_core.specs.Operands.{variables_of_basic}
use Rattle.ms_basic.specs.inner.Relation.{DecidesRelation, IsRight}
use Rattle.ms_basic.specs.inner.Tally.{IsTally}
use Rattle.ms_basic.proofs.BitLemmas.{Tells, told}
use Rattle.ms_basic.proofs.ReadingLemmas.{kept}
use Rattle.ms_basic.proofs.VerdictLemmas.{IsCounted}
use Rattle.ms_basic.proofs.SetLemmas.{other_than, at_number, NoneBelow, no_members, one_more_none}

-- a member that none is below is the least
least_if : (members : List ℕ) (x : ℕ) → IsRising members → is_member x members ≡ true → NoneBelow members x → x ≡ least members
least_if members x rising member none =
    let law = least_law x members rising member in
    ⊎_elim (λ less. absurd (false≢true (sym (none (least members) less) ∙ law.0))) (λ at_least. omega (arith, at_least, law.1)) (cases_lt (least members) x)

-- a number above a member is not the least
above_least : (members : List ℕ) (x k : ℕ) → IsRising members → is_member k members ≡ true → k < x → x ≢ least members
above_least members x k rising member less = let law = least_law k members rising member in omega (arith, law.1, less)

other_least : (members : List ℕ) (x : ℕ) → IsRising members → is_member x members ≡ false → 0 < x → x ≢ least members
other_least = other_than least refl (λ x members rising member. (least_law x members rising member).0)

-- what a state says behind the positions so far
abbrev LeastAt : ℕ → List ℕ → ℕ → ℕ → Type 0
LeastAt x members position zero = ⊥
LeastAt x members position (suc zero) = (x < position) × (x ≡ least members)
LeastAt x members position (suc (suc zero)) = (x < position) × (x ≢ least members)
LeastAt x members position (suc (suc (suc zero))) = (x ≡ 0) × (0 < position) × NoneBelow members position
LeastAt x members position (suc (suc (suc (suc zero)))) = position ≡ 0
LeastAt x members position (suc (suc (suc (suc (suc zero))))) = (0 < position) × (position ≤ x) × NoneBelow members position
LeastAt x members position (suc (suc (suc (suc (suc (suc more)))))) = (position ≤ x) × ((k : ℕ) × (k < position) × (is_member k members ≡ true))

module _ (x : ℕ) (members : List ℕ) (rising : IsRising members) (position : ℕ) where
  none_there : x ≡ position → NoneBelow members position → NoneBelow members x
  none_there same none = subst (NoneBelow members) (sym same) none

  nothing_before : position ≡ 0 → NoneBelow members position
  nothing_before start = λ k below. absurd (omega (arith, start, below))

  least_next : (state : ℕ) (a b : Bool) → Tells a x position → is_member position members ≡ b → LeastAt x members position state → LeastAt x members (suc position) (least_step state a b)
  least_next zero a b first second at = absurd at
  least_next (suc zero) true b first second at = absurd (omega arith)
  least_next (suc zero) false b first second at = (omega arith, at.1)
  least_next (suc (suc zero)) true b first second at = absurd (omega arith)
  least_next (suc (suc zero)) false b first second at = (omega arith, at.1)
  least_next (suc (suc (suc zero))) true b first second at = (let never : ⊥ = omega (arith, at.0, at.1, first) in absurd never)
  least_next (suc (suc (suc zero))) false true first second at = (
    omega (arith, at.0),
    λ same. (let law = least_law position members rising second in
        false≢true (sym (at.2 (least members) (omega (arith, same, at.0, at.1))) ∙ law.0)),
  )
  least_next (suc (suc (suc zero))) false false first second at = (at.0, omega arith, one_more_none members position at.2 second)
  least_next (suc (suc (suc (suc zero)))) true true first second at =
      (omega (arith, first), least_if members x rising (at_number x position members true first second) (none_there first (nothing_before at)))
  least_next (suc (suc (suc (suc zero)))) true false first second at =
      (omega (arith, first, at), omega arith, one_more_none members position (nothing_before at) second)
  least_next (suc (suc (suc (suc zero)))) false true first second at = (omega (arith, first, at), (position, omega arith, second))
  least_next (suc (suc (suc (suc zero)))) false false first second at =
      (omega arith, omega (arith, first, at), one_more_none members position (nothing_before at) second)
  least_next (suc (suc (suc (suc (suc zero))))) true true first second at =
      (omega (arith, first), least_if members x rising (at_number x position members true first second) (none_there first at.2))
  least_next (suc (suc (suc (suc (suc zero))))) true false first second at =
      (omega (arith, first), other_least members x rising (at_number x position members false first second) (omega (arith, first, at.0)))
  least_next (suc (suc (suc (suc (suc zero))))) false true first second at = (omega (arith, first, at.1), (position, omega arith, second))
  least_next (suc (suc (suc (suc (suc zero))))) false false first second at =
      (omega arith, omega (arith, first, at.1), one_more_none members position at.2 second)
  least_next (suc (suc (suc (suc (suc (suc more)))))) true b first second at =
      (omega (arith, first), above_least members x at.1.0 rising at.1.2 (omega (arith, first, at.1.1)))
  least_next (suc (suc (suc (suc (suc (suc more)))))) false b first second at = (omega (arith, first, at.0), (at.1.0, omega (arith, at.1.1), at.1.2))

least_right : (x : ℕ) (members : List ℕ) (count state : ℕ) → LeastAt x members count state → x < count → bound_of_set members ≤ count → IsRight (x ≡ least members) (least_sign state)
least_right x members count zero at within bound = at
least_right x members count (suc zero) at within bound = at.1
least_right x members count (suc (suc zero)) at within bound = at.1
least_right x members count (suc (suc (suc zero))) at within bound = at.0 ∙ sym (ap least (no_members members count bound at.2))
least_right x members count (suc (suc (suc (suc zero)))) at within bound = omega (arith, at, within)
least_right x members count (suc (suc (suc (suc (suc zero))))) at within bound = omega (arith, at.1, within)
least_right x members count (suc (suc (suc (suc (suc (suc more)))))) at within bound = omega (arith, at.0, within)

-- how many ones the number has had
abbrev count_least : ℕ → ℕ
count_least zero = 0
count_least (suc zero) = 1
count_least (suc (suc zero)) = 1
count_least (suc (suc (suc zero))) = 1
count_least (suc (suc (suc (suc more)))) = 0

-- each step leads to one of the states, and counts the ones of the number
least_steps : (state : ℕ) (a b : Bool) → (least_step state a b < 7) × IsCounted count_least a state (least_step state a b)
least_steps zero a b = (grind arith, grind arith)
least_steps (suc zero) a b = (grind arith, grind arith)
least_steps (suc (suc zero)) a b = (grind arith, grind arith)
least_steps (suc (suc (suc zero))) a b = (grind arith, grind arith)
least_steps (suc (suc (suc (suc zero)))) a b = (grind arith, grind arith)
least_steps (suc (suc (suc (suc (suc zero))))) a b = (grind arith, grind arith)
least_steps (suc (suc (suc (suc (suc (suc more)))))) a b = (grind arith, grind arith)

least_signed : (state : ℕ) → least_sign state ≢ Outside → (state ≢ 0) × (count_least state ≡ 1)
least_signed zero inside = absurd (inside refl)
least_signed (suc zero) inside = (omega arith, refl)
least_signed (suc (suc zero)) inside = (omega arith, refl)
least_signed (suc (suc (suc zero))) inside = (omega arith, refl)
least_signed (suc (suc (suc (suc more)))) inside = absurd (inside refl)

least_tally : IsTally least_table 0 count_least
least_tally = record {
  start = λ bits. refl;
  lost = λ bits. refl;
  step = λ state bits. (least_steps state bits.first bits.second).1;
  sign = least_signed;
}

pub decides_min : (mode : Mode) (x s : ℕ) → DecidesRelation mode (variables_of_basic (Min x s)) (Min x s) least_table
decides_min mode x s = record {
  closed = record { start = λ bits. omega arith; step = λ state bits small. (least_steps state bits.first bits.second).0 };
  tallies = ((count_least, least_tally), (tt, tt));
  right = λ e count assigned room string.
      least_right (e.number x) (e.set s) count _
      (kept least_table (variables_of_basic (Min x s)) e count (LeastAt (e.number x) (e.set s)) refl
      (λ position state at. least_next (e.number x) (e.set s) assigned.values.1.0.0 position state _ _ (told (e.number x) position) refl at))
      (omega (arith, room)) (omega (arith, room));
}
