-- Variables with rising numbers are distinct.
use Rattle.std.proofs.Common.{◌≡◌, ℕ, zero, suc, ◌<◌, List, [], ◌∷◌, slice_get, Some, refl, ap, subst, arith}
use Rattle.std.proofs.lemmas.Option.{none-some, same_Some}
use Rattle.ms_logic.specs.Assignment.{Variable}
use Rattle.ms_logic.specs.Lists.{AreRising}
use Rattle.ms_logic_starts.specs.ContentStarts.{HaveDistinctNumbers}

-- each variable behind the first has a greater number
below_later : (w : Variable) (vs : List Variable) → AreRising (w ∷ vs) → (place : ℕ) (v : Variable) → slice_get vs place ≡ Some v → w.name < v.name
below_later w [] rising place v there = absurd (none-some v there)
below_later w (u ∷ vs) rising zero v there = subst (λ (x : Variable). w.name < x.name) (same_Some u v there) rising.0
below_later w (u ∷ vs) rising (suc place) v there =
    let first : w.name < u.name = rising.0 in
    let later = below_later u vs rising.1 place v there in
    omega (arith, first, later)

pub rising_distinct : (variables : List Variable) → AreRising variables → HaveDistinctNumbers variables
rising_distinct [] rising one two v w first second same = absurd (none-some v first)
rising_distinct (u ∷ vs) rising zero zero v w first second same = refl
rising_distinct (u ∷ vs) rising zero (suc two) v w first second same =
    let own = ap (λ (x : Variable). x.name) (same_Some u v first) in
    let later = below_later u vs rising two w second in
    absurd (omega (arith, own, later, same))
rising_distinct (u ∷ vs) rising (suc one) zero v w first second same =
    let own = ap (λ (x : Variable). x.name) (same_Some u w second) in
    let later = below_later u vs rising one v first in
    absurd (omega (arith, own, later, same))
rising_distinct (u ∷ vs) rising (suc one) (suc two) v w first second same =
    let equal = rising_distinct vs rising.1 one two v w first second same in omega (arith, equal)
