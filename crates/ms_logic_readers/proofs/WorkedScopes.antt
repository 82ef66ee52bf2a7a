-- The examples of formulas over variables, worked by hand.
use Rattle.std.proofs.Common.{◌≡◌, ℕ, inl, inr, [], ◌∷◌, refl, ap, arith}
use Rattle.ms_logic.specs.Assignment.{Variable}
use Rattle.ms_logic.specs.Lists.{IsAmong}
use Rattle.ms_logic.specs.declared.mode.Order.{Order}
use Rattle.ms_logic.specs.declared.mode.Order.TheVariants.{One, Two}
use Rattle.ms_logic_core.specs.Operands.{variable}
use Rattle.ms_logic_readers.specs.Scoped.{AreDistinct}

abbrev number_of : Variable → ℕ
number_of v = v.name

abbrev order_of : Variable → Order
order_of v = v.order

pub set_0_and_1 : AreDistinct (variable 0 Two ∷ variable 1 Two ∷ [])
set_0_and_1 = (apart, (λ w among same. among, tt))
  where
    apart : (w : Variable) → IsAmong (variable 1 Two ∷ []) w → w.name ≡ 0 → ⊥
    apart w (inl is) same = let number = ap number_of is in omega (arith, number, same)
    apart w (inr none) same = none

pub not_twice : AreDistinct (variable 0 One ∷ variable 0 Two ∷ []) → ⊥
not_twice distinct = distinct.0 (variable 0 Two) (inl refl) refl

-- both sets are among the variables of the inclusion
pub as_they_are : (v : Variable) → IsAmong (variable 0 Two ∷ variable 1 Two ∷ []) v → IsAmong (variable 0 Two ∷ variable 1 Two ∷ []) v
as_they_are v among = among

pub turned_round : (v : Variable) → IsAmong (variable 0 Two ∷ variable 1 Two ∷ []) v → IsAmong (variable 1 Two ∷ variable 0 Two ∷ []) v
turned_round v (inl is) = inr (inl is)
turned_round v (inr (inl is)) = inl is
turned_round v (inr (inr none)) = absurd none

pub one_lacks : IsAmong (variable 0 Two ∷ []) (variable 1 Two) → ⊥
one_lacks (inl same) = let number = ap number_of same in omega (arith, number)
one_lacks (inr none) = none

not_one : One ≡ Two → ⊥
not_one same = cc

pub no_number : IsAmong (variable 0 One ∷ variable 1 Two ∷ []) (variable 0 Two) → ⊥
no_number (inl same) = not_one (ap order_of same)
no_number (inr (inl same)) = let number = ap number_of same in omega (arith, number)
no_number (inr (inr none)) = none
