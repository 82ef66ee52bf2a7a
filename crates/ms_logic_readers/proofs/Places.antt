-- Variables that are numbered by their places have different numbers.
use Rattle.std.proofs.Common.{ℕ, ◌+◌, ◌≤◌, inl, inr, List, [], ◌∷◌, ap, arith}
use Rattle.ms_logic.specs.Assignment.{Variable}
use Rattle.ms_logic.specs.Lists.{IsAmong}
use Rattle.ms_logic.specs.declared.mode.Order.{Order}
use Rattle.ms_logic_readers.specs.Scoped.{AreDistinct}
use Rattle.ms_logic_words.specs.Content.{variables_from}

from_place : (place : ℕ) (orders : List Order) (v : Variable) → IsAmong (variables_from place orders) v → place ≤ v.name
from_place place [] v among = absurd among
from_place place (o ∷ orders) v (inl same) = let name = ap (λ (u : Variable). u.name) same in omega (arith, name)
from_place place (o ∷ orders) v (inr there) = let later = from_place (place + 1) orders v there in omega (arith, later)

pub by_place_distinct : (place : ℕ) (orders : List Order) → AreDistinct (variables_from place orders)
by_place_distinct place [] = tt
by_place_distinct place (o ∷ orders) =
    (λ v among same. (let later = from_place (place + 1) orders v among in omega (arith, later, same)), by_place_distinct (place + 1) orders)
