-- Variables that take the values of others, one for one.
use Rattle.std.specs.Prelude.{◌≡◌, List, [], ◌∷◌, map}
use Rattle.ms_logic.specs.Assignment.{Env, Variable, assign_all, value_at}

-- variables of one order side by side
abbrev pub HaveSameOrders : List Variable → List Variable → Type 0
HaveSameOrders [] [] = Unit {0}
HaveSameOrders [] (w ∷ ws) = ⊥
HaveSameOrders (v ∷ vs) [] = ⊥
HaveSameOrders (v ∷ vs) (w ∷ ws) = (v.order ≡ w.order) × HaveSameOrders vs ws

-- the values of the one list given to the other
abbrev pub moved : List Variable → List Variable → Env → Env
moved vs ws e = assign_all (map (λ w. w.name) ws) (map (λ v. value_at v.order v.name e) vs) e
