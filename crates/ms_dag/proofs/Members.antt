-- Members of lists.
use Rattle.std.proofs.Common.{ℕ, zero, suc, ◌<◌, List, [], ◌∷◌, ◌++◌, length, get_or, All, Contains, arith}
use Rattle.std.proofs.lemmas.List.Elements.{All-contains, Contains-get_or, Contains-append_left, Contains-append_right}
use Rattle.ms_dag.specs.declared.node.Child.{Child}
use Rattle.ms_dag.specs.Dag.{places_in_maps}

module _ {X : Type 0} (P : X → Type 0) where
  -- a fact of each member
  pub All-by : (xs : List X) → ((x : X) → Contains xs x → P x) → All P xs
  All-by xs each k d below = each (get_or xs k d) (Contains-get_or xs k d below)

  pub All-front : (xs ys : List X) → All P (xs ++ ys) → All P xs
  All-front xs ys all = All-by xs (λ x there. All-contains P (xs ++ ys) x all (Contains-append_left xs ys x there))

  pub All-back : (xs ys : List X) → All P (xs ++ ys) → All P ys
  All-back xs ys all = All-by ys (λ x there. All-contains P (xs ++ ys) x all (Contains-append_right xs ys x there))

-- a fact of each variable in the maps holds of those in one map
pub All-map_of : (P : ℕ → Type 0) (children : List Child) (i : ℕ) (d : Child) → i < length children → All P (places_in_maps children) → All P (get_or children i d).map
All-map_of P [] i d below all = absurd (omega arith)
All-map_of P (c ∷ cs) zero d below all = All-front P c.map (places_in_maps cs) all
All-map_of P (c ∷ cs) (suc i) d below all = All-map_of P cs i d (omega arith) (All-back P c.map (places_in_maps cs) all)
