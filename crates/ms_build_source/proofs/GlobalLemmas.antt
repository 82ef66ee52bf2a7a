-- The globals of a source as variables: by their places, with their orders.
use Rattle.std.proofs.Common.{◌≡◌, ℕ, suc, ◌+◌, List, [], ◌∷◌, length, map, refl, ap}
use Rattle.ms_logic.specs.declared.checked.Global.{Global}
use Rattle.ms_logic.specs.Assignment.{Variable}
use Rattle.ms_logic_words.specs.Content.{variables_from}
use Rattle.ms_logic.specs.Verdict.{variables_of}
use Rattle.ms_logic.specs.View.{globals_from}

-- the variables of globals go by their places
pub globals_by_place : (k : ℕ) (gs : List Global) → variables_of (globals_from k gs) ≡ variables_from k (map (λ g. g.order) gs)
globals_by_place k [] = refl
globals_by_place k (g ∷ gs) = ap (λ (vs : List Variable). record { name = k; order = g.order } ∷ vs) (globals_by_place (k + 1) gs)

pub orders_by_place : (k : ℕ) (gs : List Global) → map (λ v. v.order) (variables_of (globals_from k gs)) ≡ map (λ g. g.order) gs
orders_by_place k [] = refl
orders_by_place k (g ∷ gs) = ap (λ orders. g.order ∷ orders) (orders_by_place (k + 1) gs)

pub globals_counted : (k : ℕ) (gs : List Global) → length (map (λ g. g.name) gs) ≡ length (variables_of (globals_from k gs))
globals_counted k [] = refl
globals_counted k (g ∷ gs) = ap suc (globals_counted (k + 1) gs)
