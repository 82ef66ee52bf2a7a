-- The operands of a relation, and the first of them.
use Rattle.std.proofs.Common.{◌≡◌, ℕ, zero, suc, ◌≤◌, ⊎_elim, inl, inr, List, [], ◌∷◌, length, take, refl, ap, ◌∙◌, arith}
use Rattle.std.proofs.lemmas.List.{length-map}
use Rattle.ms_logic_core.specs.declared.core_formula.Basic.{Basic}
use Rattle.ms_logic_core.specs.declared.core_formula.Basic.TheVariants.{Truth, Number, Plus, Less, Member, Sub, Union, Inter, Diff, Up, Down, Min, Max, Bits}
use Rattle.ms_logic.specs.Assignment.{Variable}
use Rattle.ms_dfa.specs.declared.track.Track.{Track}
use Rattle.ms_dfa.specs.Automaton.{variable_of, variables_of}
use Rattle.ms_dfa_explore.specs.Tracks.{distinct}
use Rattle.ms_logic.specs.Lists.{IsAmong}
use Rattle.ms_basic.specs.declared.reading.Wiring.{Wiring}
use Rattle.ms_basic.specs.Operands.{HaveOneOrder}
use Rattle.ms_logic_core.specs.Operands.{variables_of_basic}
use Rattle.ms_basic.specs.inner.Reading.{wiring_of}
use Rattle.ms_basic.proofs.DistinctLemmas.{length-distinct}

-- the first of a list are in the list
take-among : (count : ℕ) (vs : List Variable) (v : Variable) → IsAmong (take count vs) v → IsAmong vs v
take-among zero vs v among = absurd among
take-among (suc count) [] v among = among
take-among (suc count) (first ∷ vs) v among = ⊎_elim inl (λ there. inr (take-among count vs v there)) among

pub orders-take : (count : ℕ) (vs : List Variable) → HaveOneOrder vs → HaveOneOrder (take count vs)
orders-take count vs orders v w in_v in_w same = orders v w (take-among count vs v in_v) (take-among count vs w in_w) same

-- the variables of the first tracks
variables_of-take : (count : ℕ) (tracks : List Track) → variables_of (take count tracks) ≡ take count (variables_of tracks)
variables_of-take zero tracks = refl
variables_of-take (suc count) [] = refl
variables_of-take (suc count) (first ∷ tracks) = ap (λ vs. variable_of first ∷ vs) (variables_of-take count tracks)

-- a relation has three operands at most
few_operands : (form : Basic) → length (variables_of_basic form) ≤ 3
few_operands (Truth a) = omega arith
few_operands (Number x n) = omega arith
few_operands (Plus x y n) = omega arith
few_operands (Less x y) = omega arith
few_operands (Member x s) = omega arith
few_operands (Sub s t) = omega arith
few_operands (Union s t u) = omega arith
few_operands (Inter s t u) = omega arith
few_operands (Diff s t u) = omega arith
few_operands (Up s t n) = omega arith
few_operands (Down s t n) = omega arith
few_operands (Min x s) = omega arith
few_operands (Max x s) = omega arith
few_operands (Bits s n) = omega arith

length-take : (count : ℕ) (vs : List Variable) → length (take count vs) ≤ length vs
length-take zero vs = omega arith
length-take (suc count) [] = omega arith
length-take (suc count) (first ∷ vs) = let others = length-take count vs in omega (arith, others)

pub few_taken : (count : ℕ) (form : Basic) → length (take count (variables_of_basic form)) ≤ 3
few_taken count form = omega (arith, length-take count (variables_of_basic form), few_operands form)

module _ (count : ℕ) (form : Basic) (all operands : List Track) (are : variables_of all ≡ variables_of_basic form) (same : operands ≡ all) where
  -- the variables of the operands that are read
  pub taken : variables_of (take count operands) ≡ take count (variables_of_basic form)
  taken = ap (λ (ts : List Track). variables_of (take count ts)) same ∙ variables_of-take count all ∙ ap (take count) are

  -- and the tracks made of them
  module _ (tracks : List Track) (made : variables_of tracks ≡ distinct (variables_of (take count operands))) where
    pub tracks_are : variables_of tracks ≡ distinct (take count (variables_of_basic form))
    tracks_are = made ∙ ap distinct taken

    pub few_tracks : length tracks ≤ 3
    few_tracks = omega (arith, length-map tracks variable_of, ap length tracks_are, length-distinct (take count (variables_of_basic form)), few_taken count form)

    pub wires : (wiring : Wiring) (lent : List Track) → lent ≡ tracks → wiring ≡ wiring_of (variables_of (take count operands)) (variables_of lent)
        → wiring ≡ wiring_of (take count (variables_of_basic form)) (distinct (take count (variables_of_basic form)))
    wires wiring lent is made_wiring =
        made_wiring
        ∙ ap (λ vs. wiring_of vs (variables_of lent)) taken
        ∙ ap (λ (ts : List Track). wiring_of (take count (variables_of_basic form)) (variables_of ts)) is
        ∙ ap (wiring_of (take count (variables_of_basic form))) tracks_are
