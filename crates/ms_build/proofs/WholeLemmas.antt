-- Automata over all variables of a node.
use Rattle.std.proofs.Common.{◌≡◌, ℕ, ◌+◌, ◌<◌, inl, inr, ⊎_elim, List, [], ◌∷◌, Contains, length, refl, sym, ap, subst, ◌∙◌, arith}
use Rattle.std.proofs.lemmas.Option.{slice_get_within}
use Rattle.ms_dfa.specs.Automaton.{IsAutomaton}
use Rattle.ms_logic.specs.declared.mode.Mode.{Mode}
use Rattle.ms_logic.specs.declared.mode.Order.{Order}
use Rattle.ms_logic_words.specs.declared.sign.Sign.{Sign}
use Rattle.ms_logic.specs.Assignment.{Variable, IsAssignment}
use Rattle.ms_logic_words.specs.Content.{Content, variables_from, variables_by_place}
use Rattle.ms_logic.specs.Lists.{AreRising, IsBelowFirst, IsAmong}
use Rattle.ms_dfa.specs.Values.{HasValues, Meaning, own_meaning}
use Rattle.ms_build.specs.Built.{HasFirst, IsOver, IsPart}
use Rattle.ms_build.proofs.MeaningLemmas.{HasValues-to, own_means}
use Rattle.ms_build.proofs.PlaceLemmas.{IsAssignment-among, own-among}

-- all that stands behind the first is above it
pub rising_above : (u : Variable) (vs : List Variable) → AreRising (u ∷ vs) → (v : Variable) → IsAmong vs v → u.name < v.name
rising_above u [] rising v among = absurd among
rising_above u (w ∷ vs) rising v among = ⊎_elim
    (λ here. subst (λ (x : Variable). u.name < x.name) here rising.0)
    (λ there. let first = rising.0 in let later = rising_above w vs rising.1 v there in omega (arith, first, later))
    among

-- rising lists with the same variables are equal
pub rising_equal : (vs ws : List Variable) → AreRising vs → AreRising ws → ((x : Variable) → IsAmong vs x → IsAmong ws x) → ((x : Variable) → IsAmong ws x → IsAmong vs x) → vs ≡ ws
rising_equal [] [] rising_v rising_w to from = refl
rising_equal [] (w ∷ ws) rising_v rising_w to from = absurd (from w (inl refl))
rising_equal (v ∷ vs) [] rising_v rising_w to from = absurd (to v (inl refl))
rising_equal (v ∷ vs) (w ∷ ws) rising_v rising_w to from =
    let same : v ≡ w = ⊎_elim (λ here. sym here)
    (λ there. ⊎_elim (λ here. here)
    (λ also. let above = rising_above w ws rising_w v there in let below = rising_above v vs rising_v w also in absurd (omega (arith, above, below)))
    (from w (inl refl)))
    (to v (inl refl)) in
    ap (λ (x : Variable). x ∷ vs) same
    ∙ ap (λ (xs : List Variable). w ∷ xs) (rising_equal vs ws rising_v.1 rising_w.1
    (λ x among. ⊎_elim (λ here. let above = rising_above v vs rising_v x among in let name = ap (λ (y : Variable). y.name) (same ∙ here) in absurd (omega (arith, above, name))) (λ there. there)
    (to x (inr among)))
    (λ x among. ⊎_elim (λ here. let above = rising_above w ws rising_w x among in let name = ap (λ (y : Variable). y.name) (sym same ∙ here) in absurd (omega (arith, above, name))) (λ there. there)
    (from x (inr among))))

below_first : (base : ℕ) (orders : List Order) (name : ℕ) → name < base → IsBelowFirst name (variables_from base orders)
below_first base [] name less = tt
below_first base (o ∷ orders) name less = less

pub rising-by_place : (base : ℕ) (orders : List Order) → AreRising (variables_from base orders)
rising-by_place base [] = tt
rising-by_place base (o ∷ orders) = (below_first (base + 1) orders base (omega arith), rising-by_place (base + 1) orders)

-- a content over some variables of these orders that has all of them is over just these
pub all_by_place : (orders : List Order) (content : Content Sign) → IsAutomaton content → ((v : Variable) → IsAmong content.variables v → IsAmong (variables_by_place orders) v)
    → HasFirst orders (length orders) content.variables → content.variables ≡ variables_by_place orders
all_by_place orders content automaton among first =
    rising_equal content.variables (variables_by_place orders) automaton.rising (rising-by_place 0 orders) among (λ x is.
    let held = own-among orders x is in first x.name x.order (slice_get_within orders x.name x.order held) held)

pub IsOver-part : (mode : Mode) (orders : List Order) (covered : List ℕ) (meaning : Meaning) (content : Content Sign) → IsAutomaton content → IsPart mode orders covered meaning content
    → ((j : ℕ) → j < length orders → Contains covered j) → IsOver mode (variables_by_place orders) meaning content
IsOver-part mode orders covered meaning content automaton part all = record {
  mode_is = part.mode_is;
  variables_are = all_by_place orders content automaton part.among (λ j o less held. part.covers j o (all j less) held);
  values = part.values;
}

-- with one variable more, a content has the values that it had
pub HasValues-more : (meaning : Meaning) (content made : Content Sign) → IsAutomaton content → made.mode ≡ content.mode → ((v : Variable) → IsAmong content.variables v → IsAmong made.variables v)
    → HasValues meaning content → HasValues (own_meaning content) made → HasValues meaning made
HasValues-more meaning content made automaton mode_is among values own_values =
    HasValues-to (own_meaning content) meaning made
    (λ word e sign assigned encodes own.
    own_means meaning content automaton values e (IsAssignment-among content.mode content.variables made.variables e among (subst (λ m. IsAssignment m made.variables e) mode_is assigned)) sign own)
    own_values
