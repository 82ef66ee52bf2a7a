-- The shortest word of some variables depends on their values alone.
use Rattle.std.proofs.Common.{◌≡◌, ℕ, ◌+◌, ◌==◌, max, Bool, false, inl, inr, List, [], ◌∷◌, map, refl, ap, ◌∙◌}
use Rattle.ms_list.specs.declared.word.Word.{Word}
use Rattle.ms_logic.specs.Assignment.{AreValuesOf, Env, Universe, Variable, assign, value_at}
use Rattle.ms_logic.specs.FiniteSet.{is_member, numbers_below}
use Rattle.ms_logic.specs.First.{length_by}
use Rattle.ms_logic.specs.Letters.{bound_at, bound_of, bound_of_set, letter_at, truth_values_of, with_bit, with_truth_value}
use Rattle.ms_logic.specs.Lists.{IsAmong}
use Rattle.ms_logic.specs.declared.assignment.Value.{Value}
use Rattle.ms_logic.specs.declared.assignment.Value.TheVariants.{Truth, Number, Set}
use Rattle.ms_logic.specs.declared.mode.Order.{Order}
use Rattle.ms_logic.specs.declared.mode.Order.TheVariants.{Zero, One, Two}
use Rattle.ms_logic.proofs.Agreement.{universe-assign_all}
use Rattle.ms_logic.proofs.AssignedValues.{value_at-assign, value_at-assign_other}
use Rattle.ms_logic_readers.specs.Scoped.{AreDistinct}
use Rattle.ms_logic_words.specs.Content.{env_of, shortest_word}

abbrev pub values_in : List Variable → Env → List Value
values_in vs e = map (λ (v : Variable). value_at v.order v.name e) vs

-- the word of some values
abbrev truths : List Value → List Bool
truths [] = []
truths (Truth b ∷ values) = b ∷ truths values
truths (Number n ∷ values) = truths values
truths (Set members ∷ values) = truths values

abbrev letter : List Value → ℕ → List Bool
letter [] position = []
letter (Truth b ∷ values) position = letter values position
letter (Number n ∷ values) position = (n == position) ∷ letter values position
letter (Set members ∷ values) position = is_member position members ∷ letter values position

abbrev bound : List Value → ℕ
bound [] = 0
bound (Truth b ∷ values) = max 0 (bound values)
bound (Number n ∷ values) = max (n + 1) (bound values)
bound (Set members ∷ values) = max (bound_of_set members) (bound values)

abbrev pub word_by : Universe → List Value → Word
word_by universe values = record { truth = truths values; letters = map (letter values) (numbers_below (length_by universe (bound values))) }

truths_are : (vs : List Variable) (e : Env) → truth_values_of vs e ≡ truths (values_in vs e)
truths_are [] e = refl
truths_are (v ∷ vs) e = by_order v.order (truths_are vs e)
  where
    by_order : (o : Order) → truth_values_of vs e ≡ truths (values_in vs e) → with_truth_value o v.name e (truth_values_of vs e) ≡ truths (value_at o v.name e ∷ values_in vs e)
    by_order Zero more = ap (λ (bits : List Bool). e.truth v.name ∷ bits) more
    by_order One more = more
    by_order Two more = more

letter_is : (vs : List Variable) (e : Env) (position : ℕ) → letter_at vs e position ≡ letter (values_in vs e) position
letter_is [] e position = refl
letter_is (v ∷ vs) e position = by_order v.order (letter_is vs e position)
  where
    by_order : (o : Order) → letter_at vs e position ≡ letter (values_in vs e) position
        → with_bit o v.name position e (letter_at vs e position) ≡ letter (value_at o v.name e ∷ values_in vs e) position
    by_order Zero more = more
    by_order One more = ap (λ (bits : List Bool). (e.number v.name == position) ∷ bits) more
    by_order Two more = ap (λ (bits : List Bool). is_member position (e.set v.name) ∷ bits) more

bound_is : (vs : List Variable) (e : Env) → bound_of vs e ≡ bound (values_in vs e)
bound_is [] e = refl
bound_is (v ∷ vs) e = by_order v.order (bound_is vs e)
  where
    by_order : (o : Order) → bound_of vs e ≡ bound (values_in vs e) → max (bound_at o v.name e) (bound_of vs e) ≡ bound (value_at o v.name e ∷ values_in vs e)
    by_order Zero more = ap (max 0) more
    by_order One more = ap (max (e.number v.name + 1)) more
    by_order Two more = ap (max (bound_of_set (e.set v.name))) more

word_is : (vs : List Variable) (e : Env) → shortest_word vs e ≡ word_by e.universe (values_in vs e)
word_is vs e = λ i. record {
  truth = truths_are vs e i;
  letters = map (λ position. letter_is vs e position i) (numbers_below (length_by e.universe (bound_is vs e i)));
}

-- different variables have the values that they are given
later_keep : (x : ℕ) (value : Value) (e : Env) (vs : List Variable) → ((v : Variable) → IsAmong vs v → v.name ≡ x → ⊥) → values_in vs (assign x value e) ≡ values_in vs e
later_keep x value e [] new = refl
later_keep x value e (v ∷ vs) new =
    let first = value_at-assign_other v.order x value v.name e (new v (inl refl)) in
    let others = later_keep x value e vs (λ w among. new w (inr among)) in
    cc

given_values : (universe : Universe) (vs : List Variable) (values : List Value) → AreDistinct vs → AreValuesOf universe (map (λ (v : Variable). v.order) vs) values
    → values_in vs (env_of universe vs values) ≡ values
given_values universe [] [] distinct are = refl
given_values universe [] (value ∷ values) distinct are = absurd are
given_values universe (v ∷ vs) [] distinct are = absurd are
given_values universe (v ∷ vs) (value ∷ values) distinct are =
    let e = env_of universe vs values in
    let first = value_at-assign v.order v.name value e universe are.0 in
    let kept = later_keep v.name value e vs distinct.0 in
    let others = given_values universe vs values distinct.1 are.1 in
    cc

pub word_given : (universe : Universe) (vs : List Variable) (values : List Value) → AreDistinct vs → AreValuesOf universe (map (λ (v : Variable). v.order) vs) values
    → shortest_word vs (env_of universe vs values) ≡ word_by universe values
word_given universe vs values distinct are =
    let start : Env = record { universe = universe; truth = λ x. false; number = λ x. 0; set = λ x. [] } in
    word_is vs (env_of universe vs values)
    ∙ ap (λ u. word_by u (values_in vs (env_of universe vs values))) (universe-assign_all (map (λ (v : Variable). v.name) vs) values start)
    ∙ ap (word_by universe) (given_values universe vs values distinct are)
