-- Variables matter to words and to runs by their orders alone.
use Rattle.std.proofs.Common.{◌≡◌, ℕ, zero, suc, ◌+◌, Bool, false, IsTrue, if◌then◌else◌, List, [], ◌∷◌, length, map, slice_get, Some, refl, sym, ap, subst, ◌∙◌}
use Rattle.std.specs.List.{AllByRecursion}
use Rattle.std.proofs.lemmas.Option.{none-some, same_Some}
use Rattle.ms_list.specs.declared.word.Word.{Word}
use Rattle.ms_dfa.specs.Automaton.{variables_of}
use Rattle.ms_dfa.specs.declared.track.Track.{Track}
use Rattle.ms_logic.specs.declared.mode.Order.{Order}
use Rattle.ms_logic.specs.Assignment.{Variable}
use Rattle.ms_logic_words.specs.Content.{AreLetters, HasValueAt, IsWordOver, count_of, head_bit, tail_bits, is_in_letters, is_truth_value, padded, variables_from, variables_by_place}

abbrev pub orders_of : List Variable → List Order
orders_of variables = map (λ v. v.order) variables

-- what the variables of some orders have
count_by : (Order → Bool) → List Order → ℕ
count_by has_value [] = 0
count_by has_value (order ∷ orders) = if has_value order then count_by has_value orders + 1 else count_by has_value orders

spread_by : (Order → Bool) → List Order → List Bool → List Bool
spread_by has_value [] values = []
spread_by has_value (order ∷ orders) values =
    if has_value order then head_bit values ∷ spread_by has_value orders (tail_bits values) else false ∷ spread_by has_value orders values

module _ (has_value : Order → Bool) where
  count_is : (vs : List Variable) → count_of has_value vs ≡ count_by has_value (orders_of vs)
  unfolding count_by
  count_is [] = refl
  count_is (v ∷ vs) = ap (λ n. if has_value v.order then n + 1 else n) (count_is vs)

  spread_is : (vs : List Variable) (values : List Bool) → padded has_value vs values ≡ spread_by has_value (orders_of vs) values
  unfolding spread_by
  spread_is [] values = refl
  spread_is (v ∷ vs) values =
      let one = spread_is vs (tail_bits values) in
      let other = spread_is vs values in
      λ i. if has_value v.order then head_bit values ∷ one i else false ∷ other i

  module _ (vs ws : List Variable) (same : orders_of vs ≡ orders_of ws) where
    pub count-same : count_of has_value vs ≡ count_of has_value ws
    count-same = count_is vs ∙ ap (count_by has_value) same ∙ sym (count_is ws)

    pub padded-same : (values : List Bool) → padded has_value vs values ≡ padded has_value ws values
    padded-same values = spread_is vs values ∙ ap (λ orders. spread_by has_value orders values) same ∙ sym (spread_is ws values)

-- the variable at a place, by its order
order_at : (vs : List Variable) (place : ℕ) (v : Variable) → slice_get vs place ≡ Some v → slice_get (orders_of vs) place ≡ Some v.order
order_at [] place v held = absurd (none-some v held)
order_at (w ∷ vs) zero v held = ap (λ (u : Variable). Some u.order) (same_Some w v held)
order_at (w ∷ vs) (suc place) v held = order_at vs place v held

variable_with : (ws : List Variable) (place : ℕ) (order : Order) → slice_get (orders_of ws) place ≡ Some order → (w : Variable) × (slice_get ws place ≡ Some w) × (w.order ≡ order)
variable_with [] place order held = absurd (none-some order held)
variable_with (w ∷ ws) zero order held = (w, refl, same_Some w.order order held)
variable_with (w ∷ ws) (suc place) order held = variable_with ws place order held

module _ (vs ws : List Variable) (same : orders_of vs ≡ orders_of ws) where
  pub has_value-same : (has_value : Order → Bool) (place : ℕ) → HasValueAt vs has_value place → HasValueAt ws has_value place
  has_value-same has_value place has =
      let found = variable_with ws place has.0.order (ap (λ orders. slice_get orders place) (sym same) ∙ order_at vs place has.0 has.1) in
      (found.0, found.1, subst (λ order. IsTrue (has_value order)) (sym found.2) has.2)

  pub letters-same : (letters : List (List Bool)) → AreLetters vs letters → AreLetters ws letters
  letters-same letters are = subst (λ count. AllByRecursion (λ (letter : List Bool). length letter ≡ count) letters) (count-same is_in_letters vs ws same) are

  pub over-same : (word : Word) → IsWordOver vs word → IsWordOver ws word
  over-same word over = record { truth = over.truth ∙ count-same is_truth_value vs ws same; letters = letters-same word.letters over.letters }

-- variables by their places have the orders that they were made of
orders-from : (place : ℕ) (orders : List Order) → orders_of (variables_from place orders) ≡ orders
orders-from place [] = refl
orders-from place (order ∷ orders) = ap (λ list. order ∷ list) (orders-from (place + 1) orders)

pub orders-by_place : (orders : List Order) → orders_of (variables_by_place orders) ≡ orders
orders-by_place orders = orders-from 0 orders

-- and the variables of tracks those of the tracks
pub orders-tracks : (tracks : List Track) → map (λ (track : Track). track.order) tracks ≡ orders_of (variables_of tracks)
orders-tracks [] = refl
orders-tracks (track ∷ tracks) = ap (λ orders. track.order ∷ orders) (orders-tracks tracks)
