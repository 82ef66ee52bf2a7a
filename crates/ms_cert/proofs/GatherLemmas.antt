-- The bits of the variables, one after the other.
use Rattle.std.proofs.Common.{◌≡◌, ℕ, zero, suc, ◌+◌, Bool, true, false, if◌then◌else◌, List, [], ◌∷◌, ◌++◌, append_assoc, append-nil, drop, length, slice_get, Some, refl, sym, ap, ◌∙◌, arith}
use Rattle.std.proofs.lemmas.Option.{none-some, same_Some}
use Rattle.ms_arena.specs.Diagram.{Bits}
use Rattle.ms_dfa.specs.Narrow.{gathered}
use Rattle.ms_logic.specs.declared.mode.Order.{Order}
use Rattle.ms_logic_words.specs.Content.{variables_from}

drop-held : {X : Type 0} (xs : List X) (n : ℕ) (x : X) → slice_get xs n ≡ Some x → drop n xs ≡ x ∷ drop (n + 1) xs
drop-held [] n x held = absurd (none-some x held)
drop-held (y ∷ xs) zero x held = ap (λ first. first ∷ xs) (same_Some y x held)
drop-held (y ∷ xs) (suc n) x held = let up : suc n + 1 ≡ suc (n + 1) = omega arith in drop-held xs n x held ∙ ap (λ k. x ∷ drop k (y ∷ xs)) (sym up)

drop-past : {X : Type 0} (xs : List X) → drop (length xs) xs ≡ []
drop-past [] = refl
drop-past (x ∷ xs) = drop-past xs

module _ (has_value : Order → Bool) (orders : List Order) (bits : Bits) where
  -- the bits of the variables from a place on
  abbrev left : ℕ → List Bool
  left place = gathered has_value place (variables_from place (drop place orders)) bits

  left-next : (place : ℕ) (order : Order) → slice_get orders place ≡ Some order → left place ≡ (if has_value order then bits place ∷ left (place + 1) else left (place + 1))
  left-next place order held = ap (λ (list : List Order). gathered has_value place (variables_from place list) bits) (drop-held orders place order held)

  pub gather-one : (place : ℕ) (order : Order) (made all : List Bool) (bit : Bool) → slice_get orders place ≡ Some order → has_value order ≡ true → bit ≡ bits place → made ++ left place ≡ all → (made ++ bit ∷ []) ++ left (place + 1) ≡ all
  gather-one place order made all bit held is own so_far =
      append_assoc made (bit ∷ []) (left (place + 1))
      ∙ ap (λ (b : Bool). made ++ b ∷ left (place + 1)) own
      ∙ ap (λ (list : List Bool). made ++ list) (sym (left-next place order held ∙ ap (λ (b : Bool). if b then bits place ∷ left (place + 1) else left (place + 1)) is))
      ∙ so_far

  pub gather-none : (place : ℕ) (order : Order) (made all : List Bool) → slice_get orders place ≡ Some order → has_value order ≡ false → made ++ left place ≡ all → made ++ left (place + 1) ≡ all
  gather-none place order made all held is so_far =
      ap (λ (list : List Bool). made ++ list) (sym (left-next place order held ∙ ap (λ (b : Bool). if b then bits place ∷ left (place + 1) else left (place + 1)) is))
      ∙ so_far

  pub gather-all : (made all : List Bool) → made ++ left (length orders) ≡ all → made ≡ all
  gather-all made all so_far = sym (ap (λ (list : List Order). made ++ gathered has_value (length orders) (variables_from (length orders) list) bits) (drop-past orders) ∙ append-nil made) ∙ so_far
