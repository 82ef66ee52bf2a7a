-- The item at a place of a list that grows at its end, or in which one item is written anew.
use Rattle.std.proofs.Common.{◌≡◌, ◌≢◌, ℕ, zero, suc, ◌<◌, ◌⊎◌, List, [], ◌∷◌, ◌++◌, length, set, slice_get, Some, refl, ap, inl, inr, ⊎_elim, arith}
use Rattle.std.proofs.lemmas.Option.{slice_get_within, same_Some, none-some}

module _ {X : Type 0} where
  -- a place of the front part keeps its item
  pub slice_get-append_left : (xs ys : List X) (i : ℕ) → i < length xs → slice_get (xs ++ ys) i ≡ slice_get xs i
  slice_get-append_left [] ys i within = absurd (omega arith)
  slice_get-append_left (x ∷ xs) ys zero within = refl
  slice_get-append_left (x ∷ xs) ys (suc i) within = slice_get-append_left xs ys i (omega arith)

  -- an item that was there stays
  pub slice_get-append_some : (xs ys : List X) (i : ℕ) (x : X) → slice_get xs i ≡ Some x → slice_get (xs ++ ys) i ≡ Some x
  slice_get-append_some xs ys i x there =
      let within : i < length xs = slice_get_within xs i x there in
      rw slice_get-append_left there

  -- the item behind the list
  pub slice_get-push : (xs : List X) (x : X) → slice_get (xs ++ x ∷ []) (length xs) ≡ Some x
  slice_get-push [] x = refl
  slice_get-push (y ∷ xs) x = slice_get-push xs x

  -- a place within the list has an item
  pub slice_get-held : (xs : List X) (i : ℕ) → i < length xs → (x : X) × (slice_get xs i ≡ Some x)
  slice_get-held [] i within = absurd (omega arith)
  slice_get-held (x ∷ xs) zero within = (x, refl)
  slice_get-held (x ∷ xs) (suc i) within = slice_get-held xs i (omega arith)

  -- an item of the longer list was there, or is the one behind
  pub slice_get-pushed : (xs : List X) (x : X) (i : ℕ) (y : X) → slice_get (xs ++ x ∷ []) i ≡ Some y → (slice_get xs i ≡ Some y) ⊎ ((i ≡ length xs) × (x ≡ y))
  slice_get-pushed [] x zero y there = inr (refl, same_Some x y there)
  slice_get-pushed [] x (suc i) y there = absurd (none-some y there)
  slice_get-pushed (z ∷ xs) x zero y there = inl there
  slice_get-pushed (z ∷ xs) x (suc i) y there = ⊎_elim inl (λ last. inr (ap suc last.0, last.1)) (slice_get-pushed xs x i y there)

  -- a place that is written has the new item
  pub slice_get-set_same : (xs : List X) (i : ℕ) (x : X) → i < length xs → slice_get (set xs i x) i ≡ Some x
  slice_get-set_same [] i x within = absurd (omega arith)
  slice_get-set_same (y ∷ xs) zero x within = refl
  slice_get-set_same (y ∷ xs) (suc i) x within = slice_get-set_same xs i x (omega arith)

  -- and each other place keeps its own
  pub slice_get-set_other : (xs : List X) (i j : ℕ) (x : X) → j ≢ i → slice_get (set xs i x) j ≡ slice_get xs j
  slice_get-set_other [] i j x differ = refl
  slice_get-set_other (y ∷ xs) zero zero x differ = absurd (differ refl)
  slice_get-set_other (y ∷ xs) zero (suc j) x differ = refl
  slice_get-set_other (y ∷ xs) (suc i) zero x differ = refl
  slice_get-set_other (y ∷ xs) (suc i) (suc j) x differ = slice_get-set_other xs i j x (λ same. differ (ap suc same))
