-- Two lists of one length whose items are related place by place.
use Rattle.std.proofs.Common.{◌≡◌, ℕ, zero, suc, ◌+◌, ◌<◌, ◌≤◌, List, [], ◌∷◌, ◌++◌, length, take, slice_get, get_or, Some, refl, sym, ap, subst, ◌∙◌, arith}
use Rattle.std.specs.List.{flat_map}
use Rattle.std.proofs.Math.Seq.{take-suc}
use Rattle.std.proofs.lemmas.List.{same_lists, take_all}
use Rattle.std.proofs.lemmas.Option.{none-some, same_Some, get_or_from_slice_get}
use Rattle.ms_arena.proofs.Lists.{slice_get-held}
use Rattle.ms_minim_canonical.specs.inner.Renumbering.{ArePaired}

module _ {X Y : Type 0} (R : X → Y → Type 0) where
  pub paired-append : (xs : List X) (ys : List Y) (vs : List X) (ws : List Y) → ArePaired R xs ys → ArePaired R vs ws → ArePaired R (xs ++ vs) (ys ++ ws)
  paired-append [] [] vs ws first second = second
  paired-append [] (y ∷ ys) vs ws first second = absurd first
  paired-append (x ∷ xs) [] vs ws first second = absurd first
  paired-append (x ∷ xs) (y ∷ ys) vs ws first second = (first.0, paired-append xs ys vs ws first.1 second)

  pub paired-length : (xs : List X) (ys : List Y) → ArePaired R xs ys → length xs ≡ length ys
  paired-length [] [] paired = refl
  paired-length [] (y ∷ ys) paired = absurd paired
  paired-length (x ∷ xs) [] paired = absurd paired
  paired-length (x ∷ xs) (y ∷ ys) paired = ap suc (paired-length xs ys paired.1)

  -- the items at one place are related
  pub paired-at : (xs : List X) (ys : List Y) → ArePaired R xs ys → (place : ℕ) (x : X) (y : Y) → slice_get xs place ≡ Some x → slice_get ys place ≡ Some y → R x y
  paired-at [] ys paired place x y at_x at_y = absurd (none-some x at_x)
  paired-at (v ∷ xs) [] paired place x y at_x at_y = absurd paired
  paired-at (v ∷ xs) (w ∷ ys) paired zero x y at_x at_y =
      let own : v ≡ x = same_Some v x at_x in
      let other : w ≡ y = same_Some w y at_y in
      let at : R v w = paired.0 in rw (← own, ← other) at
  paired-at (v ∷ xs) (w ∷ ys) paired (suc place) x y at_x at_y = paired-at xs ys paired.1 place x y at_x at_y

  -- items that are related at each of the first places
  pub paired-take : (count : ℕ) (xs : List X) (ys : List Y) → count ≤ length xs → count ≤ length ys
      → ((place : ℕ) (x : X) (y : Y) → place < count → slice_get xs place ≡ Some x → slice_get ys place ≡ Some y → R x y) → ArePaired R (take count xs) (take count ys)
  paired-take zero xs ys long_x long_y related = tt
  paired-take (suc count) [] ys long_x long_y related = absurd (omega arith)
  paired-take (suc count) (x ∷ xs) [] long_x long_y related = absurd (omega arith)
  paired-take (suc count) (x ∷ xs) (y ∷ ys) long_x long_y related = (
    related 0 x y (omega arith) refl refl,
    paired-take count xs ys (omega arith) (omega arith) (λ place v w less at_v at_w. related (suc place) v w (omega arith) at_v at_w),
  )

-- related items give paired lists
pub paired-flat_map : {X Y A B : Type 0} (R : X → Y → Type 0) (S : A → B → Type 0) (f : X → List A) (g : Y → List B) → ((x : X) (y : Y) → R x y → ArePaired S (f x) (g y))
    → (xs : List X) (ys : List Y) → ArePaired R xs ys → ArePaired S (flat_map f xs) (flat_map g ys)
paired-flat_map R S f g each [] [] paired = tt
paired-flat_map R S f g each [] (y ∷ ys) paired = absurd paired
paired-flat_map R S f g each (x ∷ xs) [] paired = absurd paired
paired-flat_map R S f g each (x ∷ xs) (y ∷ ys) paired =
    paired-append S (f x) (g y) (flat_map f xs) (flat_map g ys) (each x y paired.0) (paired-flat_map R S f g each xs ys paired.1)

-- one item more on either side
pub paired-one : {Y : Type 0} (R : ℕ → Y → Type 0) (xs items : List ℕ) (i : ℕ) (made new : List Y) (y : Y) → items ≡ xs → i < length items → ArePaired R (take i xs) made
    → R (get_or items i 0) y → new ≡ made ++ y ∷ [] → ArePaired R (take (i + 1) xs) new
paired-one R xs items i made new y same within paired own is =
    let x = get_or items i 0 in
    let items_paired : ArePaired R (take i items) made = subst (λ list. ArePaired R (take i list) made) (sym same) paired in
    let longer : take (i + 1) xs ≡ take i items ++ x ∷ []
    = ap (λ list. take (i + 1) list) (sym same) ∙ ap (λ count. take count items) (let next : i + 1 ≡ suc i = omega arith in next) ∙ take-suc items i 0 within in
    subst (λ list. ArePaired R list new) (sym longer) (subst (ArePaired R (take i items ++ x ∷ [])) (sym is) (paired-append R (take i items) made (x ∷ []) (y ∷ []) items_paired (own, tt)))

-- lists with equal items are equal
pub lists_equal : {X : Type 0} (xs ys : List X) → length xs ≡ length ys
    → ((place : ℕ) (x y : X) → slice_get xs place ≡ Some x → slice_get ys place ≡ Some y → x ≡ y) → xs ≡ ys
lists_equal xs ys long each = same_lists xs ys long (λ place d less.
    let held = slice_get-held xs place less in
    let held_too = slice_get-held ys place (omega (arith, less, long)) in
    get_or_from_slice_get xs place held.0 d held.1 ∙ each place held.0 held_too.0 held.1 held_too.1 ∙ sym (get_or_from_slice_get ys place held_too.0 d held_too.1))

-- items that are related at each place
pub paired-all : {X Y : Type 0} (R : X → Y → Type 0) (xs : List X) (ys : List Y) → length xs ≡ length ys
    → ((place : ℕ) (x : X) (y : Y) → slice_get xs place ≡ Some x → slice_get ys place ≡ Some y → R x y) → ArePaired R xs ys
paired-all R xs ys long each =
    let first = paired-take R (length xs) xs ys (omega arith) (omega (arith, long)) (λ place x y less at_x at_y. each place x y at_x at_y) in
    subst (λ list. ArePaired R list ys) (take_all (length xs) xs (omega arith)) (subst (ArePaired R (take (length xs) xs)) (take_all (length xs) ys (omega (arith, long))) first)
