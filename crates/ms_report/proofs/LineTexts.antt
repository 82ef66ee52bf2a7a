-- The lines of what stands for names, one after the other.
use Rattle.std.proofs.Common.{◌≡◌, ℕ, zero, suc, min, List, [], ◌∷◌, ◌++◌, length, map, take, slice_get, codes, Some, refl, ap, sym, ◌∙◌, arith}
use Rattle.std.proofs.lemmas.List.{append_assoc}
use Rattle.ms_report.specs.Report.{lines_text}

module _ {A : Type 0} (spelled : A → List ℕ) where
  -- one line more
  pub lines_text-more : (names : List (List ℕ)) (items : List A) (i : ℕ) (name : List ℕ) (item : A)
      → slice_get names i ≡ Some name → slice_get items i ≡ Some item
      → lines_text spelled (take (suc i) names) (take (suc i) items) ≡ lines_text spelled (take i names) (take i items) ++ lines_text spelled (name ∷ []) (item ∷ [])
  lines_text-more [] items i name item named is = let never : ⊥ = cc in absurd never
  lines_text-more (n ∷ ns) [] i name item named is = let never : ⊥ = cc in absurd never
  lines_text-more (n ∷ ns) (a ∷ as_) zero name item named is =
      let same_name : n ≡ name = cc in
      let same_item : a ≡ item = cc in
      rw (same_name, same_item)
  lines_text-more (n ∷ ns) (a ∷ as_) (suc i) name item named is =
      let rest = lines_text-more ns as_ i name item named is in
      ap (λ lines. n ++ codes " = " ++ spelled a ++ 10 ∷ [] ++ lines) rest
      ∙ sym (append_assoc (n ++ codes " = " ++ spelled a ++ 10 ∷ []) (lines_text spelled (take i ns) (take i as_)) (lines_text spelled (name ∷ []) (item ∷ [])))

  -- as many lines as there are names and items
  pub lines_text-cut : (names : List (List ℕ)) (items : List A) (count : ℕ) → count ≡ min (length names) (length items)
      → lines_text spelled (take count names) (take count items) ≡ lines_text spelled names items
  lines_text-cut [] items zero least = refl
  lines_text-cut [] items (suc count) least = refl
  lines_text-cut (n ∷ ns) [] zero least = refl
  lines_text-cut (n ∷ ns) [] (suc count) least = refl
  lines_text-cut (n ∷ ns) (a ∷ as_) zero least = absurd (omega (arith, least))
  lines_text-cut (n ∷ ns) (a ∷ as_) (suc count) least =
      ap (λ lines. n ++ codes " = " ++ spelled a ++ 10 ∷ [] ++ lines) (lines_text-cut ns as_ count (omega (arith, least)))

-- items that are made of others, by what they are made of
pub lines_text-map : {A B : Type 0} (spelled : B → List ℕ) (make : A → B) (names : List (List ℕ)) (items : List A)
    → lines_text (λ item. spelled (make item)) names items ≡ lines_text spelled names (map make items)
lines_text-map spelled make [] items = refl
lines_text-map spelled make (n ∷ ns) [] = refl
lines_text-map spelled make (n ∷ ns) (a ∷ as_) = ap (λ lines. n ++ codes " = " ++ spelled (make a) ++ 10 ∷ [] ++ lines) (lines_text-map spelled make ns as_)
