-- Two counts of the same things are equal, by the pigeonhole principle.
use Rattle.std.proofs.Common.{◌≡◌, ℕ, ◌<◌, ◌≤◌, ◌⊎◌, inl, inr, ⊎_elim, List, [], ◌∷◌, length, slice_index_or, All, Any, AllPairs, sym, subst, ◌∙◌, arith}
use Rattle.std.proofs.lemmas.Bool.{cases_lt, cases_order}
use Rattle.std.proofs.lemmas.List.{get_or_default}
use Rattle.ms_logic_measures.specs.CallMeasures.{IsNumberOf}
use Rattle.std_collections.proofs.IndexTableLemmas.Probe.{pigeonhole}

module _ {A : Type 0} (AreAlike : A → A → Type 0) (IsItem : A → Type 0) (symmetric : (one other : A) → AreAlike one other → AreAlike other one)
    (transitive : (one two three : A) → AreAlike one two → AreAlike two three → AreAlike one three) where
  module _ (first : A) (more others : List A) (items : All IsItem (first ∷ more)) (different : AllPairs (λ one other. AreAlike one other → ⊥) (first ∷ more))
      (complete : (item : A) → IsItem item → Any (λ one. AreAlike item one) others) where
    abbrev item_at : ℕ → A
    item_at i = slice_index_or (first ∷ more) i first

    like : (i : ℕ) → i < length (first ∷ more) → Any (λ one. AreAlike (item_at i) one) others
    like i less = complete (item_at i) (items i first less)

    -- the place of the item that is like a chosen one
    abbrev place_by : (i : ℕ) → (i < length (first ∷ more)) ⊎ (length (first ∷ more) ≤ i) → ℕ
    place_by i (inl less) = (like i less).0
    place_by i (inr past) = 0

    abbrev place_of : ℕ → ℕ
    place_of i = place_by i (cases_lt i (length (first ∷ more)))

    abbrev HasLike : ℕ → ℕ → Type 0
    HasLike i place = (one : A) × (place < length others) × (slice_index_or others place one ≡ one) × AreAlike (item_at i) one

    placed_by : (i : ℕ) → i < length (first ∷ more) → (test : (i < length (first ∷ more)) ⊎ (length (first ∷ more) ≤ i)) → HasLike i (place_by i test)
    placed_by i less (inl also) = let one = like i also in (one.1, one.2, one.3, one.4)
    placed_by i less (inr past) = absurd (omega (arith, less, past))

    placed : (i : ℕ) → i < length (first ∷ more) → HasLike i (place_of i)
    placed i less = placed_by i less (cases_lt i (length (first ∷ more)))

    -- two chosen ones that are like the item at one place are alike
    both_alike : (i j place : ℕ) → HasLike i place → HasLike j place → AreAlike (item_at i) (item_at j)
    both_alike i j place one two =
        let same : two.0 ≡ one.0 = sym two.2 ∙ (get_or_default others place two.0 one.0 one.1 ∙ one.2) in
        transitive (item_at i) one.0 (item_at j) one.3 (subst (λ (a : A). AreAlike a (item_at j)) same (symmetric (item_at j) two.0 two.3))

    apart : (i j : ℕ) → i < length (first ∷ more) → j < length (first ∷ more) → place_of i ≡ place_of j → i ≡ j
    apart i j less_i less_j same =
        let both = both_alike i j (place_of j) (subst (HasLike i) same (placed i less_i)) (placed j less_j) in
        ⊎_elim (λ is. is) (λ differ. ⊎_elim
        (λ before. absurd (different i j first before less_j both))
        (λ behind. absurd (different j i first behind less_i (symmetric (item_at i) (item_at j) both)))
        differ) (cases_order i j)

    some_no_more : length (first ∷ more) ≤ length others
    some_no_more = pigeonhole (length (first ∷ more)) (length others) place_of (λ i less. (placed i less).1) apart

  -- things that differ are no more than a list that has one like each
  no_more : (chosen others : List A) → All IsItem chosen → AllPairs (λ one other. AreAlike one other → ⊥) chosen →
      ((item : A) → IsItem item → Any (λ one. AreAlike item one) others) → length chosen ≤ length others
  no_more [] others items different complete = omega arith
  no_more (first ∷ more) others items different complete = some_no_more first more others items different complete

  -- of two counts of the same things neither is the greater
  counts_agree : (n m : ℕ) → IsNumberOf AreAlike IsItem n → IsNumberOf AreAlike IsItem m → n ≤ m
  counts_agree n m counted other =
      let less = no_more counted.chosen other.chosen counted.items counted.different other.complete in
      omega (arith, counted.count, other.count, less)

  pub one_count : (n m : ℕ) → IsNumberOf AreAlike IsItem n → IsNumberOf AreAlike IsItem m → n ≡ m
  one_count n m counted other =
      let less = counts_agree n m counted other in let more = counts_agree m n other counted in omega (arith, less, more)
