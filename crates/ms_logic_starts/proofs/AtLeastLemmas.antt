-- Items that differ are no more than their labels, and no more than any exact count.
use Rattle.std.proofs.Common.{◌≡◌, ℕ, suc, ◌+◌, ◌*◌, ◌<◌, ◌≤◌, ◌⊎◌, inl, inr, ⊎_elim, List, [], ◌∷◌, length, slice_index_or, All, AllPairs, refl, sym, subst, ◌∙◌, arith}
use Rattle.std.proofs.Math.Nat.{mul-le-mul_right}
use Rattle.std.proofs.lemmas.Bool.{cases_lt, cases_order}
use Rattle.std.proofs.lemmas.List.{get_or_default}
use Rattle.ms_logic_measures.specs.CallMeasures.{IsNumberOf}
use Rattle.std_collections.proofs.IndexTableLemmas.Probe.{pigeonhole}
use Rattle.ms_logic_starts.specs.AtLeast.{IsAtLeastNumber, IsEquivalence, IsLabelling}

module _ (n m : ℕ) (R : ℕ → ℕ → Type 0) (choose : (i : ℕ) → i < n → (v : ℕ) × (v < m) × R i v) where
  chosen_by : (i : ℕ) → (i < n) ⊎ (n ≤ i) → ℕ
  chosen_by i (inl less) = (choose i less).0
  chosen_by i (inr past) = 0

  chosen_is : (i : ℕ) → i < n → (at : (i < n) ⊎ (n ≤ i)) → (chosen_by i at < m) × R i (chosen_by i at)
  unfolding chosen_by
  chosen_is i less (inl also) = ((choose i also).1, (choose i also).2)
  chosen_is i less (inr past) = absurd (omega (arith, less, past))

  -- where a relation gives each number below a bound one below another bound, and none to two, the first bound is at most the second
  no_more : ((i j v : ℕ) → i < n → j < n → R i v → R j v → i ≡ j) → n ≤ m
  no_more apart =
      pigeonhole n m (λ i. chosen_by i (cases_lt i n)) (λ i less. (chosen_is i less (cases_lt i n)).0)
      (λ i j less_i less_j same. apart i j (chosen_by j (cases_lt j n)) less_i less_j
      (subst (R i) same (chosen_is i less_i (cases_lt i n)).1) (chosen_is j less_j (cases_lt j n)).1)

module _ {A : Type 0} (AreAlike : A → A → Type 0) (IsItem : A → Type 0) where
  module _ (HasLabel : A → ℕ → Type 0) (m : ℕ) (labelled : (item : A) → IsItem item → (label : ℕ) × (label < m) × HasLabel item label)
      (alike : (one other : A) → IsItem one → IsItem other → (label : ℕ) → HasLabel one label → HasLabel other label → AreAlike one other) where
    listed : (chosen : List A) → All IsItem chosen → AllPairs (λ one other. ¬ AreAlike one other) chosen → length chosen ≤ m
    listed [] items different = omega arith
    listed (first ∷ more) items different =
        no_more (length (first ∷ more)) m (λ i. HasLabel (slice_index_or (first ∷ more) i first))
        (λ i less. labelled (slice_index_or (first ∷ more) i first) (items i first less))
        (λ i j label less_i less_j one other. ⊎_elim
        (λ same. same)
        (λ apart. ⊎_elim
        (λ before. absurd (different i j first before less_j
        (alike (slice_index_or (first ∷ more) i first) (slice_index_or (first ∷ more) j first) (items i first less_i) (items j first less_j) label one other)))
        (λ behind. absurd (different j i first behind less_i
        (alike (slice_index_or (first ∷ more) j first) (slice_index_or (first ∷ more) i first) (items j first less_j) (items i first less_i) label other one)))
        apart) (cases_order i j))

    -- where each item has a number below a bound as its label, and items with one label are alike, there are at most so many
    pub at_most_numbers : (n : ℕ) → IsAtLeastNumber AreAlike IsItem n → n ≤ m
    at_most_numbers n counted = let few = listed counted.chosen counted.items counted.different in omega (arith, few, counted.count)

  -- the place of an item that is like this one, in a list that has one like each item
  abbrev IsPlaceOf : List A → A → ℕ → Type 0
  IsPlaceOf others item place = (one : A) × (place < length others) × (slice_index_or others place one ≡ one) × AreAlike item one

  both_alike : IsEquivalence AreAlike → (others : List A) (one other : A) (place : ℕ) → IsPlaceOf others one place → IsPlaceOf others other place → AreAlike one other
  both_alike equivalence others one other place first second =
      let same : second.0 ≡ first.0 = sym second.2 ∙ (get_or_default others place second.0 first.0 first.1 ∙ first.2) in
      equivalence.transitive one first.0 other first.3
      (subst (λ (a : A). AreAlike a other) same (equivalence.symmetric other second.0 second.3))

  -- what is at least a number is at most each exact count
  pub at_most_count : IsEquivalence AreAlike → (n m : ℕ) → IsAtLeastNumber AreAlike IsItem n → IsNumberOf AreAlike IsItem m → n ≤ m
  at_most_count equivalence n m least counted =
      let few = at_most_numbers (IsPlaceOf counted.chosen) (length counted.chosen)
      (λ item is. let like = counted.complete item is in (like.0, like.2, (like.1, like.2, like.3, like.4)))
      (λ one other is_one is_other place first second. both_alike equivalence counted.chosen one other place first second) n least in
      omega (arith, few, counted.count)

-- pairs below a and b, as numbers below a · b
pair_below : (a b left right : ℕ) → left < a → right < b → left * b + right < a * b
pair_below a b left right less_left less_right =
    let rows : suc left * b ≤ a * b = mul-le-mul_right b less_left in
    let row : suc left * b ≡ left * b + b = grind arith in
    omega (arith, rows, row, less_right)

lesser_row : (b left right other_left other_right : ℕ) → left < other_left → right < b → left * b + right < other_left * b + other_right
lesser_row b left right other_left other_right less below = let row = pair_below other_left b left right less below in omega (arith, row)

one_pair : (b left right other_left other_right : ℕ) → right < b → other_right < b → left * b + right ≡ other_left * b + other_right
    → (left ≡ other_left) × (right ≡ other_right)
one_pair b left right other_left other_right below other_below same = ⊎_elim
    (λ equal. (equal, let rows : left * b ≡ other_left * b = rw equal refl in omega (arith, rows, same)))
    (λ apart. ⊎_elim
    (λ less. let row = lesser_row b left right other_left other_right less below in absurd (omega (arith, row, same)))
    (λ more. let row = lesser_row b other_left other_right left right more other_below in absurd (omega (arith, row, same)))
    apart) (cases_order left other_left)

module _ {A : Type 0} (AreAlike : A → A → Type 0) (IsItem : A → Type 0) (HasLabel : A → ℕ → ℕ → Type 0) (a b : ℕ) where
  abbrev HasNumber : A → ℕ → Type 0
  HasNumber item number = (left right : ℕ) × (right < b) × (number ≡ left * b + right) × HasLabel item left right

  one_label : IsLabelling AreAlike IsItem HasLabel a b → (one other : A) → IsItem one → IsItem other → (number : ℕ) → HasNumber one number → HasNumber other number → AreAlike one other
  one_label labelling one other is_one is_other number first second =
      let same = one_pair b first.0 first.1 second.0 second.1 first.2 second.2 (sym first.3 ∙ second.3) in
      labelling.alike one other is_one is_other second.0 second.1
      (subst (λ left. HasLabel one left second.1) same.0 (subst (HasLabel one first.0) same.1 first.4)) second.4

  -- items are at most as many as their labels
  pub at_most_labels : (n : ℕ) → IsLabelling AreAlike IsItem HasLabel a b → IsAtLeastNumber AreAlike IsItem n → n ≤ a * b
  at_most_labels n labelling least =
      at_most_numbers AreAlike IsItem HasNumber (a * b)
      (λ item is. let label = labelling.labelled item is in (
        label.0 * b + label.1,
        pair_below a b label.0 label.1 label.2 label.3,
        (label.0, label.1, label.3, refl, label.4),
      ))
      (one_label labelling) n least
