-- Numbered variables, sorted by their numbers: the same items, and numbers that do not fall.
use Rattle.std.proofs.Common.{◌≡◌, ℕ, zero, suc, ◌<◌, ◌≤◌, nat_le, Bool, true, false, if◌then◌else◌, List, [], ◌∷◌, length, slice_get, slice_index, Some, refl, sym, ap, subst, ◌∙◌, ⊎_elim, map, arith}
use Rattle.std.specs.List.{zip}
use Rattle.std.proofs.lemmas.Bool.{cases_lt}
use Rattle.std.proofs.lemmas.Bool.Decides.{nat_tests}
use Rattle.std.proofs.lemmas.Option.{none-some, same_Some}
use Rattle.ms_logic.specs.Assignment.{Variable}
use Rattle.ms_logic.specs.Lists.{Each}
use Rattle.ms_logic_measures.specs.CallMeasures.{inserted, sorted}
use Rattle.ms_logic_starts.specs.ContentStarts.{HaveDistinctNumbers}

abbrev pub Numbered : Type 0
Numbered = ℕ × Variable

-- each item is related to each behind it
abbrev pub IsOrderly : (Numbered → Numbered → Type 0) → List Numbered → Type 0
IsOrderly R [] = Unit {0}
IsOrderly R (first ∷ more) = Each (R first) more × IsOrderly R more

-- the number of one is not above that of the other
abbrev pub IsNotAbove : Numbered → Numbered → Type 0
IsNotAbove one other = one.0 ≤ other.0

-- the variables are two
abbrev pub HaveTwoNames : Numbered → Numbered → Type 0
HaveTwoNames one other = one.1.name ≡ other.1.name → ⊥

pub each_at : (P : Numbered → Type 0) (row : List Numbered) (i : ℕ) (item : Numbered) → Each P row → slice_get row i ≡ Some item → P item
each_at P [] i item each held = absurd (none-some item held)
each_at P (first ∷ more) zero item each held = subst P (same_Some first item held) each.0
each_at P (first ∷ more) (suc i) item each held = each_at P more i item each.1 held

pub orderly_at : (R : Numbered → Numbered → Type 0) (row : List Numbered) (i j : ℕ) (one other : Numbered) → IsOrderly R row → i < j
    → slice_get row i ≡ Some one → slice_get row j ≡ Some other → R one other
orderly_at R [] i j one other orderly less here there = absurd (none-some one here)
orderly_at R (first ∷ more) i zero one other orderly less here there = absurd (omega (arith, less))
orderly_at R (first ∷ more) zero (suc j) one other orderly less here there =
    subst (λ (item : Numbered). R item other) (same_Some first one here) (each_at (R first) more j other orderly.0 there)
orderly_at R (first ∷ more) (suc i) (suc j) one other orderly less here there = orderly_at R more i j one other orderly.1 (omega (arith, less)) here there

-- what holds of the items holds once one is inserted, and once they are sorted
each_inserted : (P : Numbered → Type 0) (x : ℕ) (v : Variable) (row : List Numbered) → P (x, v) → Each P row → Each P (inserted x v row)
each_inserted P x v [] own each = (own, tt)
each_inserted P x v (first ∷ more) own each = by_test (nat_le x first.0) (each_inserted P x v more own each.1)
  where
    by_test : (test : Bool) → Each P (inserted x v more) → Each P (if test then (x, v) ∷ (first ∷ more) else first ∷ inserted x v more)
    by_test true later = (own, each)
    by_test false later = (each.0, later)

pub each_sorted : (P : Numbered → Type 0) (row : List Numbered) → Each P row → Each P (sorted row)
each_sorted P [] each = tt
each_sorted P (first ∷ more) each = each_inserted P first.0 first.1 (sorted more) each.0 (each_sorted P more each.1)

module _ (R : Numbered → Numbered → Type 0) (symmetric : (one other : Numbered) → R one other → R other one) where
  orderly_inserted : (x : ℕ) (v : Variable) (row : List Numbered) → Each (R (x, v)) row → IsOrderly R row → IsOrderly R (inserted x v row)
  orderly_inserted x v [] own orderly = (tt, tt)
  orderly_inserted x v (first ∷ more) own orderly = by_test (nat_le x first.0) (orderly_inserted x v more own.1 orderly.1)
    where
      by_test : (test : Bool) → IsOrderly R (inserted x v more) → IsOrderly R (if test then (x, v) ∷ (first ∷ more) else first ∷ inserted x v more)
      by_test true later = (own, orderly)
      by_test false later = (each_inserted (R first) x v more (symmetric (x, v) first own.0) orderly.0, later)

  pub orderly_sorted : (row : List Numbered) → IsOrderly R row → IsOrderly R (sorted row)
  orderly_sorted [] orderly = tt
  orderly_sorted (first ∷ more) orderly = orderly_inserted first.0 first.1 (sorted more) (each_sorted (R first) more orderly.0) (orderly_sorted more orderly.1)

-- numbers that are sorted do not fall
lower : (low high : ℕ) (row : List Numbered) → low ≤ high → Each (λ (item : Numbered). high ≤ item.0) row → Each (λ (item : Numbered). low ≤ item.0) row
lower low high [] less each = tt
lower low high (first ∷ more) less each = (omega (arith, less, each.0), lower low high more less each.1)

rising_inserted : (x : ℕ) (v : Variable) (row : List Numbered) → IsOrderly IsNotAbove row → IsOrderly IsNotAbove (inserted x v row)
rising_inserted x v [] rises = (tt, tt)
rising_inserted x v (first ∷ more) rises = by_test (nat_le x first.0) refl (rising_inserted x v more rises.1)
  where
    by_test : (test : Bool) → nat_le x first.0 ≡ test → IsOrderly IsNotAbove (inserted x v more)
        → IsOrderly IsNotAbove (if test then (x, v) ∷ (first ∷ more) else first ∷ inserted x v more)
    by_test true is later =
        let less : x ≤ first.0 = grind (arith, nat_tests, is) in
        ((less, lower x first.0 more less rises.0), rises)
    by_test false is later =
        let less : first.0 ≤ x = grind (arith, nat_tests, is) in
        (each_inserted (IsNotAbove first) x v more less rises.0, later)

pub rising_sorted : (row : List Numbered) → IsOrderly IsNotAbove (sorted row)
rising_sorted [] = tt
rising_sorted (first ∷ more) = rising_inserted first.0 first.1 (sorted more) (rising_sorted more)

-- each item stands there still
there_inserted : (x : ℕ) (v : Variable) (row : List Numbered) → (at : ℕ) × (slice_get (inserted x v row) at ≡ Some (x, v))
there_inserted x v [] = (0, refl)
there_inserted x v (first ∷ more) = by_test (nat_le x first.0) (there_inserted x v more)
  where
    by_test : (test : Bool) → ((at : ℕ) × (slice_get (inserted x v more) at ≡ Some (x, v)))
        → (at : ℕ) × (slice_get (if test then (x, v) ∷ (first ∷ more) else first ∷ inserted x v more) at ≡ Some (x, v))
    by_test true later = (0, refl)
    by_test false later = (suc later.0, later.1)

kept_inserted : (x : ℕ) (v : Variable) (row : List Numbered) (i : ℕ) (item : Numbered) → slice_get row i ≡ Some item
    → (at : ℕ) × (slice_get (inserted x v row) at ≡ Some item)
kept_inserted x v [] i item held = absurd (none-some item held)
kept_inserted x v (first ∷ more) i item held = by_test (nat_le x first.0) i held (λ place there. kept_inserted x v more place item there)
  where
    by_test : (test : Bool) (place : ℕ) → slice_get (first ∷ more) place ≡ Some item
        → ((behind : ℕ) → slice_get more behind ≡ Some item → (at : ℕ) × (slice_get (inserted x v more) at ≡ Some item))
        → (at : ℕ) × (slice_get (if test then (x, v) ∷ (first ∷ more) else first ∷ inserted x v more) at ≡ Some item)
    by_test true place there later = (suc place, there)
    by_test false zero there later = (0, there)
    by_test false (suc place) there later = let found = later place there in (suc found.0, found.1)

pub there_sorted : (row : List Numbered) (i : ℕ) (item : Numbered) → slice_get row i ≡ Some item → (at : ℕ) × (slice_get (sorted row) at ≡ Some item)
there_sorted [] i item held = absurd (none-some item held)
there_sorted (first ∷ more) zero item held = let here = there_inserted first.0 first.1 (sorted more) in (here.0, here.1 ∙ held)
there_sorted (first ∷ more) (suc i) item held =
    let later = there_sorted more i item held in
    kept_inserted first.0 first.1 (sorted more) later.0 item later.1

-- numbers beside variables
pub zip_at : (numbers : List ℕ) (vs : List Variable) (i : ℕ) (v : Variable) → length numbers ≡ length vs → slice_get vs i ≡ Some v
    → slice_get (zip numbers vs) i ≡ Some (slice_index numbers i, v)
zip_at numbers [] i v long held = absurd (none-some v held)
zip_at [] (w ∷ vs) i v long held = absurd (omega (arith, long))
zip_at (number ∷ numbers) (w ∷ vs) zero v long held = ap (λ (u : Variable). Some (number, u)) (same_Some w v held)
zip_at (number ∷ numbers) (w ∷ vs) (suc i) v long held = zip_at numbers vs i v (omega (arith, long)) held

pub each_zip : (P : ℕ → Variable → Type 0) (numbers : List ℕ) (vs : List Variable) → ((i : ℕ) (v : Variable) → slice_get vs i ≡ Some v → P (slice_index numbers i) v)
    → Each (λ (item : Numbered). P item.0 item.1) (zip numbers vs)
each_zip P [] vs all = tt
each_zip P (number ∷ numbers) [] all = tt
each_zip P (number ∷ numbers) (w ∷ vs) all = (all 0 w refl, each_zip P numbers vs (λ i v held. all (suc i) v held))

pub two_names : (numbers : List ℕ) (vs : List Variable) → HaveDistinctNumbers vs → IsOrderly HaveTwoNames (zip numbers vs)
two_names [] vs own = tt
two_names (number ∷ numbers) [] own = tt
two_names (number ∷ numbers) (w ∷ vs) own = (
  each_zip (λ _ v. w.name ≡ v.name → ⊥) numbers vs (λ i v held same. let equal = own 0 (suc i) w v refl held same in omega (arith, equal)),
  two_names numbers vs (λ one two v u first second same. let equal = own (suc one) (suc two) v u first second same in omega (arith, equal)),
)

-- the variables of such a row
held_of : (row : List Numbered) (at : ℕ) (v : Variable) → slice_get (map (λ (item : Numbered). item.1) row) at ≡ Some v
    → (item : Numbered) × (slice_get row at ≡ Some item) × (item.1 ≡ v)
held_of [] at v held = absurd (none-some v held)
held_of (first ∷ more) zero v held = (first, refl, same_Some first.1 v held)
held_of (first ∷ more) (suc at) v held = held_of more at v held

pub distinct_row : (row : List Numbered) → IsOrderly HaveTwoNames row → HaveDistinctNumbers (map (λ (item : Numbered). item.1) row)
distinct_row row orderly one two v w first second same =
    let here = held_of row one v first in
    let there = held_of row two w second in
    let one_name : here.0.1.name ≡ there.0.1.name = ap (λ (u : Variable). u.name) here.2 ∙ same ∙ sym (ap (λ (u : Variable). u.name) there.2) in
    ⊎_elim
    (λ less. absurd (orderly_at HaveTwoNames row one two here.0 there.0 orderly less here.1 there.1 one_name))
    (λ past. ⊎_elim
    (λ less. absurd (orderly_at HaveTwoNames row two one there.0 here.0 orderly less there.1 here.1 (sym one_name)))
    (λ also. omega (arith, past, also))
    (cases_lt two one))
    (cases_lt one two)
