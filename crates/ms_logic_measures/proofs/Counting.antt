-- The items of short lists, one after the other, and the number of things.
use Rattle.std.proofs.Common.{◌≡◌, ℕ, zero, suc, ◌<◌, ◌↔◌, List, [], ◌∷◌, slice_get, Some, AllPairs, subst, arith}
use Rattle.std.specs.List.{AllByRecursion}
use Rattle.std.proofs.lemmas.List.Elements.{All-from_recursion}
use Rattle.std.proofs.lemmas.List.Kept.{AllPairs-cons}
use Rattle.std.proofs.lemmas.Option.{same_Some, none-some}
use Rattle.ms_logic_measures.specs.CallMeasures.{IsNumberOf}

-- what holds of each item at its place
abbrev pub EachPlace : {A : Type 0} → (ℕ → A → Type 0) → List A → Type 0
EachPlace P [] = Unit {0}
EachPlace P (item ∷ items) = P 0 item × EachPlace (λ place. P (suc place)) items

pub at_place : {A : Type 0} (P : ℕ → A → Type 0) (items : List A) → EachPlace P items →
    (place : ℕ) (item : A) → slice_get items place ≡ Some item → P place item
at_place P [] each place item held = absurd (none-some item held)
at_place P (first ∷ items) each zero item held = subst (P 0) (same_Some first item held) each.0
at_place P (first ∷ items) each (suc place) item held = at_place (λ k. P (suc k)) items each.1 place item held

-- what holds of each number below another
abbrev pub EachBelow : ℕ → (ℕ → Type 0) → Type 0
EachBelow zero P = Unit {0}
EachBelow (suc n) P = P 0 × EachBelow n (λ i. P (suc i))

pub at_number : (n : ℕ) (P : ℕ → Type 0) → EachBelow n P → (i : ℕ) → i < n → P i
at_number zero P each i below = absurd (omega arith)
at_number (suc n) P each zero below = each.0
at_number (suc n) P each (suc i) below = at_number n (λ k. P (suc k)) each.1 i (omega arith)

-- what holds of each item and each later one
abbrev pub EachPair : {A : Type 0} → (A → A → Type 0) → List A → Type 0
EachPair R [] = Unit {0}
EachPair R (item ∷ items) = AllByRecursion (R item) items × EachPair R items

pub of_each_pair : {A : Type 0} (R : A → A → Type 0) (items : List A) → EachPair R items → AllPairs R items
of_each_pair R [] each = λ i j d below within. absurd (omega (arith, within))
of_each_pair R (item ∷ items) each =
    AllPairs-cons R item items (All-from_recursion (R item) items each.0) (of_each_pair R items each.1)

-- as many things, where they are things in another way and two are alike in another way
pub number_along : {A : Type 0} (AreAlike AreAlikeToo : A → A → Type 0) (IsItem IsItemToo : A → Type 0) (n : ℕ) →
    ((one other : A) → AreAlike one other ↔ AreAlikeToo one other) → ((one : A) → IsItem one ↔ IsItemToo one) →
    IsNumberOf AreAlike IsItem n → IsNumberOf AreAlikeToo IsItemToo n
number_along AreAlike AreAlikeToo IsItem IsItemToo n alikes are counted = record {
  chosen = counted.chosen;
  items = λ i d below. (are _).0 (counted.items i d below);
  different = λ i j d below within alike. counted.different i j d below within ((alikes _ _).1 alike);
  complete = λ item is. let like = counted.complete item ((are item).1 is) in (like.0, like.1, like.2, like.3, (alikes item like.1).0 like.4);
  count = counted.count;
}

-- 0 is not 1, in both directions
pub not_0_1 : ◌≡◌ {A = ℕ} 0 1 → ⊥
not_0_1 same = omega (arith, same)

pub not_1_0 : ◌≡◌ {A = ℕ} 1 0 → ⊥
not_1_0 same = omega (arith, same)
