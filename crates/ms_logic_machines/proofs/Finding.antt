-- An item is found in a list, or is put behind it.
use Rattle.std.proofs.Common.{◌≡◌, ℕ, zero, suc, ◌⊎◌, inl, inr, ⊎_elim, List, [], ◌∷◌, slice_get, Some, ap}
use Rattle.std.proofs.lemmas.Bool.{cases_eq}
use Rattle.std.proofs.lemmas.Option.{same_Some, none-some}
use Rattle.ms_arena.specs.declared.node.Ref.{Ref}
use Rattle.ms_arena.specs.declared.node.Ref.TheVariants.{Leaf, Inner}
use Rattle.ms_arena.specs.declared.node.Node.{Node}
use Rattle.ms_logic_machines.specs.Machine.{IsTested}

-- the item stands at a place, or at none
pub found_or_new : {A : Type 0} → IsTested A → (xs : List A) (x : A)
    → ((place : ℕ) × (slice_get xs place ≡ Some x)) ⊎ ((place : ℕ) → ¬ (slice_get xs place ≡ Some x))
found_or_new test [] x = inr (λ place held. none-some x held)
found_or_new {A} test (first ∷ xs) x = ⊎_elim
    (λ same. inl (0, ap Some same))
    (λ differs. ⊎_elim
    (λ found. inl (suc found.0, found.1))
    (λ none. inr (none_at differs none))
    (found_or_new test xs x))
    (test first x)
  where
    none_at : ¬ (first ≡ x) → ((place : ℕ) → ¬ (slice_get xs place ≡ Some x)) → (place : ℕ) → ¬ (slice_get (first ∷ xs) place ≡ Some x)
    none_at differs none zero held = differs (same_Some first x held)
    none_at differs none (suc place) held = none place held

pub numbers-tested : IsTested ℕ
numbers-tested one other = ⊎_elim (λ same. inl same) (λ differs. inr differs) (cases_eq one other)

pub refs-tested : IsTested Ref
refs-tested (Leaf one) (Leaf other) = ⊎_elim (λ same. inl (ap Leaf same)) (λ differs. inr (λ same. differs cc)) (cases_eq one other)
refs-tested (Leaf one) (Inner other) = inr (λ same. cc)
refs-tested (Inner one) (Leaf other) = inr (λ same. cc)
refs-tested (Inner one) (Inner other) = ⊎_elim (λ same. inl (ap Inner same)) (λ differs. inr (λ same. differs cc)) (cases_eq one other)

pub nodes-tested : IsTested Node
nodes-tested one other = ⊎_elim
    (λ var. ⊎_elim
    (λ low. ⊎_elim
    (λ high. inl (λ i. record { var = var i; low = low i; high = high i }))
    (λ differs. inr (λ same. differs (ap (λ (node : Node). node.high) same)))
    (refs-tested one.high other.high))
    (λ differs. inr (λ same. differs (ap (λ (node : Node). node.low) same)))
    (refs-tested one.low other.low))
    (λ differs. inr (λ same. differs (ap (λ (node : Node). node.var) same)))
    (cases_eq one.var other.var)
