-- Lists whose variables have different numbers: rising ones, and lists in another order.
use Rattle.std.proofs.Common.{◌≡◌, ℕ, ◌+◌, ◌<◌, ◌≤◌, nat_le, Bool, true, false, if◌then◌else◌, ◌⊎◌, inl, inr, ⊎_elim, List, [], ◌∷◌, map, refl, sym, ap, subst, ◌∙◌, arith}
use Rattle.ms_logic.specs.Assignment.{Variable}
use Rattle.ms_logic.specs.Lists.{IsAmong}
use Rattle.ms_logic_readers.specs.Scoped.{AreDistinct}
use Rattle.ms_logic_measures.specs.CallMeasures.{inserted, sorted}

-- the variables of numbered ones
abbrev pub variables_in : List (ℕ × Variable) → List Variable
variables_in row = map (λ (p : ℕ × Variable). p.1) row

-- one that is inserted stands there with the others
was_there : (x : ℕ) (v : Variable) (row : List (ℕ × Variable)) (u : Variable) → IsAmong (variables_in (inserted x v row)) u → (v ≡ u) ⊎ IsAmong (variables_in row) u
was_there x v [] u among = among
was_there x v (first ∷ more) u among = by_test (nat_le x first.0) (was_there x v more u) among
  where
    by_test : (test : Bool) → (IsAmong (variables_in (inserted x v more)) u → (v ≡ u) ⊎ IsAmong (variables_in more) u)
        → IsAmong (variables_in (if test then (x, v) ∷ (first ∷ more) else first ∷ inserted x v more)) u → (v ≡ u) ⊎ IsAmong (variables_in (first ∷ more)) u
    by_test true later there = there
    by_test false later there = ⊎_elim (λ same. inr (inl same)) (λ behind. ⊎_elim (λ own. inl own) (λ old. inr (inr old)) (later behind)) there

is_there : (x : ℕ) (v : Variable) (row : List (ℕ × Variable)) (u : Variable) → (v ≡ u) ⊎ IsAmong (variables_in row) u → IsAmong (variables_in (inserted x v row)) u
is_there x v [] u among = among
is_there x v (first ∷ more) u among = by_test (nat_le x first.0) (is_there x v more u) among
  where
    by_test : (test : Bool) → ((v ≡ u) ⊎ IsAmong (variables_in more) u → IsAmong (variables_in (inserted x v more)) u)
        → (v ≡ u) ⊎ IsAmong (variables_in (first ∷ more)) u → IsAmong (variables_in (if test then (x, v) ∷ (first ∷ more) else first ∷ inserted x v more)) u
    by_test true later there = there
    by_test false later there = ⊎_elim (λ own. inr (later (inl own))) (λ old. ⊎_elim (λ same. inl same) (λ behind. inr (later (inr behind))) old) there

inserted_distinct : (x : ℕ) (v : Variable) (row : List (ℕ × Variable)) → ((w : Variable) → IsAmong (variables_in row) w → w.name ≡ v.name → ⊥) → AreDistinct (variables_in row)
    → AreDistinct (variables_in (inserted x v row))
inserted_distinct x v [] new distinct = (λ w among same. among, tt)
inserted_distinct x v (first ∷ more) new distinct = by_test (nat_le x first.0) (inserted_distinct x v more (λ w among. new w (inr among)) distinct.1)
  where
    by_test : (test : Bool) → AreDistinct (variables_in (inserted x v more)) → AreDistinct (variables_in (if test then (x, v) ∷ (first ∷ more) else first ∷ inserted x v more))
    by_test true later = (new, distinct)
    by_test false later = (
      λ w among same. ⊎_elim
          (λ own. new first.1 (inl refl) (sym same ∙ ap (λ (u : Variable). u.name) (sym own)))
          (λ old. distinct.0 w old same) (was_there x v more w among),
      later,
    )

-- sorted variables
was_in : (row : List (ℕ × Variable)) (u : Variable) → IsAmong (variables_in (sorted row)) u → IsAmong (variables_in row) u
was_in [] u among = among
was_in (first ∷ more) u among = ⊎_elim (λ own. inl own) (λ old. inr (was_in more u old)) (was_there first.0 first.1 (sorted more) u among)

pub in_sorted : (row : List (ℕ × Variable)) (u : Variable) → IsAmong (variables_in row) u → IsAmong (variables_in (sorted row)) u
in_sorted [] u among = among
in_sorted (first ∷ more) u among = is_there first.0 first.1 (sorted more) u (⊎_elim (λ own. inl own) (λ old. inr (in_sorted more u old)) among)

pub sorted_distinct : (row : List (ℕ × Variable)) → AreDistinct (variables_in row) → AreDistinct (variables_in (sorted row))
sorted_distinct [] distinct = tt
sorted_distinct (first ∷ more) distinct =
    inserted_distinct first.0 first.1 (sorted more) (λ w among same. distinct.0 w (was_in more w among) same) (sorted_distinct more distinct.1)
