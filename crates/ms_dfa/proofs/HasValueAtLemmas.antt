-- Whether a variable with a value stands at a place.
use Rattle.std.proofs.Common.{◌≡◌, ℕ, zero, suc, ◌⊎◌, inl, inr, Bool, true, false, IsTrue, List, [], ◌∷◌, refl, subst, sym}
use Rattle.std.proofs.lemmas.Bool.{false≢true}
use Rattle.std.proofs.lemmas.Option.{none-some, same_Some}
use Rattle.ms_logic.specs.declared.mode.Order.{Order}
use Rattle.ms_logic.specs.Assignment.{Variable}
use Rattle.ms_logic_words.specs.Content.{HasValueAt}

-- a variable with a value stands at a place, or none does
pub HasValueAt-or_not : (variables : List Variable) (has_value : Order → Bool) (place : ℕ) → HasValueAt variables has_value place ⊎ (¬ HasValueAt variables has_value place)
HasValueAt-or_not [] has_value place = inr (λ there. none-some there.0 there.1)
HasValueAt-or_not (v ∷ vs) has_value zero = by_test (has_value v.order) refl
  where
    by_test : (test : Bool) → has_value v.order ≡ test → HasValueAt (v ∷ vs) has_value 0 ⊎ (¬ HasValueAt (v ∷ vs) has_value 0)
    by_test true is = inl (v, refl, subst IsTrue (sym is) refl)
    by_test false is = inr (λ there.
        let same : v ≡ there.0 = same_Some v there.0 there.1 in
        let holds : IsTrue (has_value v.order) = subst (λ (u : Variable). IsTrue (has_value u.order)) (sym same) there.2 in
        let never : IsTrue false = subst IsTrue is holds in false≢true never)
HasValueAt-or_not (v ∷ vs) has_value (suc place) = HasValueAt-or_not vs has_value place
