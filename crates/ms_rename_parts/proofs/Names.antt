-- The numbers of variables in the list of the distinct ones, and the places of these numbers.
use Rattle.std.proofs.Common.{◌≡◌, ℕ, suc, ◌<◌, ◌≤◌, nat_lt, nat_eq, inl, inr, ⊎_elim, Bool, true, false, if◌then◌else◌, List, [], ◌∷◌, ◌++◌, refl, sym, ap, subst, ◌∙◌, arith}
use Rattle.std.proofs.lemmas.Bool.{eqb-true}
use Rattle.std.proofs.lemmas.Bool.Decides.{nat_tests}
use Rattle.ms_logic.specs.Assignment.{Variable}
use Rattle.ms_logic.specs.Lists.{AreRising, IsAmong}
use Rattle.ms_dfa_explore.specs.Tracks.{distinct, gathered_with, merged, place_of, without_first}
use Rattle.ms_dfa_explore.proofs.TracksLemmas.{AreAbove, above-first, merged-left}

-- some variable of the list has this number
abbrev pub HasName : List Variable → ℕ → Type 0
HasName vs name = (v : Variable) × IsAmong vs v × (v.name ≡ name)

-- the number of a variable that is merged to others is there
new_name : (there : List Variable) (v : Variable) → HasName (merged there (v ∷ [])) v.name
new_name [] v = (v, inl refl, refl)
new_name (t ∷ ts) v = by_test (nat_lt v.name t.name) (new_name ts v)
  where
    by_equal : (test : Bool) → nat_eq v.name t.name ≡ test → HasName (merged ts (v ∷ [])) v.name → HasName (t ∷ merged ts (if test then [] else v ∷ [])) v.name
    by_equal true is later = (t, inl refl, sym (eqb-true v.name t.name is))
    by_equal false is later = (later.0, inr later.1, later.2)

    by_test : (test : Bool) → HasName (merged ts (v ∷ [])) v.name → HasName ((if test then v ∷ [] else []) ++ t ∷ merged ts (without_first t.name (if test then [] else v ∷ []))) v.name
    by_test true later = (v, inl refl, refl)
    by_test false later = by_equal (nat_eq v.name t.name) refl later

kept_name : (there vs : List Variable) (name : ℕ) → HasName there name → HasName (gathered_with there vs) name
kept_name there [] name has = has
kept_name there (v ∷ vs) name has = kept_name (merged there (v ∷ [])) vs name (has.0, merged-left there (v ∷ []) has.0 has.1, has.2)

gathered_name : (there vs : List Variable) (w : Variable) → IsAmong vs w → HasName (gathered_with there vs) w.name
gathered_name there [] w among = absurd among
gathered_name there (v ∷ vs) w among = ⊎_elim
    (λ same. subst (λ (u : Variable). HasName (gathered_with (merged there (v ∷ [])) vs) u.name) same (kept_name (merged there (v ∷ [])) vs v.name (new_name there v)))
    (λ later. gathered_name (merged there (v ∷ [])) vs w later)
    among

-- the distinct variables have the number of each
pub distinct_name : (vs : List Variable) (w : Variable) → IsAmong vs w → HasName (distinct vs) w.name
distinct_name vs w among = gathered_name [] vs w among

above_among : (name : ℕ) (vs : List Variable) (w : Variable) → AreAbove name vs → IsAmong vs w → name < w.name
above_among name [] w above among = absurd among
above_among name (v ∷ vs) w above among =
    ⊎_elim (λ same. subst (λ (u : Variable). name < u.name) same above.0) (λ there. above_among name vs w above.1 there) among

-- in a rising list greater numbers have no lower places
pub place_rises : (vs : List Variable) → AreRising vs → (x y : ℕ) → x ≤ y → HasName vs x → place_of x vs ≤ place_of y vs
place_rises [] rising x y less has = absurd has.1
place_rises (v ∷ vs) rising x y less has = by_tests (nat_eq v.name x) refl (nat_eq v.name y) refl (place_rises vs rising.1 x y less)
  where
    behind : nat_eq v.name x ≡ false → IsAmong vs has.0
    behind is = ⊎_elim
        (λ same. let name : v.name ≡ x = ap (λ (u : Variable). u.name) same ∙ has.2 in absurd (grind (arith, nat_tests, is, name)))
        (λ there. there)
        has.1

    by_tests : (test : Bool) → nat_eq v.name x ≡ test → (other : Bool) → nat_eq v.name y ≡ other → (HasName vs x → place_of x vs ≤ place_of y vs)
        → (if test then 0 else suc (place_of x vs)) ≤ (if other then 0 else suc (place_of y vs))
    by_tests true is other is_other later = omega arith
    by_tests false is true is_other later =
        let over = above_among v.name vs has.0 (above-first v vs rising) (behind is) in
        let equal = eqb-true v.name y is_other in
        let name = has.2 in
        absurd (omega (arith, over, equal, name, less))
    by_tests false is false is_other later =
        let more = later (has.0, behind is, has.2) in
        omega (arith, more)
